-- What the requests for changes ask of every list of calls from a fresh session.
use Rattle.std.specs.Prelude.{ℕ, suc, ◌≤◌, ◌<◌, ◌≡◌, ◌↔◌, ◌≢◌, List, [], ◌∷◌, ◌++◌, map, length, take, drop}
use Rattle.lists.specs.Tests.{◌among◌}
use Rattle.orderings.specs.MoreRows.{Grows, KeepsDepths}
use Rattle.orderings.specs.Systems.{Accepts}
use Rattle.orderings.specs.Timelines.{timelines}
use Rattle.std.specs.Prelude.{Ok}
use Rattle.causes.specs.declared.Cause.TheVariants.{StillOpen, StillRunning, ShortBuffer, VerdictEmpty}
use Rattle.machine.specs.declared.Success.TheVariants.{Done, Wrote, Decided}
use Rattle.machine.specs.declared.Verdict.{Verdict}
use Rattle.machine.specs.declared.Verdict.TheVariants.{NonEmpty, Empty}
use Rattle.machine.specs.declared.Phase.TheVariants.{Open, Running, Settled}
use Rattle.machine.specs.Machine.{Machine}
use Rattle.machine.specs.Word.{TellsWalk}
use Rattle.machine.specs.Calls.{round, verdict, print, expression, second}
use Rattle.machine.specs.Marks.{MarkedCall, on, mark, return_to}
use Rattle.machine.specs.Statements.{RoundsEnd, Said, SaysNoLess, SheetSays, SecondWorks, Expresses}
use Rattle.session.specs.declared.Session.{Session}
use Rattle.session.specs.declared.Reply.{Reply}
use Rattle.session.specs.Promise.{Fresh}
use Rattle.session.specs.Standing.{with_marks}
use Rattle.demands.specs.Trace.{Exchange, Trace, given, Served, onward, plain_after}
use Rattle.demands.specs.Demands.{EveryCall, Refuses}

-- C-14, at a round on the session s, where the plain machine that was fed the calls before it is m
pub record OneRound (m : Machine) (s : Session) (e : Exchange MarkedCall Reply) : Type 0 where
  -- it is done exactly when the machine runs: nothing refuses a running one
  pub accepted : (e.reply.answer ≡ Ok Done) ↔ (m.phase ≡ Running)
  -- then it is one more than s has done, and never the 130th
  pub counted : e.reply.answer ≡ Ok Done → (e.reply.session.rounds ≡ suc s.rounds) × (e.reply.session.rounds ≤ 129)

pub record Request14 : Type 0 where
  pub rounds : EveryCall (λ x s e. e.asked ≡ on round → OneRound x.now s e)
  -- whatever the call, on the way to it every round but the last opened something, and the session that it hands back has done at most 129
  pub ends : EveryCall (λ x s e. RoundsEnd x.now × (e.reply.session.rounds ≤ 129))

-- C-22, at a verdict on the session s, where the plain machine that was fed the calls before it is m
pub record OneVerdict (m : Machine) (s : Session) (e : Exchange MarkedCall Reply) : Type 0 where
  -- it is never refused, and hands back the session as it was
  pub answers : (v : Verdict) × (e.reply.answer ≡ Ok (Decided v))
  pub kept : e.reply.session ≡ s
  -- the second machine of the standing rows settles with it, whatever the phase of s
  pub by_rounds : (v : Verdict) → (e.reply.answer ≡ Ok (Decided v)) ↔ ((second m.rows).phase ≡ Settled v)
  pub worked : SecondWorks m.rows
  -- a settled session has it itself
  pub own : (v : Verdict) → s.phase ≡ Settled v → e.reply.answer ≡ Ok (Decided v)
  -- non-empty exactly when some finite derivation gives a walk from an initial to a final state
  pub meaning : (e.reply.answer ≡ Ok (Decided NonEmpty)) ↔ Accepts (timelines m.rows)

abbrev pub Request22 : Type 0
Request22 = EveryCall (λ x s e. e.asked ≡ on verdict → OneVerdict x.now s e)

-- C-12, at a call of expression on the session s, where the plain machine that was fed the calls before it is m
pub record OneExpression (m : Machine) (s : Session) (e : Exchange MarkedCall Reply) : Type 0 where
  -- it is accepted exactly when m is settled as non-empty and the buffer is long enough for the bytes that tell its walk
  pub accepted : ((n : ℕ) × (e.reply.answer ≡ Ok (Wrote n))) ↔ ((m.phase ≡ Settled NonEmpty) × ((l : List ℕ) × TellsWalk m l × (length l ≤ length e.old)))
  -- then it returns their length, and the buffer holds them, and beyond them the bytes that it had
  pub exact : (n : ℕ) (l : List ℕ) → e.reply.answer ≡ Ok (Wrote n) → TellsWalk m l → (n ≡ length l) × (e.new ≡ l ++ drop n e.old)
  -- else the buffer is as it was
  pub unwritten : ¬ ((n : ℕ) × (e.reply.answer ≡ Ok (Wrote n))) → e.new ≡ e.old
  -- 9 when open, 11 when running, 17 where the verdict is empty, whatever the buffer; then 12
  pub when_open : m.phase ≡ Open → Refuses e.reply.answer StillOpen
  pub when_running : m.phase ≡ Running → Refuses e.reply.answer StillRunning
  pub when_empty : m.phase ≡ Settled Empty → Refuses e.reply.answer VerdictEmpty
  pub too_short : m.phase ≡ Settled NonEmpty → (l : List ℕ) → TellsWalk m l → length e.old < length l → Refuses e.reply.answer ShortBuffer
  -- the session handed back is the one that came
  pub kept : e.reply.session ≡ s
  -- of m: one list of bytes tells its walk, which is the one on the sheet, as deep as the sheet's round number, with exactly the letters written
  pub plain : Expresses m (length e.old)

abbrev pub Request12 : Type 0
Request12 = EveryCall (λ x s e. (size : ℕ) → e.asked ≡ on (expression size) → OneExpression x.now s e)

-- an accepted print, and the bytes that it wrote
pub record Printed (e : Exchange MarkedCall Reply) (l : List ℕ) : Type 0 where
  pub size : ℕ
  pub asked_is : e.asked ≡ on (print size)
  pub count : ℕ
  pub answer_is : e.reply.answer ≡ Ok (Wrote count)
  pub bytes_are : take count e.new ≡ l

-- C-15, of the bytes of two sheets: each says something, and whatever they say, the second says no less than the first
pub record SheetsGrow (l l' : List ℕ) : Type 0 where
  pub smaller : (s : Said) × SheetSays l s
  pub larger : (s : Said) × SheetSays l' s
  pub no_less : (s s' : Said) → SheetSays l s → SheetSays l' s' → SaysNoLess s s'

-- at two calls, in two lists of calls, where the rows of the one plain machine stand in the other, which strikes no more states
pub record Request15 : Type 0 where
  pub claims : EveryCall (λ x s e. EveryCall (λ x' s' e'. Grows x.now.rows x'.now.rows → KeepsDepths x.now.rows x'.now.rows))
  pub sheets : EveryCall (λ x s e. EveryCall (λ x' s' e'. Grows x.now.rows x'.now.rows → (l l' : List ℕ) → Printed e l → Printed e' l' → SheetsGrow l l'))

-- ---- C-11

-- among calls from a fresh session, a mark under a name that was accepted, and later a return to the name; between them none marks under it
pub record ReturnLater (s : Session) (es : List (Exchange MarkedCall Reply)) : Type 0 where
  pub name : List ℕ
  pub before : List (Exchange MarkedCall Reply)
  pub marking : Exchange MarkedCall Reply
  pub between : List (Exchange MarkedCall Reply)
  pub returning : Exchange MarkedCall Reply
  pub later : List (Exchange MarkedCall Reply)
  pub calls_are : es ≡ before ++ (marking ∷ (between ++ (returning ∷ later)))
  pub marks : marking.asked ≡ mark name
  pub accepted : marking.reply.answer ≡ Ok Done
  pub none_marks : ¬ (mark name among map (λ e. e.asked) between)
  pub returns : returning.asked ≡ return_to name

-- the return is accepted, and all that was marked is back: rows, phase, verdict, round count and openings with their rounds; the marks stay
pub record BackAgain (s : Session) {es : List (Exchange MarkedCall Reply)} (r : ReturnLater s es) : Type 0 where
  pub accepted : r.returning.reply.answer ≡ Ok Done
  pub back : r.returning.reply.session ≡ with_marks (given onward s (r.before ++ (r.marking ∷ r.between))) (given onward s r.before)
  -- so is the plain machine
  pub plain_back : (plain_after (r.before ++ (r.marking ∷ (r.between ++ (r.returning ∷ []))))).now ≡ (plain_after r.before).now
  -- a return right after the mark hands back the session that the mark handed back
  pub same : r.between ≡ [] → r.returning.reply.session ≡ r.marking.reply.session

pub record Request11 : Type 0 where
  pub back : (s : Session) → Fresh s → (es : List (Exchange MarkedCall Reply)) → Trace onward Served s es → (r : ReturnLater s es) → BackAgain s r
  -- all calls but a mark keep the marks
  pub kept : EveryCall (λ x s e. ((name : List ℕ) → e.asked ≢ mark name) → e.reply.session.marks ≡ s.marks)
  -- whatever marks and returns led to them, a sheet depends on the rows then standing alone
  pub sheets : EveryCall (λ x s e. EveryCall (λ x' s' e'. x.now.rows ≡ x'.now.rows → (l l' : List ℕ) → Printed e l → Printed e' l' → l ≡ l'))

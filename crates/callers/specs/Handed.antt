-- What a caller that makes a list of calls comes to.
use Rattle.std.specs.Prelude.{ℕ, ◌≤◌, ◌<◌, ◌≡◌, ◌↔◌, List, [], ◌∷◌, ◌++◌, map, length, take, replicate}
use Rattle.std.proofs.Math.Option.{some}
use Rattle.lists.specs.Tests.{gather}
use Rattle.orderings.specs.MoreRows.{StrikesNothing}
use Rattle.std.specs.Prelude.{Ok}
use Rattle.causes.specs.declared.Cause.TheVariants.{StillOpen, ShortBuffer}
use Rattle.machine.specs.declared.Success.TheVariants.{Done, Wrote, Decided}
use Rattle.machine.specs.declared.Verdict.{Verdict}
use Rattle.machine.specs.declared.Verdict.TheVariants.{NonEmpty}
use Rattle.machine.specs.declared.Phase.TheVariants.{Settled}
use Rattle.machine.specs.Machine.{Machine, open_with}
use Rattle.machine.specs.Sheet.{verdict_line, opening_line, walk_lines}
use Rattle.machine.specs.Word.{TellsWalk}
use Rattle.machine.specs.Calls.{load, close, round, reopen, verdict, print, expression, saved}
use Rattle.machine.specs.Causes.{NotOpen}
use Rattle.machine.specs.Marks.{unmarked, fresh_marked, MarkedCall, on, mark, return_to}
use Rattle.machine.specs.Statements.{after_calls}
use Rattle.hoa_files.specs.Automata.{Buchi}
use Rattle.hoa_files.specs.Files.{IsFileOf}
use Rattle.hoa_files.specs.Cycles.{MarkedCycle}
use Rattle.hoa_files.specs.Promise.{Converts}
use Rattle.session.specs.declared.Session.{Session}
use Rattle.session.specs.declared.Reply.{Reply}
use Rattle.session.specs.Record.{record_of}
use Rattle.session.specs.Standing.{reply, with_marks}
use Rattle.callers.specs.declared.Added.{Added}
use Rattle.callers.specs.declared.Expressed.{Expressed}
use Rattle.callers.specs.declared.FileSettled.{FileSettled}
use Rattle.callers.specs.declared.TwoVerdicts.{TwoVerdicts}
use Rattle.callers.specs.declared.Refusals.{Refusals}
use Rattle.callers.specs.declared.Tried.{Tried}
use Rattle.demands.specs.Trace.{Exchange, Trace, given, Served, onward, exchange}
use Rattle.demands.specs.Demands.{Answered, Refuses, PrintsTrue, ExactPrint}
use Rattle.demands.specs.Requests.{OneRound, OneExpression, SheetsGrow}

-- the session is what calls from a fresh one handed back
pub record HandedBack (cs : List MarkedCall) (s : Session) : Type 0 where
  pub exchanges : List (Exchange MarkedCall Reply)
  pub asked_are : map (λ e. e.asked) exchanges ≡ cs
  pub trace : Trace onward Served (record_of fresh_marked) exchanges
  pub last : given onward (record_of fresh_marked) exchanges ≡ s

-- the first call, on a fresh session
abbrev pub FirstCall : MarkedCall → List ℕ → List ℕ → Reply → Type 0
FirstCall c old new r = Served (record_of fresh_marked) (exchange c old new r)

-- a round after any calls: request C-14 at it
abbrev pub RoundsOn : Session → Reply → Type 0
RoundsOn s r = (cs : List MarkedCall) → HandedBack cs s → OneRound (after_calls cs) s (exchange (on round) [] [] r)

-- rounds after calls, 129 at most, until the plain machine is settled
pub record RoundsAfter (cs : List MarkedCall) (s : Session) : Type 0 where
  pub count : ℕ
  pub few : count ≤ 129
  pub handed : HandedBack (cs ++ replicate count (on round)) s
  pub verdict : Verdict
  pub settled : (after_calls (cs ++ replicate count (on round))).phase ≡ Settled verdict

abbrev pub DoesRounds : Session → Session → Type 0
DoesRounds s r = (cs : List MarkedCall) → HandedBack cs s → NotOpen (after_calls cs).phase → RoundsAfter cs r

-- load, close and k rounds
abbrev pub worked : List ℕ → ℕ → List MarkedCall
worked batch k = on (load batch) ∷ on close ∷ replicate k (on round)

-- a print after load, close and rounds: demands 2 and 3 at it
pub record PrintedAfter (batch old new : List ℕ) (r : Reply) : Type 0 where
  pub count : ℕ
  pub few : count ≤ 129
  pub handed : HandedBack (worked batch count ++ (on (print (length old)) ∷ [])) r.session
  pub verdict : Verdict
  pub settled : (after_calls (worked batch count)).phase ≡ Settled verdict
  pub true_sheet : PrintsTrue (after_calls (worked batch count)) old new r.answer
  pub exact : ExactPrint (after_calls (worked batch count)) old new r.answer

-- the bytes of a sheet and of an expression of the machine m: they tell one walk
abbrev pub OneWalk : Machine → List ℕ → List ℕ → Type 0
OneWalk m sheet l = (t : TellsWalk m l) × (sheet ≡ verdict_line NonEmpty m.rounds ++ (gather opening_line m.openings ++ walk_lines (some t.told)))

-- print and expression after load, close and rounds: request C-12 at the second, on the session that the first handed back
pub record ExpressedAfter (batch old new old' new' : List ℕ) (r : Expressed) : Type 0 where
  pub count : ℕ
  pub few : count ≤ 129
  pub before : Session
  pub handed_before : HandedBack (worked batch count ++ (on (print (length old)) ∷ [])) before
  pub handed : HandedBack (worked batch count ++ (on (print (length old)) ∷ on (expression (length old')) ∷ [])) r.told.session
  pub verdict : Verdict
  pub settled : (after_calls (worked batch count)).phase ≡ Settled verdict
  pub expressed : OneExpression (after_calls (worked batch count)) before (exchange (on (expression (length old'))) old' new' r.told)
  -- where both are accepted
  pub one_walk : (n n' : ℕ) → r.printed ≡ Ok (Wrote n) → r.told.answer ≡ Ok (Wrote n') → OneWalk (after_calls (worked batch count)) (take n new) (take n' new')

-- a print, then reopen, load, close and k rounds
abbrev pub reworked : ℕ → List ℕ → ℕ → List MarkedCall
reworked size batch k = on (print size) ∷ on reopen ∷ on (load batch) ∷ on close ∷ replicate k (on round)

-- a print after any calls, rows added late, and a print again: request C-15 at the two prints, where the rows are of kinds 1 to 5
pub record AddedLate (cs : List MarkedCall) (batch old new old' new' : List ℕ) (r : Added) : Type 0 where
  pub count : ℕ
  pub few : count ≤ 129
  pub handed : HandedBack (cs ++ (reworked (length old) batch count ++ (on (print (length old')) ∷ []))) r.again.session
  pub verdict : Verdict
  pub settled : (after_calls (cs ++ reworked (length old) batch count)).phase ≡ Settled verdict
  pub sheets : StrikesNothing batch → (n n' : ℕ) → r.printed ≡ Ok (Wrote n) → r.again.answer ≡ Ok (Wrote n') → SheetsGrow (take n new) (take n' new')

abbrev pub AddsLate : Session → List ℕ → List ℕ → List ℕ → List ℕ → List ℕ → Added → Type 0
AddsLate s batch old new old' new' r = (cs : List MarkedCall) → HandedBack cs s → AddedLate cs batch old new old' new' r

-- print and round on a fresh session, and then a load: demand 1 at each. The first two are refused, and change nothing
pub record RefusedFirst (batch old new : List ℕ) (r : Refusals) : Type 0 where
  pub handed : HandedBack (on (print (length old)) ∷ on round ∷ on (load batch) ∷ []) r.loaded.session
  pub printed : Refuses r.printed StillOpen
  pub unchanged : new ≡ old
  pub print_answered : Answered fresh_marked (record_of fresh_marked) (exchange (on (print (length old))) old new (reply (record_of fresh_marked) r.printed))
  pub rounded : Refuses r.rounded StillOpen
  pub round_answered : Answered fresh_marked (record_of fresh_marked) (exchange (on round) [] [] (reply (record_of fresh_marked) r.rounded))
  pub load_answered : Answered fresh_marked (record_of fresh_marked) (exchange (on (load batch)) [] [] r.loaded)

-- load, verdict, close and k rounds
abbrev pub judged_and_worked : List ℕ → ℕ → List MarkedCall
judged_and_worked batch k = on (load batch) ∷ on verdict ∷ on close ∷ replicate k (on round)

-- a verdict after a load, and one again after close and rounds: request C-22 at the two. Both are that with which the session is settled
pub record VerdictFirst (batch : List ℕ) (r : TwoVerdicts) : Type 0 where
  pub count : ℕ
  pub few : count ≤ 129
  pub handed : HandedBack (judged_and_worked batch count ++ (on verdict ∷ [])) r.again.session
  pub settles_with : Verdict
  pub settled : r.again.session.phase ≡ Settled settles_with
  pub first : r.first ≡ Ok (Decided settles_with)
  pub again : r.again.answer ≡ Ok (Decided settles_with)

-- a batch is loaded into a fresh session, its rows are saved, and what was saved is loaded into another fresh session: demand 2 at the save
pub record SavedAgain (batch old new : List ℕ) (r : Reply) : Type 0 where
  -- the buffer begins with the rows; loaded, they are accepted, and the same rows stand
  pub again : length (saved (after_calls (on (load batch) ∷ []))) ≤ length old
      → (take (length (saved (after_calls (on (load batch) ∷ [])))) new ≡ saved (after_calls (on (load batch) ∷ [])))
      × (r.answer ≡ Ok Done) × (r.session ≡ record_of (unmarked (open_with (after_calls (on (load batch) ∷ [])).rows)))
  -- a buffer too short for them is refused, and stays as it was
  pub short : length old < length (saved (after_calls (on (load batch) ∷ []))) → Refuses r.answer ShortBuffer × (new ≡ old)

-- the rows of an automaton's file are loaded into a fresh session, which is closed and does rounds: request C-21 at it
pub record FileWorked (h : Buchi) (batch : List ℕ) (s : Session) : Type 0 where
  pub count : ℕ
  pub few : count ≤ 129
  pub handed : HandedBack (worked batch count) s
  -- it is settled, as non-empty exactly when a marked state that the start reaches lies on a cycle
  pub settles_with : Verdict
  pub settled : s.phase ≡ Settled settles_with
  pub non_empty : (s.phase ≡ Settled NonEmpty) ↔ MarkedCycle h

-- a file is converted, and what was written is loaded
pub record SettlesFile (file old new : List ℕ) (r : FileSettled) : Type 0 where
  pub converts : Converts file old new r.converted
  pub worked_so : (h : Buchi) (n : ℕ) → IsFileOf file h → r.converted ≡ Ok (Wrote n) → FileWorked h (take n new) r.session

-- after any calls a mark, a load that is disliked, and a return: request C-11 at them
pub record TriedVariant (cs : List MarkedCall) (s : Session) (name batch : List ℕ) (r : Tried) : Type 0 where
  pub handed : HandedBack (cs ++ (mark name ∷ on (load batch) ∷ return_to name ∷ [])) r.back.session
  -- where the mark was done, the return is, and all but the marks is as it was at the mark
  pub back : r.marked ≡ Ok Done → (r.back.answer ≡ Ok Done) × (r.back.session ≡ with_marks r.back.session s)

abbrev pub TriesVariant : Session → List ℕ → List ℕ → Tried → Type 0
TriesVariant s name batch r = (cs : List MarkedCall) → HandedBack cs s → TriedVariant cs s name batch r

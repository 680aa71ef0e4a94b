-- The customer's three demands, of every call in every list of calls from a fresh session, refused ones included.
use Rattle.std.specs.Prelude.{ℕ, ◌≤◌, ◌≡◌, ◌↔◌, List, [], ◌∷◌, ◌++◌, length, take, drop}
use Rattle.std.proofs.Math.Option.{some}
use Rattle.lists.specs.Tests.{gather}
use Rattle.lists.specs.Order.{sort_by}
use Rattle.rows.specs.Rows.{row_bytes, batch_of}
use Rattle.orderings.specs.Systems.{Derivation, Valid, AcceptedIn, Accepts}
use Rattle.orderings.specs.Timelines.{timelines}
use Rattle.std.specs.Prelude.{Ok, Err}
use Rattle.causes.specs.declared.Cause.{Cause}
use Rattle.machine.specs.declared.Success.TheVariants.{Done, Wrote}
use Rattle.machine.specs.declared.Verdict.{Verdict}
use Rattle.machine.specs.declared.Verdict.TheVariants.{NonEmpty}
use Rattle.machine.specs.declared.Phase.TheVariants.{Settled}
use Rattle.machine.specs.Machine.{Machine, open_with, open_claims}
use Rattle.machine.specs.Order.{Found, Best}
use Rattle.machine.specs.Search.{shortest}
use Rattle.machine.specs.Sheet.{verdict_line, opening_line, walk_lines, sheet}
use Rattle.machine.specs.Calls.{Answer, load, print, save, wrote, refused, returned, due, call, second}
use Rattle.machine.specs.Marks.{Marked, unmarked, MarkedCall, on, marked_call, MarkedCause}
use Rattle.machine.specs.Statements.{Listed, Number, SecondWorks}
use Rattle.session.specs.declared.Session.{Session}
use Rattle.session.specs.declared.Reply.{Reply}
use Rattle.session.specs.Record.{record_of}
use Rattle.session.specs.Promise.{Fresh, Keeps}
use Rattle.demands.specs.Trace.{Exchange, Trace, given, Buffered, Served, onward, plain_after}

-- a call at its place among calls from a fresh session: what holds of the plain machine that was fed the calls before it, and of the
-- session that was handed to it
abbrev pub EveryCall : (Marked → Session → Exchange MarkedCall Reply → Type 0) → Type 0
EveryCall Then =
    (s : Session) → Fresh s → (es : List (Exchange MarkedCall Reply)) → Trace onward Served s es
    → (before later : List (Exchange MarkedCall Reply)) (e : Exchange MarkedCall Reply) → es ≡ before ++ (e ∷ later)
    → Then (plain_after before) (given onward s before) e

-- refused with a number, at a place
abbrev pub RefusedAs : Answer → ℕ → ℕ → Type 0
RefusedAs a n place = returned a ≡ due (refused n place)

-- refused for a cause that has no place
abbrev pub Refuses : Answer → Cause → Type 0
Refuses a cause = a ≡ Err (record { cause = cause; place = 0 })

-- a call on the session s, where the plain machine that was fed the calls before it is x
pub record Answered (x : Marked) (s : Session) (e : Exchange MarkedCall Reply) : Type 0 where
  -- the call gets a result: the number and values that are due for what the plain machine comes to
  pub result : returned e.reply.answer ≡ due (marked_call x e.asked).answer
  -- refused with a number and at a place exactly where the table, document 01's with the numbers of request C-11, has that cause
  pub refused : (n place : ℕ) → RefusedAs e.reply.answer n place ↔ MarkedCause x e.asked n place
  -- a refusal hands the session back unchanged, and changes no byte of a buffer
  pub unchanged : (n place : ℕ) → RefusedAs e.reply.answer n place → (e.reply.session ≡ s) × (e.new ≡ e.old)
  -- whatever came of it, the buffer is the one that the call names
  pub buffered : Buffered e.asked e.old e.new

abbrev pub Demand1 : Type 0
Demand1 = EveryCall Answered

-- the walk that a non-empty sheet prints
pub record Walked (m : Machine) (f : Found) : Type 0 where
  pub found : shortest m.rows (open_claims m) ≡ some f
  -- its lines are the sheet's last
  pub lines : sheet NonEmpty m ≡ verdict_line NonEmpty m.rounds ++ (gather opening_line m.openings ++ walk_lines (some f))
  -- a walk from an initial to a final state that some finite derivation gives
  pub derived : (D : Derivation (timelines m.rows)) × Valid (timelines m.rows) D × AcceptedIn (timelines m.rows) D f.walk
  -- of those that use only openings on the sheet, it has fewest steps and is first in the stated order
  pub best : Best m.rows (open_claims m) f

-- the sheet of a settled machine
pub record TrueSheet (m : Machine) (v : Verdict) : Type 0 where
  pub settled : m.phase ≡ Settled v
  -- non-empty exactly when some finite derivation gives a walk from an initial to a final state
  pub verdict : (v ≡ NonEmpty) ↔ Accepts (timelines m.rows)
  pub listed : Listed m
  pub walked : v ≡ NonEmpty → (f : Found) × Walked m f

-- an accepted print writes such a sheet
abbrev pub PrintsTrue : Machine → List ℕ → List ℕ → Answer → Type 0
PrintsTrue m old new a = (n : ℕ) → a ≡ Ok (Wrote n) → (v : Verdict) × (new ≡ sheet v m ++ drop n old) × TrueSheet m v

-- an accepted save writes the rows; the bytes that it wrote, loaded into a fresh session, are accepted and give the same rows
abbrev pub SavesRows : Machine → List ℕ → List ℕ → Answer → Type 0
SavesRows m old new a = (n : ℕ) → a ≡ Ok (Wrote n)
    → (take n new ≡ batch_of (sort_by row_bytes m.rows))
    × ((t : Session) (r : Reply) → Fresh t → Keeps t (on (load (take n new))) [] [] r → (r.answer ≡ Ok Done) × (r.session ≡ record_of (unmarked (open_with m.rows))))

pub record Demand2 : Type 0 where
  pub prints : EveryCall (λ x s e. (size : ℕ) → e.asked ≡ on (print size) → PrintsTrue x.now e.old e.new e.reply.answer)
  pub saves : EveryCall (λ x s e. (size : ℕ) → e.asked ≡ on (save size) → SavesRows x.now e.old e.new e.reply.answer)

-- a print, where the plain machine that was fed the calls before it is m; the second machine loads the standing rows sorted, closes and
-- does rounds until settled
pub record ExactPrint (m : Machine) (old new : List ℕ) (a : Answer) : Type 0 where
  -- accepted exactly when m is settled and the buffer is long enough for the second machine's sheet
  pub accepted : ((n : ℕ) × (a ≡ Ok (Wrote n))) ↔ ((v : Verdict) × (m.phase ≡ Settled v) × (length (sheet v (second m.rows)) ≤ length old))
  -- then it returns exactly the length and writes exactly the bytes of that sheet
  pub exact : (n : ℕ) (v : Verdict) → a ≡ Ok (Wrote n) → m.phase ≡ Settled v
      → (n ≡ length (sheet v (second m.rows))) × (new ≡ sheet v (second m.rows) ++ drop n old)
  -- which is what the second machine prints
  pub sheet_is : (v : Verdict) (size : ℕ) → m.phase ≡ Settled v → length (sheet v (second m.rows)) ≤ size
      → (call (second m.rows) (print size)).answer ≡ wrote (sheet v (second m.rows))
  -- else the buffer is as it was
  pub kept : ¬ ((n : ℕ) × (a ≡ Ok (Wrote n))) → new ≡ old
  -- the second machine comes from the open machine with these rows by close and rounds as document 01 states them, and no other machine does
  pub worked : SecondWorks m.rows
  -- it is settled with the same verdict, and its round number is the depth that the demand names, at most 129
  pub numbered : (v : Verdict) → m.phase ≡ Settled v
      → ((second m.rows).phase ≡ Settled v) × Number m.rows v (second m.rows).rounds × ((second m.rows).rounds ≤ 129)

-- a session that is settled, where the plain machine is m: its count of rounds is the depth that the demand names, at most 129
abbrev pub Counted : Machine → Session → Type 0
Counted m s = (v : Verdict) → s.phase ≡ Settled v → (m.phase ≡ Settled v) × Number m.rows v s.rounds × (s.rounds ≤ 129)

pub record Demand3 : Type 0 where
  pub prints : EveryCall (λ x s e. (size : ℕ) → e.asked ≡ on (print size) → ExactPrint x.now e.old e.new e.reply.answer)
  -- of every session that a call hands back
  pub counts : EveryCall (λ x s e. Counted (marked_call x e.asked).machine.now e.reply.session)

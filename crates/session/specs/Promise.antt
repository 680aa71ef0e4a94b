-- The promises of the session's calls.
use Rattle.std.specs.Prelude.{◌≡◌, List, length, ℕ, ◌≤◌, Result, Ok, Err}
use Rattle.causes.specs.declared.Cause.{Cause}
use Rattle.causes.specs.declared.Cause.TheVariants.{ForeignRecord}
use Rattle.machine.specs.declared.Phase.{Phase}
use Rattle.machine.specs.Calls.{refused, Tells}
use Rattle.machine.specs.Causes.{foreign_record}
use Rattle.machine.specs.WellFormed.{most_done}
use Rattle.machine.specs.Marks.{most_marks, Marked, fresh_marked, MarkedCall, marked_call}
use Rattle.session.specs.declared.Session.{Session}
use Rattle.session.specs.declared.Reply.{Reply}
use Rattle.session.specs.Record.{record_of, Represents}

-- fresh is open with no rows, and has no marks
abbrev pub Fresh : Session → Type 0
Fresh r = r ≡ record_of fresh_marked

-- what a call hands back is what the machine x comes to: its record, and its answer, with what the caller's buffer then holds. A call
-- without a buffer has none before and after
pub record Does (x : Marked) (c : MarkedCall) (old new : List ℕ) (r : Reply) : Type 0 where
  pub session_is : r.session ≡ record_of (marked_call x c).machine
  pub tells : Tells (marked_call x c).answer old new r.answer

-- the call does so for every machine that the session represents
abbrev pub Keeps : Session → MarkedCall → List ℕ → List ℕ → Reply → Type 0
Keeps s c old new r = (x : Marked) → Represents x s → Does x c old new r

-- the counts are within the arrays, and the count of rounds within what calls lead to in its phase
pub record Ranged (s : Session) : Type 0 where
  pub few : s.row_count ≤ 256
  pub few_sets : s.set_count ≤ 64
  pub few_rounds : s.rounds ≤ most_done s.phase
  pub few_marks : s.marks.count ≤ most_marks

-- a record that every call knows for one that no calls make
abbrev pub IsForeign : Session → Type 0
IsForeign s = ¬ Ranged s

-- it comes back as it was, refused by the number beside the table, and the buffer is as it was
pub record TurnsAway (s : Session) (old new : List ℕ) (r : Reply) : Type 0 where
  pub session_is : r.session ≡ s
  pub tells : Tells (refused foreign_record 0) old new r.answer

-- on any other record that no calls make the answer is free: what holds of it is that the buffer keeps its length
abbrev pub FreeAnswer : List ℕ → List ℕ → Type 0
FreeAnswer old new = length new ≡ length old

-- what a call promises on a session that calls make, on a foreign record, and on every other
pub record Promised (s : Session) (c : MarkedCall) (old new : List ℕ) (r : Reply) : Type 0 where
  pub keeps : Keeps s c old new r
  pub foreign : IsForeign s → TurnsAway s old new r
  pub free : FreeAnswer old new

-- what a record is to the calls: a session in its phase, or foreign
abbrev pub HasPhase : Session → Result Phase Cause → Type 0
HasPhase s (Ok p) = Ranged s × (s.phase ≡ p)
HasPhase s (Err c) = IsForeign s × (c ≡ ForeignRecord)

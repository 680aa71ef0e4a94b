-- Document 01, "The session as a plain machine" and "Causes and numbers": the calls (`Call`, `call`), what they come to (`Outcome`, `Tells`),
-- several of them (`run`), and the second machine of demand 3 (`second`).
use Rattle.std.specs.Prelude.{ℕ, ◌≡◌, cond, List, [], ◌∷◌, ◌++◌, ltb, length, drop, replicate, Result, Ok, Err}
use Rattle.std.proofs.Math.Option.{Option, none, some}
use Rattle.causes.specs.Numbers.{number_of}
use Rattle.lists.specs.Order.{sort_by}
use Rattle.rows.specs.declared.Row.{Row}
use Rattle.rows.specs.Rows.{row_bytes, batch_of, Bytes}
use Rattle.rows.specs.Batch.{Fed, fed, failed, feed}
use Rattle.orderings.specs.Rising.{rising?}
use Rattle.machine.specs.declared.Verdict.{Verdict}
use Rattle.machine.specs.declared.Verdict.TheVariants.{NonEmpty, Empty}
use Rattle.machine.specs.declared.Success.{Success}
use Rattle.machine.specs.declared.Success.TheVariants.{Done, Wrote, Decided}
use Rattle.machine.specs.declared.Refusal.{Refusal}
use Rattle.machine.specs.declared.Phase.{Phase}
use Rattle.machine.specs.declared.Phase.TheVariants.{Open, Running, Settled}
use Rattle.machine.specs.Machine.{most_rounds, Machine, fresh, load_row, withdraw_row, closed, next_round, reopened}
use Rattle.machine.specs.Sheet.{sheet}
use Rattle.machine.specs.Expression.{expression_of}

-- a call, with what its caller brings beside the session: a batch, the length of a buffer
pub data Call : Type 0 where
  load withdraw : List ℕ → Call
  close round reopen verdict : Call
  print save expression : ℕ → Call

-- done, text for the buffer, a verdict, or a refusal with its number and place
pub data Outcome : Type 0 where
  done : Outcome
  wrote : List ℕ → Outcome
  decided : Verdict → Outcome
  refused : ℕ → ℕ → Outcome

-- document 01's number and values: a refusal returns its number and place, print, save and expression their length, the other calls nothing;
-- request C-22's call returns a verdict
pub record Returned : Type 0 where
  pub number : Option ℕ
  pub values : List ℕ
  pub verdict : Option Verdict

-- the engine's answer: a success, or a refusal with its cause
abbrev pub Answer : Type 0
Answer = Result Success Refusal

-- of each case of it
abbrev pub returned : Answer → Returned
returned (Ok Done) = record { number = none; values = []; verdict = none }
returned (Ok (Wrote n)) = record { number = none; values = n ∷ []; verdict = none }
returned (Ok (Decided v)) = record { number = none; values = []; verdict = some v }
returned (Err r) = record { number = some (number_of r.cause); values = r.place ∷ []; verdict = none }

-- due for an outcome
abbrev pub due : Outcome → Returned
due done = record { number = none; values = []; verdict = none }
due (wrote l) = record { number = none; values = length l ∷ []; verdict = none }
due (decided v) = record { number = none; values = []; verdict = some v }
due (refused n place) = record { number = some n; values = place ∷ []; verdict = none }

-- the machine after a call, and what the call answers
pub record Next : Type 0 where
  pub machine : Machine
  pub answer : Outcome

abbrev pub accept : Machine → Next
accept m = record { machine = m; answer = done }

-- a refusal leaves the machine as it was
abbrev pub refuse_at : Machine → ℕ → ℕ → Next
refuse_at m n place = record { machine = m; answer = refused n place }

abbrev pub refuse : Machine → ℕ → Next
refuse m n = refuse_at m n 0

-- load and withdraw act on the whole batch or not at all
abbrev pub with_rows : Machine → Fed (List Row) → Next
with_rows m (fed rows) = accept (record { rows = rows; phase = m.phase; openings = m.openings; rounds = m.rounds })
with_rows m (failed n place) = refuse_at m n place

-- 12: the buffer is too short
abbrev pub written : ℕ → List ℕ → Outcome
written size l = cond (ltb size (length l)) (refused 12 0) (wrote l)

abbrev pub write : Machine → ℕ → List ℕ → Next
write m size l = record { machine = m; answer = written size l }

-- save writes the standing rows sorted as byte strings
abbrev pub saved : Machine → List ℕ
saved m = batch_of (sort_by row_bytes m.rows)

-- request C-22: the verdict by rising size, which leaves the machine as it was
unfoldable pub verdict_of : List Row → Verdict
verdict_of rows = cond (rising? rows) NonEmpty Empty

abbrev pub decide : Machine → Next
decide m = record { machine = m; answer = decided (verdict_of m.rows) }

-- request C-12, of a settled machine: 17 where the verdict is empty, before 12
abbrev pub express : Verdict → Machine → ℕ → Next
express NonEmpty m size = write m size (expression_of m)
express Empty m size = refuse m 17

-- each call in each phase
unfoldable pub call_in : Phase → Machine → Call → Next
call_in Open m (load l) = with_rows m (feed load_row m.rows l)
call_in Open m (withdraw l) = with_rows m (feed withdraw_row m.rows l)
call_in Open m close = accept (closed m)
call_in Open m round = refuse m 9
call_in Open m reopen = refuse m 9
call_in Open m verdict = decide m
call_in Open m (print size) = refuse m 9
call_in Open m (save size) = write m size (saved m)
call_in Open m (expression size) = refuse m 9
call_in Running m (load l) = refuse m 1
call_in Running m (withdraw l) = refuse m 1
call_in Running m close = refuse m 1
call_in Running m round = accept (next_round m)
call_in Running m reopen = accept (reopened m)
call_in Running m verdict = decide m
call_in Running m (print size) = refuse m 11
call_in Running m (save size) = write m size (saved m)
call_in Running m (expression size) = refuse m 11
call_in (Settled v) m (load l) = refuse m 1
call_in (Settled v) m (withdraw l) = refuse m 1
call_in (Settled v) m close = refuse m 1
call_in (Settled v) m round = refuse m 10
call_in (Settled v) m reopen = accept (reopened m)
call_in (Settled v) m verdict = decide m
call_in (Settled v) m (print size) = write m size (sheet v m)
call_in (Settled v) m (save size) = write m size (saved m)
call_in (Settled v) m (expression size) = express v m size

abbrev pub call : Machine → Call → Next
call m c = call_in m.phase m c

-- what the caller's buffer holds after a call: the text, and beyond it the bytes that it had
abbrev pub buffer_after : Outcome → List ℕ → List ℕ
buffer_after done old = old
buffer_after (wrote l) old = l ++ drop (length l) old
buffer_after (decided v) old = old
buffer_after (refused n place) old = old

-- the engine tells an outcome: its answer has the number and values that are due, and the caller's buffer holds what it then should
pub record Tells (o : Outcome) (old new : List ℕ) (r : Answer) : Type 0 where
  pub answer_is : returned r ≡ due o
  pub buffer_is : new ≡ buffer_after o old

-- a text is in the buffer, or the buffer is too short for it
abbrev pub TellsText : List ℕ → List ℕ → List ℕ → Answer → Type 0
TellsText text old new r = Tells (written (length old) text) old new r

-- a machine is fed a list of calls in order
abbrev pub run : Machine → List Call → Machine
run m [] = m
run m (c ∷ cs) = run (call m c).machine cs

-- batches hold bytes
abbrev pub Brings : Call → Type 0
Brings (load l) = Bytes l
Brings (withdraw l) = Bytes l
Brings close = Unit {0}
Brings round = Unit {0}
Brings reopen = Unit {0}
Brings verdict = Unit {0}
Brings (print size) = Unit {0}
Brings (save size) = Unit {0}
Brings (expression size) = Unit {0}

-- close, then rounds until settled: at most 129 are done, and a settled machine refuses the others
abbrev pub settle : List Call
settle = close ∷ replicate most_rounds round

-- the second machine of demand 3: fresh, it loads the rows in one batch, sorted as byte strings, closes and does rounds until settled
unfoldable pub second : List Row → Machine
second rows = run fresh (load (batch_of (sort_by row_bytes rows)) ∷ settle)

-- `show` meets its contract: by the length of the input, and by the answer of the check.
use Prim.Native.Nat.{◌<◌, ◌≤◌, ◌^◌}
use native.Mathlib.Omega.{arith}
use borrow.Author.Rules.{rules}
use mathlib.Core.Path.{◌≡◌, ap}
use lib.ListN.{length}
use Rattle.machine.specs.Program.{refusal_line}
use Rattle.rows.specs.Rows.{Bytes}
use Rattle.rows.proofs.Reading.{all_bytes}
use Rattle.texts.proofs.Digits.{refusal_short}
use Rattle.checker.proofs.Outcomes.{kept_buffer, shows_long, shows_done, shows_wrote, shows_decided, shows_refused}
use Rattle.checker.proofs.show.Goals.{After-check}
use Rattle.checker.proofs.show.Goals as goal

-- the input is bytes
bytes : (k : After-check) → Bytes k.args.input.now
bytes k = all_bytes k.args.input.now (λ i. omega (arith, k.type_inv.input i))

pub returns-then-input-gt-LONGEST_BATCH : goal.returns-then-input-gt-LONGEST_BATCH
returns-then-input-gt-LONGEST_BATCH c = shows_long c.args.input.now c.args.out.now _ _ (omega arith) c.put.ensures

pub put-requires-in-Err : goal.put-requires-in-Err
put-requires-in-Err c =
    let a = c.args in
    let r = c.in-Err.field-0 in
    let h : 6400 ≤ length a.out.now = omega arith in
    let e : length c.check.new.sheet ≡ length a.out.now = ap length (kept_buffer a.input.now a.out.now c.check.new.sheet r c.in-Err.ensures) in
    let low : r.place < 2 ^ 64 = search rules in
    let short : length (refusal_line c.from.result r.place) ≤ 53 = refusal_short c.from.result r.place (omega arith) (omega arith) in
    let g : length (refusal_line c.from.result r.place) ≤ length c.check.new.sheet = omega arith in
    g

pub returns-in-Ok-Done : goal.returns-in-Ok-Done
returns-in-Ok-Done c =
    shows_done c.args.input.now c.args.out.now (bytes (goal.at.returns-in-Ok-Done c).After-check) (omega arith) (omega arith) _
    (rw c.in-Ok-Done.field-0-is at c.in-Ok-Done.ensures)

pub returns-in-Ok-Wrote : goal.returns-in-Ok-Wrote
returns-in-Ok-Wrote c =
    shows_wrote c.args.input.now c.args.out.now (bytes (goal.at.returns-in-Ok-Wrote c).After-check) (omega arith) (omega arith) c.in-Ok-Wrote.n _
    (rw c.in-Ok-Wrote.field-0-is at c.in-Ok-Wrote.ensures)

pub returns-in-Ok-Decided : goal.returns-in-Ok-Decided
returns-in-Ok-Decided c =
    shows_decided c.args.input.now c.args.out.now (bytes (goal.at.returns-in-Ok-Decided c).After-check) (omega arith) (omega arith) c.in-Ok-Decided.field-0-0 _
    (rw c.in-Ok-Decided.field-0-is at c.in-Ok-Decided.ensures)

pub returns-in-Err : goal.returns-in-Err
returns-in-Err c =
    shows_refused c.args.input.now c.args.out.now (bytes (goal.at.returns-in-Err c).After-check) (omega arith) (omega arith) c.in-Err.field-0 c.check.new.sheet _ _
    c.in-Err.ensures (rw c.from.ensures at c.put-in-Err.ensures)

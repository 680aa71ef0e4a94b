-- `rows_of` meets its contract. The invariant: the array holds the rows of the keys passed, and then the filler.
use Prim.Native.Nat.{ℕ}
use mathlib.Core.Path.{◌≡◌, refl, ap, ◌∙◌}
use mathlib.Core.List.{List}
use native.Mathlib.Omega.{arith}
use lib.ListN.{length, take, set}
use lib.Seq.{take-length}
use Rattle.rows.specs.declared.Row.{Row}
use Rattle.row_table.specs.Arrays.{padded}
use Rattle.session.specs.Record.{blank}
use Rattle.session.proofs.Standing.{slot_more}
use Rattle.session.proofs.tables.rows_of.Goals as goal

pub loop-i-init : goal.loop-i-init
loop-i-init c = λ table f k. refl

pub loop-i-preserved : goal.loop-i-preserved
loop-i-preserved c =
    let keys = c.args.keys.now in
    λ table f k. ap (λ (l : List Row). set l c.loop-i.i c.of_key.result) (c.loop-i.invariant table f k)
    ∙ rw c.of_key.ensures (slot_more table f keys.keys keys.count k c.loop-i.i (omega arith) keys.few)

pub returns : goal.returns
returns c = λ table f k.
    let e : c.loop-i.i ≡ length table = omega (arith, k.count) in
    c.loop-i.invariant table f k ∙ ap (λ (l : List Row). padded 256 blank l) (ap (λ (i : ℕ). take i table) e ∙ take-length table)

-- `Kept::new` meets its contract. The invariant: of all rows of which the first n keys are, the arrays hold the keys passed, and then zeros.
use mathlib.Core.Path.{◌≡◌, refl}
use native.Mathlib.Omega.{arith}
use lib.ListN.{take}
use lib.Seq.{take_all}
use Rattle.marks.proofs.Packing.{pack_more}
use Rattle.marks.specs.Record.{kept_of}
use Rattle.marks.proofs.Kept.new.Goals as goal

pub loop-i-preserved : goal.loop-i-preserved
loop-i-preserved c rows f k = pack_more rows f c.args.rows.now.keys c.args.rows.now.count k (omega arith) c.loop-i.high c.loop-i.low c.loop-i.i (omega arith) (c.loop-i.invariant rows f k)

pub returns : goal.returns
unfolding kept_of
returns c m f k phase rounds =
    let p = c.loop-i.invariant m.rows f k in
    let all : take c.loop-i.i m.rows ≡ m.rows = take_all c.loop-i.i m.rows (omega (arith, k.count)) in
    rw (p.0, p.1, all, k.count, phase, rounds) refl

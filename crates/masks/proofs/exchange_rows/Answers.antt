-- `masks::exchange_rows` meets its contract: the first i rows of both blocks are done.
use mathlib.Core.Path.{◌≡◌}
use native.Mathlib.Omega.{arith}
use Rattle.masks.proofs.Blocks.{exchanging_start, exchanging_more, exchanging_end}
use Rattle.masks.proofs.exchange_rows.Goals as goal

pub loop-i-init : goal.loop-i-init
loop-i-init c = exchanging_start _ _ _

pub loop-i-preserved : goal.loop-i-preserved
loop-i-preserved c =
    let p = c.requires in
    let a = c.args in
    exchanging_more a.b a.g a.m.now c.loop-i.i c.loop-i.m c.low_mask.result c.high_mask.result p.0 p.2 p.3
    (omega arith) c.loop-i.invariant c.low_mask.ensures c.high_mask.ensures

pub returns : goal.returns
returns c =
    let a = c.args in
    let e : c.loop-i.i ≡ a.b = omega arith in
    exchanging_end a.b a.g a.m.now c.loop-i.m (rw e at c.loop-i.invariant)

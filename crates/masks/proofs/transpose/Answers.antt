-- `masks::transpose` meets its contract. The loop's invariant: the edges from the states below i are turned round.
use mathlib.Core.Path.{refl, ◌∙◌}
use native.Mathlib.Omega.{arith}
use Rattle.masks.proofs.Turning.{sources_start, sources_more, sources_end}
use Rattle.masks.proofs.transpose.Goals as goal

pub loop-i-init : goal.loop-i-init
loop-i-init c = (refl, sources_start c.args.succ.now)

pub loop-i-preserved : goal.loop-i-preserved
loop-i-preserved c =
    let inv = c.loop-i.invariant in
    let e = c.add_source.ensures in
    (e.length_is ∙ inv.0, sources_more c.args.succ.now c.loop-i.back c.add_source.new.back c.loop-i.i inv.1 (e.masks_are inv.0))

pub returns : goal.returns
returns c = sources_end c.args.succ.now c.loop-i.back c.loop-i.i c.loop-i.invariant.1 (omega arith)

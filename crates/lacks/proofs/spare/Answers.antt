-- `lacks::spare` meets its contract. The loop takes one place after another out of the masks at the entrances of its set.
use Rattle.masks.proofs.Passing.{begun}
use Rattle.lacks.proofs.Taking.{sparing_from, sparing_more, sparing_end}
use Rattle.lacks.proofs.spare.Goals as goal

pub loop-i-init : goal.loop-i-init
loop-i-init c = sparing_from c.args.graph.now c.args.lack.now (begun c.into_iter-i-iterator.ensures.into_iter_gives c.each-i-items.ensures)

pub loop-i-preserved : goal.loop-i-preserved
loop-i-preserved c =
    sparing_more c.args.graph.now c.in-Some.ensures.steps c.loop-i.invariant c.intersection-m.result c.with.result
    (rw (c.set_at.ensures, c.lefts_at.ensures) at c.intersection-m.ensures) c.with.ensures c.take_out.ensures

pub returns : goal.returns
returns c = sparing_end c.args.graph.now c.loop-i.invariant c.in-None.ensures.steps.0

-- `lacks::above` meets its contract. The loop's invariant: the mask has the places whose sets have the states of p that are passed.
use Rattle.masks.proofs.Passing.{begun}
use Rattle.lacks.proofs.Raising.{raised_from, raised_more, raised_end}
use Rattle.lacks.proofs.above.Goals as goal

pub loop-s-init : goal.loop-s-init
loop-s-init c = raised_from c.args.graph.now.sets c.args.places c.args.p (begun c.into_iter-s-iterator.ensures.into_iter_gives c.each-s-items.ensures)

pub loop-s-preserved : goal.loop-s-preserved
loop-s-preserved c =
    raised_more c.args.graph.now.sets c.args.places c.args.p c.loop-s.r c.having.result c.intersection-r.result c.in-Some.ensures.steps c.loop-s.invariant
    c.having.ensures c.intersection-r.ensures

pub returns : goal.returns
returns c = let a = c.args in
    raised_end a.graph.now.sets a.places a.p c.loop-s.r c.loop-s.invariant c.in-None.ensures.steps.0

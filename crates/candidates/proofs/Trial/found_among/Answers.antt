-- `found_among` meets its contract. The loop gathers what is found at each place.
use Rattle.masks.proofs.Passing.{begun}
use Rattle.candidates.proofs.Places.{found_from, found_more, found_end}
use Rattle.candidates.proofs.Trial.found_among.Goals as goal

pub loop-i-init : goal.loop-i-init
loop-i-init c p = found_from (begun c.into_iter-i-iterator.ensures.into_iter_gives c.each-i-items.ensures)

pub loop-i-preserved : goal.loop-i-preserved
loop-i-preserved c p =
    found_more c.args.self.now.pieces c.loop-i.loops c.loop-i.mixes c.found_at-found.result c.union-loops.result c.union-mixes.result c.in-Some.ensures.steps (c.loop-i.invariant p)
    p c.found_at-found.ensures c.union-loops.ensures c.union-mixes.ensures

pub returns : goal.returns
returns c p = found_end (c.loop-i.invariant p) c.in-None.ensures.steps.0

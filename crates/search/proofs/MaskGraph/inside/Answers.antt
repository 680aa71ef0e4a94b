-- `search::MaskGraph::inside` meets its contract. The place i gives i where its set is a part of p.
use lib.ListN.{get_or}
use Rattle.masks.specs.Mask.{◌⊆◌}
use Rattle.masks.proofs.Gathering.{gather_from, gather_more, here_end}
use Rattle.masks.proofs.Passing.{begun}
use Rattle.search.proofs.MaskGraph.inside.Goals as goal

pub loop-i-init : goal.loop-i-init
loop-i-init c = gather_from (begun c.into_iter-i-iterator.ensures.into_iter_gives c.each-i-items.ensures)

pub loop-i-preserved : goal.loop-i-preserved
loop-i-preserved c =
    let got = c.marked in
    let part = rw c.set_at.ensures at c.is_subset.ensures in
    gather_more c.loop-i.r got.result c.union-r.result c.in-Some.ensures.steps c.loop-i.invariant
    (λ t. let g = got.ensures t in ((λ h. ((g.0 h).0, part.to (g.0 h).1)), λ h. g.1 (h.0, part.of h.1))) c.union-r.ensures

pub returns : goal.returns
returns c = here_end (λ i. get_or c.args.self.now.sets i 0 ⊆ c.args.p) c.loop-i.invariant c.in-None.ensures.steps.0

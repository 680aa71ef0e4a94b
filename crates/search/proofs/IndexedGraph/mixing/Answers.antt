-- `search::IndexedGraph::mixing` meets its contract. The place i gives the ends of its mix steps from m.
use Rattle.masks.proofs.Gathering.{gather_from, gather_end, gather_more}
use Rattle.masks.proofs.Passing.{begun}
use Rattle.search.proofs.IndexedGraph.mixing.Goals as goal

pub loop-i-init : goal.loop-i-init
loop-i-init c = gather_from (begun c.into_iter-i-iterator.ensures.into_iter_gives c.each-i-items.ensures)

pub loop-i-preserved : goal.loop-i-preserved
loop-i-preserved c =
    gather_more c.loop-i.r c.passed.result c.union-r.result c.in-Some.ensures.steps c.loop-i.invariant
    (rw (c.rights_at.ensures, c.lefts_at.ensures) at c.passed.ensures) c.union-r.ensures

pub returns : goal.returns
returns c t =
    let all = gather_end c.loop-i.invariant c.in-None.ensures.steps.0 t in (
      (λ h. let x = all.0 h in let s = x.2.0 in (s.0, s.1, (x.0, x.1, s.2, x.2.1))),
      λ h. let i = h.2 in all.1 (i.0, i.1, ((h.0, h.1, i.2), i.3)),
    )

-- `search::IndexedGraph::looping` meets its contract. The place i gives the ends of its omega steps and of its back steps from m.
use mathlib.Core.Logic.{inl, inr, ⊎_elim}
use Rattle.masks.proofs.Gathering.{gather_from, gather_end, gather_more, gives_either}
use Rattle.masks.proofs.Passing.{begun}
use Rattle.search.proofs.IndexedGraph.looping.Goals as goal

pub loop-i-init : goal.loop-i-init
loop-i-init c = gather_from (begun c.into_iter-i-iterator.ensures.into_iter_gives c.each-i-items.ensures)

pub loop-i-preserved : goal.loop-i-preserved
loop-i-preserved c =
    let either = c.union in
    let set = c.set_at-p in
    gather_more c.loop-i.r either.result c.union-r.result c.in-Some.ensures.steps c.loop-i.invariant
    (gives_either c.passed-omega.result c.passed-back.result either.result
    (rw (set.ensures, c.lefts_at.ensures) at c.passed-omega.ensures)
    (rw (set.ensures, c.rights_at.ensures) at c.passed-back.ensures) either.ensures) c.union-r.ensures

pub returns : goal.returns
returns c t =
    let all = gather_end c.loop-i.invariant c.in-None.ensures.steps.0 t in (
      (λ h. let x = all.0 h in ⊎_elim
          (λ y. let s = y.0 in (s.0, s.1, inl (x.0, x.1, s.2, y.1)))
          (λ y. let s = y.0 in (s.0, s.1, inr (x.0, x.1, s.2, y.1))) x.2),
      λ h. ⊎_elim
          (λ i. all.1 (i.0, i.1, inl ((h.0, h.1, i.2), i.3)))
          (λ i. all.1 (i.0, i.1, inr ((h.0, h.1, i.2), i.3))) h.2,
    )

-- `search::IndexedGraph::added` meets its contract: where all of p is found, no step leads to a state that is not.
use mathlib.Core.Path.{subst, sym}
use Prim.Native.Nat.{ℕ}
use Rattle.masks.specs.Mask.{◌∈◌}
use Rattle.search.proofs.Adding.{adding_none, adding}
use Rattle.search.proofs.Passing.{new_none}
use Rattle.search.proofs.IndexedGraph.added.Goals as goal

pub returns-then-found-p : goal.returns-then-found-p
returns-then-found-p c = let a = c.args in
    adding_none a.self.now a.force a.p a.omegas a.found a.last
    (new_none a.found a.last (λ x y e. subst (λ (q : ℕ). y ∈ q) (sym c.if-found-p.true) e.end))

pub returns : goal.returns
returns c =
    let a = c.args in
    adding a.self.now a.force a.p a.omegas a.found a.last c.intersection-from.result c.meeting.result
    c.intersection-entered.result c.lettered.result c.touched-claim.result c.union-near.result c.intersection-next.result
    c.difference.result c.difference-2.result c.requires c.intersection-from.ensures
    c.meeting.ensures c.intersection-entered.ensures
    c.lettered.ensures c.touched-claim.ensures c.union-near.ensures c.intersection-next.ensures c.difference.ensures c.difference-2.ensures
    c.difference.type_inv

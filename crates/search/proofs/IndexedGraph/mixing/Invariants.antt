-- `search::IndexedGraph::mixing` meets its contract. The place i gives the ends of its mix steps from m.
use Prim.Native.Nat.{ℕ}
use lib.ListN.{get_or}
use Rattle.masks.specs.Mask.{◌∈◌}
use Rattle.masks.proofs.Gathering.{Gathered}
use Rattle.search.proofs.IndexedGraph.mixing.Given as goal

abbrev pub invariant-loop-i : goal.invariant-loop-i
invariant-loop-i l =
    Gathered
    (λ i t. ((s : ℕ) × (s ∈ l.m) × (s ∈ get_or l.self.rights i 0)) × (t ∈ get_or l.self.lefts i 0)) l.places l.i-iterator.rest l.r

-- `lacks::Lacks::supply` meets its contract. The loop supplies the claims about one place after another.
use lib.ListN.{get_or}
use Rattle.masks.specs.Mask.{◌∈◌, ◌⊆◌}
use Rattle.masks.proofs.Gathering.{Gathered}
use Rattle.search.specs.Graph.{Graph, TurnedGraph}
use Rattle.lacks.proofs.Supplying.{Supplying}
use Rattle.lacks.proofs.Lacks.supply.Given as goal

abbrev pub invariant-loop-i : goal.invariant-loop-i
invariant-loop-i l =
    Supplying l.graph l.new l.led l.live l.places l.i-iterator.rest l.initial.self.to l.self.to
    × ((back : Graph) → TurnedGraph l.graph back → Supplying back l.new l.led l.live l.places l.i-iterator.rest l.initial.self.from l.self.from)
    × Gathered (λ j i. (i ∈ l.live) × (get_or l.graph.sets j 0 ⊆ get_or l.graph.sets i 0)) l.places l.i-iterator.rest l.r

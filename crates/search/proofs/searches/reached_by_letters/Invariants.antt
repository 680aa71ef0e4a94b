-- `search::searches::reached_by_letters` meets its contract: each pass but the last adds a state.
use Prim.Native.Nat.{ℕ, ◌-◌, ◌^◌, ◌<◌}
use lib.Count.{ones}
use Rattle.search.specs.Graph.{graph_of}
use Rattle.search.specs.Hops.{Lettered}
use Rattle.search.proofs.Passing.{Going}
use Rattle.search.proofs.searches.reached_by_letters.Given as goal

abbrev pub invariant-loop-m : goal.invariant-loop-m
invariant-loop-m l = (l.seen < 2 ^ 64) × ((made : ℕ) × Going (Lettered (graph_of l.graph)) 0 l.m l.seen l.last made)

abbrev pub decreases-loop-m : goal.decreases-loop-m
decreases-loop-m l = 64 - ones l.seen

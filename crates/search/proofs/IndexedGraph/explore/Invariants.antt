-- `search::IndexedGraph::explore` meets its contract: each pass but the last adds a state.
use Prim.Native.Nat.{◌-◌, ◌^◌, ◌<◌, ◌≤◌}
use lib.Count.{ones}
use Rattle.search.specs.Hops.{Hop}
use Rattle.search.specs.Passes.{Unentered}
use Rattle.search.proofs.Passing.{Going}
use Rattle.search.proofs.IndexedGraph.explore.Given as goal

abbrev pub invariant-loop-force : goal.invariant-loop-force
invariant-loop-force l =
    (l.states < 2 ^ 64) × (l.count ≤ ones l.states) × Going (Hop l.self l.force l.p) l.found l.last l.states l.front l.count
    × Unentered l.self l.force.loops l.p l.omegas l.states

abbrev pub decreases-loop-force : goal.decreases-loop-force
decreases-loop-force l = 64 - ones l.states

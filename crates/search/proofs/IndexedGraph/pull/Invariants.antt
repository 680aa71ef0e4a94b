-- `search::IndexedGraph::pull` meets its contract.
use Rattle.masks.proofs.Gathering.{Gathered}
use Rattle.search.specs.Hops.{Hop}
use Rattle.search.proofs.Pulling.{Pulled}
use Rattle.search.proofs.IndexedGraph.pull.Given as goal

abbrev pub invariant-loop-t : goal.invariant-loop-t
invariant-loop-t l = Gathered (Pulled (Hop l.self l.force l.p) l.found) l.missing l.t-iterator.rest l.r

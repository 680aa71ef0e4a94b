-- `search::IndexedGraph::passes` meets its contract: nothing is found yet.
use Rattle.search.proofs.Passing.{found_by}
use Rattle.search.proofs.IndexedGraph.passes.Goals as goal

pub returns : goal.returns
returns c = let a = c.args in
    found_by a.self.now a.force a.p a.m c.ranges.p.fits c.explore.ensures

-- `search::IndexedGraph::entered_from` meets its contract.
use Rattle.search.proofs.Incidence.{meet}
use Rattle.search.proofs.IndexedGraph.entered_from.Goals as goal
use Rattle.search.specs.Graph.{graph_of}

pub returns : goal.returns
unfolding graph_of
returns c = rw (← c.self.view_is) (meet c.self.inside.masks.now 192 384 c.self.invariant.by_rights c.args.m _ c.targets_in.ensures)

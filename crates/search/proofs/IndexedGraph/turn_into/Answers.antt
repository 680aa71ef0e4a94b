-- `search::IndexedGraph::turn_into` meets its contract: the graph's other parts are written.
use Rattle.search.proofs.Incidence.{has_turned}
use Rattle.search.proofs.IndexedGraph.turn_into.Goals as goal

pub returns : goal.returns
returns c = let s = c.self in has_turned c.args.self.now s.inside.masks.now _ s.view_is s.invariant c.turn_indexed.ensures

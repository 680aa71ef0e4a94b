-- `search::graphs::turn_indexed` meets its contract: the other parts after the four.
use Rattle.search.proofs.Incidence.{turns_indexed}
use Rattle.search.proofs.graphs.turn_indexed.Goals as goal

pub returns : goal.returns
returns c = turns_indexed c.args.graph.now _ _ _ _ c.turn.ensures c.copy.ensures c.copy-2.ensures c.copy-3.ensures

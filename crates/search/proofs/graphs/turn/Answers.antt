-- `search::graphs::turn` meets its contract: one part after another.
use Rattle.search.proofs.Incidence.{turns_into}
use Rattle.search.proofs.graphs.turn.Goals as goal

pub returns : goal.returns
returns c =
    turns_into c.args.graph.now c.transpose-letters.result _ _ _ _ _
    c.copy.ensures c.copy-2.ensures c.copy-3.ensures c.copy-4.ensures c.transpose-letters.ensures

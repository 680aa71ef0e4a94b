-- `search::graphs::turn_part` meets its contract.
use Rattle.search.proofs.Incidence.{turned_into}
use Rattle.search.proofs.graphs.turn_part.Goals as goal

pub returns : goal.returns
returns c =
    let a = c.args in
    turned_into a.graph.now a.from a.by c.turned_part-turned.result c.copy.new.back c.requires.0 c.turned_part-turned.ensures c.copy.ensures

-- `search::graphs::index` meets its contract: one part after another.
use Rattle.search.proofs.Incidence.{indexes}
use Rattle.search.proofs.graphs.index.Goals as goal

pub returns : goal.returns
returns c =
    let a = c.args in
    indexes a.set_count a.graph.now c.index_sets.new.graph c.index_part.new.graph c.index_part-2.new.graph
    c.index_sets.ensures c.index_part.ensures c.index_part-2.ensures

-- `search::searches::accepts_by_letters` meets its contract.
use Rattle.search.specs.Graph.{graph_of}
use Rattle.search.proofs.Lettering.{letters_accepted}
use Rattle.search.proofs.searches.accepts_by_letters.Goals as goal

pub returns : goal.returns
returns c rows letters fit is_initials is_finals =
    let a = c.args in
    letters_accepted fit (graph_of a.graph.now) letters a.initials a.finals is_initials is_finals c.reached_by_letters-seen.result c.union.result
    c.reached_by_letters-seen.ensures c.union.ensures c.meets.ensures

-- `search::IndexedGraph::touched` meets its contract: the sets that the states touch, and where the claims about them lead.
use Rattle.search.proofs.Incidence.{claims_lead}
use Rattle.search.proofs.IndexedGraph.touched.Goals as goal

pub returns : goal.returns
returns c =
    let a = c.args in
    claims_lead a.self.now a.m a.force a.omegas c.entered_from-left.result c.entered_from-left.ensures
    c.intersection-mix.result c.intersection-back.result c.intersection-mix.ensures c.intersection-back.ensures
    c.union.result c.lefts_of.result c.states_of.result c.union-2.result c.union.ensures c.lefts_of.ensures
    c.states_of.ensures c.union-2.ensures

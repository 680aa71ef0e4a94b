-- `search::IndexedGraph::near` meets its contract: the sets that the states touch have all claims by which a step leads on.
use Rattle.search.proofs.Hops.{onward_or, onward_hop}
use Rattle.search.proofs.Incidence.{all_touched}
use Rattle.search.proofs.IndexedGraph.near.Goals as goal

pub returns : goal.returns
returns c =
    let a = c.args in
    let x = c.intersection-from.result in
    onward_hop a.m x c.union.result c.intersection.result c.intersection-from.ensures
    (onward_or x _ _ c.union.result c.lettered.ensures
    (all_touched a.self.now x a.force c.meeting.result c.intersection-entered.result c.touched-claim.result
    c.meeting.ensures c.intersection-entered.ensures c.touched-claim.ensures)
    c.union.ensures) c.intersection.ensures

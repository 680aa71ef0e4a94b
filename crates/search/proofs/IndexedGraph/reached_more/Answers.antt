-- `search::IndexedGraph::reached_more` meets its contract: a first pass by the new claims, from what was seen, and then passes by all steps.
use Rattle.search.proofs.Reaching.{reached_same, reached_now}
use Rattle.search.proofs.IndexedGraph.reached_more.Goals as goal

pub returns-then-next-eq0 : goal.returns-then-next-eq0
returns-then-next-eq0 c =
    let a = c.args in
    reached_same a.self.now a.force a.new a.initials a.seen c.requires c.union-from.result c.claimed.result c.difference-next.result
    c.union-from.ensures c.claimed.ensures c.difference-next.ensures c.if-next-eq0.true

pub returns : goal.returns
returns c =
    let a = c.args in
    reached_now a.self.now a.force a.new a.initials a.seen c.requires c.union-from.result c.claimed.result c.difference-next.result
    c.union-from.ensures c.claimed.ensures c.difference-next.ensures c.union.result c.union.ensures
    (rw c.all_states.ensures at c.explore-more.ensures.made)

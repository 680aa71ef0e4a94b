-- `search::IndexedGraph::pull` meets its contract.
use Rattle.masks.proofs.Gathering.{gather_from, gather_end, gather_more}
use Rattle.masks.proofs.Passing.{begun}
use Rattle.search.proofs.Pulling.{pulled_one, pulled_all}
use Rattle.search.proofs.IndexedGraph.pull.Goals as goal

pub loop-t-init : goal.loop-t-init
loop-t-init c = gather_from (begun c.into_iter-t-iterator.ensures.into_iter_gives c.each-t-items.ensures)

pub loop-t-preserved : goal.loop-t-preserved
loop-t-preserved c =
    gather_more c.loop-t.r c.marked.result c.union-r.result c.in-Some.ensures.steps c.loop-t.invariant
    (pulled_one c.args.found c.in-Some.t c.with.result c.near-before.result c.marked.result c.meets.result
    c.with.ensures c.near-before.ensures c.meets.ensures c.marked.ensures) c.union-r.ensures

pub returns : goal.returns
returns c =
    let missing = c.difference-missing in
    let a = c.args in
    pulled_all a.found a.p missing.result c.loop-t.r (λ x y e. e.start) missing.ensures (gather_end c.loop-t.invariant c.in-None.ensures.steps.0)

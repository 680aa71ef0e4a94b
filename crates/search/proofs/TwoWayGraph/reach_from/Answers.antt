-- `search::TwoWayGraph::reach_from` meets its contract: chains lead to the states q from the states q, and a first pass from them may be made by
-- the graph turned round.
use Rattle.search.specs.Hops.{Hop}
use Rattle.search.specs.Passes.{NewTargets}
use Rattle.search.proofs.Hops.{hop_back, hop_turn}
use Rattle.search.proofs.Passing.{new_same, followed_all, joined_led, passes_onward, onward_same, onward_now}
use Rattle.search.proofs.TwoWayGraph.reach_from.Goals.{After-pull-first}
use Rattle.search.proofs.TwoWayGraph.reach_from.Goals as goal

-- what the first pass adds
first-new : (c : After-pull-first) → let a = c.args in NewTargets (Hop c.self.inside.forth.now a.force a.p) a.q a.q c.pull-first.result
first-new c =
    let q = c.args.q in
    new_same (λ a b e. hop_back c.self.invariant b a e) (λ a b e. hop_turn c.self.invariant a b e) q q c.pull-first.result c.pull-first.ensures

pub returns-then-size-gt-FEW : goal.returns-then-size-gt-FEW
returns-then-size-gt-FEW c =
    let q = c.args.q in
    rw (← c.self.view_is) (passes_onward (joined_led q (rw (← c.self.view_is) at c.requires)) (c.explore-all.ensures.made q (followed_all _ q)))

pub returns-then-first-eq0 : goal.returns-then-first-eq0
returns-then-first-eq0 c =
    let q = c.args.q in
    rw (← c.self.view_is) (onward_same q q q c.pull-first.result (first-new (goal.at.returns-then-first-eq0 c).After-pull-first) (followed_all _ q)
    (joined_led q (rw (← c.self.view_is) at c.requires)) c.if-first-eq0.true)

pub returns : goal.returns
returns c =
    let q = c.args.q in
    rw (← c.self.view_is) (onward_now q q q c.pull-first.result (first-new (goal.at.returns c).After-pull-first) (followed_all _ q)
    (joined_led q (rw (← c.self.view_is) at c.requires)) c.union.result c.union.ensures c.explore-found.ensures.made)

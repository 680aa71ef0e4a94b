-- `search::TwoWayGraph::covered` meets its contract: forward from m, backward from n.
use Rattle.std.proofs.lemmas.Bool.{not_from_false}
use Rattle.lists.proofs.Deciding.{iff_decides, says_no, denied}
use Rattle.search.proofs.Hops.{hop_back, hop_turn}
use Rattle.search.proofs.Joining.{covered_iff}
use Rattle.search.proofs.TwoWayGraph.covered.Goals as goal

-- no chain leads from m to n
pub returns-then-not-meets : goal.returns-then-not-meets
returns-then-not-meets c =
    let after = c.reach-after in
    rw (← c.self.view_is) (says_no (λ h. let k = h.chain in denied c.meets.ensures (not_from_false _ c.if-not-meets.true) (k.1, (after.ensures k.1).1 (k.0, k.2, k.4), k.3)))

pub returns : goal.returns
returns c =
    let both = c.intersection in
    let ended = c.union-ended in
    let begun = c.union-begun in
    let before = c.reach-before in
    let after = c.reach-after in
    let args = c.args in
    let turned = c.self.invariant in
    let all = covered_iff (hop_back turned) (hop_turn turned) args.m args.n after.result before.result
    begun.result ended.result both.result after.ensures before.ensures begun.ensures ended.ensures both.ensures in
    let end = c.meets.ensures.to c.if-not-meets.false in
    let from = (after.ensures end.0).0 end.1 in
    rw (← c.self.view_is) (iff_decides
    (λ f. record { states = λ s h. (all s).0 (f s h); chain = (from.0, end.0, from.1, end.2, from.2) })
    (λ f s h. (all s).1 (f.states s h)) c.is_subset.ensures)

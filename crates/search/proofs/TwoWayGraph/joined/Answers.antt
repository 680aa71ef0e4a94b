-- `search::TwoWayGraph::joined` meets its contract: from one state of p all of p is reached, forward and backward.
use mathlib.Core.Path.{refl}
use borrow.Author.Tests.{eqb-true, eq-eqb}
use Rattle.lists.proofs.Deciding.{says_no}
use Rattle.masks.proofs.Member.{in_none, member_lt, with_same}
use Rattle.search.proofs.Chains.{chain_back}
use Rattle.search.proofs.Hops.{hop_back, hop_turn}
use Rattle.search.proofs.Joining.{from_one, reaches_all, joined_by}
use Rattle.search.proofs.TwoWayGraph.joined.Goals as goal

pub returns-then-p-eq0 : goal.returns-then-p-eq0
returns-then-p-eq0 c = record { to = λ e a b ha hb. absurd (in_none a (rw c.if-p-eq0.true at ha)); of = λ h. refl }

pub with-s-requires : goal.with-s-requires
with-s-requires c = member_lt _ _ c.lowest.ensures.is

pub returns-then-reach-p : goal.returns-then-reach-p
returns-then-reach-p c =
    let r = c.reach in
    let w = c.with-s in
    let low = c.lowest in
    rw (← c.self.view_is) (says_no (λ h. c.if-reach-p.true (reaches_all c.args.p low.result w.result r.result (with_same 0 _ _ w.ensures) r.ensures
    (λ a b e. e.end) c.ranges.p.fits r.type_inv (λ t. h _ t low.ensures.is))))

pub returns : goal.returns
returns c =
    let forth = c.reach in
    let w = c.with-s in
    let low = c.lowest in
    let s = low.result in
    let p = c.args.p in
    let r = c.reach-2 in
    let turned = c.self.invariant in
    rw (← c.self.view_is) (record {
      to = λ e. joined_by (hop_back turned) p s (from_one s w.result p w.ensures (rw c.if-reach-p.false at forth.ensures))
          (from_one s w.result p w.ensures (rw (eqb-true r.result p e) at r.ensures));
      of = λ h. eq-eqb r.result p (reaches_all p s w.result r.result (with_same 0 s _ w.ensures) r.ensures
          (λ a b e. e.end) c.ranges.p.fits r.type_inv (λ t ht. chain_back (hop_turn turned) (h t s ht low.ensures.is)));
    })

-- `search::TwoWayGraph::joined_from` meets its contract: from the states q, which are joined, all of p is reached, forward and backward.
use Prim.Native.Nat.{ℕ}
use borrow.Author.Tests.{eqb-true, eq-eqb}
use Rattle.lists.proofs.Deciding.{says_yes, says_no}
use Rattle.masks.specs.Mask.{◌∈◌}
use Rattle.masks.proofs.Count.{lowest_is}
use Rattle.search.proofs.Chains.{chain_back}
use Rattle.search.proofs.Hops.{hop_back, hop_turn}
use Rattle.search.proofs.Joining.{reaches_all, joined_on}
use Rattle.search.proofs.TwoWayGraph.joined_from.Goals.{Else-q-p}
use Rattle.search.proofs.TwoWayGraph.joined_from.Goals as goal

-- a state of q, and that it is one of p
one_of : (c : Else-q-p) → let a = c.args in (s : ℕ) × (s ∈ a.q) × (s ∈ a.p)
one_of c = let h = (lowest_is c.args.q c.requires.some c.ranges.q.fits).0 in (_, h, c.requires.part _ h)

pub returns-then-q-p : goal.returns-then-q-p
returns-then-q-p c = says_yes (rw c.if-q-p.true at c.requires.joined)

pub returns-then-reach_from-p : goal.returns-then-reach_from-p
returns-then-reach_from-p c =
    let r = c.reach_from in
    let s = one_of (goal.at.returns-then-reach_from-p c).Else-q-p in
    says_no (λ h. c.if-reach_from-p.true (reaches_all c.args.p s.0 c.args.q r.result s.1 r.ensures
    (λ a b e. e.end) c.ranges.p.fits r.type_inv (λ t. h _ t s.2)))

pub reach_from-requires-2 : goal.reach_from-requires-2
reach_from-requires-2 c = λ a b ha hb. chain_back (hop_turn c.turned.ensures) (c.requires.joined b a hb ha)

pub returns : goal.returns
returns c =
    let forth = c.reach_from in
    let r = c.reach_from-2 in
    let p = c.args.p in
    let q = c.args.q in
    let s = one_of (goal.at.returns c).Else-q-p in
    let turned = c.turned.ensures in
    record {
      to = λ e. joined_on (hop_back turned) p q c.requires.joined (rw c.if-reach_from-p.false at forth.ensures) (rw (eqb-true r.result p e) at r.ensures);
      of = λ h. eq-eqb r.result p (reaches_all p s.0 q r.result s.1 r.ensures
          (λ a b e. e.end) c.ranges.p.fits r.type_inv (λ t ht. chain_back (hop_turn turned) (h t s.0 ht s.2)));
    }

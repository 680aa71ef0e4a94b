-- What the tests at one place find: with an entrance and an exit (`finds_neither`, `finds_mix`), and without (`finds_loop`); a set that loops inside
-- another (`joined_part`), and with more claims in force (`loops_more`), its own mix among them (`mixes_loop`); a step leads to and from each of its states (`loops_led`,
-- `loops_led_back`).
use Prim.Native.Nat.{ℕ, ◌<◌}
use mathlib.Core.Path.{◌≡◌, sym, subst, ◌∙◌}
use mathlib.Core.Bool.{Bool, true, ◌&&◌, ◌||◌}
use mathlib.Core.Logic.{inr, ◌↔◌}
use Rattle.std.specs.Prelude.{Option, None, Some, IfSome}
use lib.Dec.{eqb}
use lib.ListN.{get_or}
use Rattle.lists.specs.Tests.{Decides}
use Rattle.masks.specs.Mask.{member, ◌∈◌, ◌⊆◌}
use Rattle.masks.proofs.Member.{with_same, with_none, union_left, union_right, intersection_left, intersection_right, intersection_both}
use Rattle.search.specs.declared.Claims.{Claims}
use Rattle.search.specs.Graph.{Graph, TurnedGraph}
use Rattle.search.specs.Hops.{Hop, InnerClaims, Joined, JoinedPart, Covered, WithNew}
use Rattle.search.proofs.Chains.{chain_map, chain_first, chain_last, covered_map}
use Rattle.search.proofs.Hops.{hop_inner, hop_turn, inner_back}
use Rattle.search.proofs.Joining.{joined_covers, covered_joins}
use Rattle.search.proofs.Opening.{marks_iff, marks_none}
use Rattle.lacks.specs.Lacks.{Pieced, LedAt}
use Rattle.candidates.specs.Promises.{LoopsAt, InSet, MixesAt, LoopingAt, PartAmong}
use Rattle.candidates.proofs.Holding.{some_inner}

-- two masks of the same states of a set
same_part : (a p r r' : ℕ) → ((t : ℕ) → member t r ≡ (member t a && member t p)) → ((t : ℕ) → member t r' ≡ (member t a && member t p)) → r ⊆ r'
same_part a p r r' f h t i = h t ∙ sym (f t) ∙ i

-- a set that mixes has an entrance and an exit
pub mixes_pieced : {g : Graph} {force : Claims} {i : ℕ} → MixesAt g force i → Pieced g i
mixes_pieced {g} {i = i} h = let c = h.covered.chain in let P = get_or g.sets i 0 in record {
  entrance = (c.0, intersection_right (get_or g.lefts i 0) P h.entrances h.are_entrances c.0 c.2, intersection_left (get_or g.lefts i 0) P h.entrances h.are_entrances c.0 c.2);
  exit = (c.1, intersection_right (get_or g.rights i 0) P h.exits h.are_exits c.1 c.3, intersection_left (get_or g.rights i 0) P h.exits h.are_exits c.1 c.3);
}

module _ {g : Graph} {force : Claims} (i : ℕ) {inner : Claims} (is_inner : InnerClaims g force (get_or g.sets i 0) inner) where
  abbrev P : ℕ
  P = get_or g.sets i 0

  abbrev FoundHere : ℕ → ℕ → Type 0
  FoundHere loop mix = ((t : ℕ) → (t ∈ loop) ↔ ((t ≡ i) × LoopsAt g force i)) × ((t : ℕ) → (t ∈ mix) ↔ ((t ≡ i) × MixesAt g force i))

  -- steps by another reading of the claims about its parts
  same_hop : {x : Claims} → InnerClaims g force P x → (a b : ℕ) → Hop g x P a b → Hop g inner P a b
  same_hop {x} h = hop_inner g force force x inner P P (λ t k. k) (λ t k. k) (λ t k. k) h is_inner

  pub loops_at_iff : Joined (Hop g inner P) P ↔ LoopsAt g force i
  loops_at_iff = (
    (λ h. record { inner = inner; is_inner = is_inner; joined = h }),
    λ h a b ha hb. chain_map (same_hop h.is_inner) (h.joined a b ha hb),
  )

  -- without an entrance and an exit it does not mix
  pub finds_loop : {found : Bool} (r : ℕ) → ¬ Pieced g i → Decides found (Joined (Hop g inner P) P) → ((t : ℕ) → (t ∈ r) ↔ ((t ≡ i) × (found ≡ true))) → FoundHere r 0
  finds_loop r n d marks = (marks_iff i r loops_at_iff d marks, marks_none i (λ h. n (mixes_pieced h)))

  module _ (m k : ℕ) (is_m : InSet g g.lefts i m) (is_k : InSet g g.rights i k) where
    pub mixes_at_iff : Covered (Hop g inner P) m k P ↔ MixesAt g force i
    mixes_at_iff = (
      (λ h. record { inner = inner; is_inner = is_inner; entrances = m; are_entrances = is_m; exits = k; are_exits = is_k; covered = h }),
      λ h. covered_map (same_hop h.is_inner) h.entrances h.exits m k P
          (same_part (get_or g.lefts i 0) P h.entrances m h.are_entrances is_m) (same_part (get_or g.rights i 0) P h.exits k h.are_exits is_k) h.covered,
    )

    -- with them, where it does not mix, it does not loop
    pub finds_neither : Pieced g i → ¬ Covered (Hop g inner P) m k P → FoundHere 0 0
    finds_neither p n = (marks_none i (λ h. n (loops_cover (loops_at_iff.1 h))), marks_none i (λ h. n (mixes_at_iff.1 h)))
      where
        loops_cover : Joined (Hop g inner P) P → Covered (Hop g inner P) m k P
        loops_cover = let e = p.entrance in let f = p.exit in
            joined_covers P m k e.0 f.0 (intersection_both (get_or g.lefts i 0) P m is_m e.0 e.2 e.1)
            (intersection_both (get_or g.rights i 0) P k is_k f.0 f.2 f.1) e.1 f.1

    pub finds_mix : {found : Bool} (r w : ℕ) → Covered (Hop g inner P) m k P → Decides found (Joined (Hop g inner P) P)
        → ((t : ℕ) → (t ∈ r) ↔ ((t ≡ i) × (found ≡ true))) → ((t : ℕ) → member t w ≡ (member t 0 || eqb t i)) → FoundHere r w
    finds_mix r w c d marks is_w = (
      marks_iff i r loops_at_iff d marks,
      λ t. ((λ h. (with_none i w is_w t h, mixes_at_iff.0 c)), λ h. subst (λ (x : ℕ). x ∈ w) (sym h.0) (with_same 0 i w is_w)),
    )

-- a set inside p that loops, where the claims about parts of p are in force
pub joined_part : {g : Graph} {force : Claims} {i : ℕ} → LoopsAt g force i → (p q : ℕ) {inner : Claims} → InnerClaims g force p inner → q ≡ get_or g.sets i 0 → q ⊆ p → 0 < q
    → JoinedPart (Hop g inner p) p q
joined_part {g} {force} {i} h p q {inner} is e part some = record {
  part = part;
  some = some;
  joined = subst (λ (x : ℕ). x ⊆ p → Joined (Hop g inner p) x) (sym e)
      (λ f a b ha hb. chain_map (hop_inner g force force h.inner inner (get_or g.sets i 0) p (λ t k. k) (λ t k. k) f h.is_inner is) (h.joined a b ha hb)) part;
}

-- where there is one at a place whose set loops
pub joined_parts : {g : Graph} {force : Claims} (places : ℕ) → LoopingAt g force places → (p : ℕ) {inner : Claims} → InnerClaims g force p inner
    → (part : Option ℕ) → IfSome part (PartAmong g places p) → IfSome part (JoinedPart (Hop g inner p) p)
joined_parts places looping p is None h = h
joined_parts places looping p is (Some q) x = joined_part (looping x.1.0 x.1.1) p q is x.1.2 x.1.3 x.0

-- a step inside p is one with more claims in force
hop_more : {g : Graph} {old new force x y : Claims} (p : ℕ) → WithNew old new force → InnerClaims g old p x → InnerClaims g force p y → (a b : ℕ) → Hop g x p a b → Hop g y p a b
hop_more {g} {old} {new} {force} {x} {y} p is =
    hop_inner g old force x y p p (union_left old.loops new.loops force.loops is.loops_are) (union_left old.mixes new.mixes force.mixes is.mixes_are) (λ t k. k)

-- a set that loops does so with more claims in force
pub loops_more : {g : Graph} {old new force : Claims} {i : ℕ} → WithNew old new force → LoopsAt g old i → LoopsAt g force i
loops_more {g} {force = force} {i} is h = let P = get_or g.sets i 0 in let x = some_inner g force P in
    record { inner = x.0; is_inner = x.1; joined = λ a b ha hb. chain_map (hop_more P is h.is_inner x.1) (h.joined a b ha hb) }

-- inside a set that loops a step leads to each state
pub loops_led : {g : Graph} {force : Claims} {i : ℕ} → LoopsAt g force i → LedAt g force i
loops_led h q k = (h.inner, h.is_inner, chain_last (h.joined q q k k))

-- and from each
pub loops_led_back : {g back : Graph} → TurnedGraph g back → {force : Claims} {i : ℕ} → LoopsAt g force i → LedAt back force i
loops_led_back {g} {back} turned {force} {i} h q k = let P = get_or g.sets i 0 in
    subst (λ (p : ℕ). q ∈ p → (inner : Claims) × InnerClaims back force p inner × ((a : ℕ) × Hop back inner p a q)) (sym (turned.sets_are i))
    (λ m. let e = chain_first (h.joined q q m m) in (h.inner, inner_back turned h.is_inner, (e.0, hop_turn turned q e.0 e.1))) k

-- a set that mixes loops once its mix is in force too, by its own mix step
pub mixes_loop : {g : Graph} {old new force : Claims} {i : ℕ} → WithNew old new force → MixesAt g old i → i ∈ new.mixes → LoopsAt g force i
mixes_loop {g} {old} {new} {force} {i} is h k = let P = get_or g.sets i 0 in let x = some_inner g force P in record {
  inner = x.0;
  is_inner = x.1;
  joined = let e = h.entrances in let f = h.exits in
      covered_joins e f P (own x.1) (covered_map (hop_more P is h.is_inner x.1) e f e f P (λ t m. m) (λ t m. m) h.covered);
}
  where
    own : {x : Claims} → InnerClaims g force (get_or g.sets i 0) x → (a b : ℕ) → a ∈ h.exits → b ∈ h.entrances → Hop g x (get_or g.sets i 0) a b
    own s a b ha hb = let P = get_or g.sets i 0 in let l = get_or g.lefts i 0 in let r = get_or g.rights i 0 in record {
      start = intersection_right r P h.exits h.are_exits a ha;
      end = intersection_right l P h.entrances h.are_entrances b hb;
      kind = inr (inr (
        i,
        (s.mixes_are i).1 (union_right old.mixes new.mixes force.mixes is.mixes_are i k, λ t m. m),
        intersection_left r P h.exits h.are_exits a ha,
        intersection_left l P h.entrances h.are_entrances b hb,
      ));
    }

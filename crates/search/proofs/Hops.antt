-- Steps as the masks have them: the states to which they lead (`onward_hop`), steps turned round (`hop_turn`), steps by old
-- claims and by new ones (`hop_either`).
use Prim.Native.Nat.{ℕ}
use mathlib.Core.Path.{◌≡◌, sym, subst, ◌∙◌}
use mathlib.Core.Bool.{◌&&◌, ◌||◌}
use mathlib.Core.Logic.{◌⊎◌, inl, inr, ⊎_elim, ◌↔◌}
use mathlib.Core.List.{List}
use lib.ListN.{get_or}
use Rattle.masks.specs.Mask.{member, ◌∈◌, ◌⊆◌}
use Rattle.masks.proofs.Member.{member_lt, union_left, union_right, union_cases, intersection_left, intersection_right, intersection_both}
use Rattle.search.specs.declared.Claims.{Claims}
use Rattle.search.specs.Graph.{Graph, TurnedGraph}
use Rattle.search.specs.Hops.{ByPlaces, Lettered, Claimed, Hop, Onward, Inner, InnerClaims, Unites, WithNew}
use Rattle.search.proofs.Parts.{turn_back}

-- steps of one kind or of another
pub onward_or : {E F : ℕ → ℕ → Type 0} (m a b r : ℕ) → Onward E m a → Onward F m b → ((t : ℕ) → member t r ≡ (member t a || member t b))
    → Onward (λ s t. E s t ⊎ F s t) m r
onward_or m a b r f g is t = (
  (λ h. ⊎_elim (λ x. let p = (f t).0 x in (p.0, p.1, inl p.2)) (λ x. let p = (g t).0 x in (p.0, p.1, inr p.2)) (union_cases a b r is t h)),
  λ p. ⊎_elim (λ e. union_left a b r is t ((f t).1 (p.0, p.1, e))) (λ e. union_right a b r is t ((g t).1 (p.0, p.1, e))) p.2,
)

module _ {g : Graph} {force : Claims} {p : ℕ} where
  -- from the states of m that are in p, to those that are in p
  pub onward_hop : (m near u r : ℕ) → ((t : ℕ) → member t near ≡ (member t m && member t p))
      → Onward (λ s t. Lettered g s t ⊎ Claimed g force s t) near u
      → ((t : ℕ) → member t r ≡ (member t u && member t p)) → Onward (Hop g force p) m r
  onward_hop m near u r is_near f is t = (
    (λ h. let x = (f t).0 (intersection_left u p r is t h) in (
      x.0,
      intersection_left m p near is_near x.0 x.1,
      record { start = intersection_right m p near is_near x.0 x.1; end = intersection_right u p r is t h; kind = x.2 },
    )),
    λ x. let e = x.2 in
        intersection_both u p r is t ((f t).1 (x.0, intersection_both m p near is_near x.0 x.1 e.start, e.kind)) e.end,
  )

-- the two ends of a step by a place, read from other lists and turned round
places_turn : (here there here' there' : List ℕ) → ((i : ℕ) → get_or here i 0 ≡ get_or here' i 0) → ((i : ℕ) → get_or there i 0 ≡ get_or there' i 0)
    → (places a b : ℕ) → ByPlaces here there places a b → ByPlaces there' here' places b a
places_turn here there here' there' f g places a b e =
    (e.0, e.1, subst (λ (x : ℕ). b ∈ x) (g e.0) e.3, subst (λ (x : ℕ). a ∈ x) (f e.0) e.2)

module _ {g back : Graph} (is : TurnedGraph g back) where
  claimed_back : (force : Claims) (a b : ℕ) → Claimed back force a b → Claimed g force b a
  claimed_back force a b = ⊎_elim
      (⊎_elim
      (λ e. inl (inr (places_turn back.sets back.lefts g.sets g.rights is.sets_are is.lefts_are force.loops a b e)))
      (λ e. inl (inl (places_turn back.rights back.sets g.lefts g.sets is.rights_are is.sets_are force.loops a b e))))
      (λ e. inr (places_turn back.rights back.lefts g.lefts g.rights is.rights_are is.lefts_are force.mixes a b e))

  -- each step of the graph turned round is a step, turned round
  pub hop_back : {force : Claims} {p : ℕ} (a b : ℕ) → Hop back force p a b → Hop g force p b a
  hop_back {force} {p} a b h = record {
    start = h.end;
    end = h.start;
    kind = ⊎_elim (λ e. inl (sym (is.turned b a (member_lt b p h.end) (member_lt a p h.start)) ∙ e)) (λ e. inr (claimed_back force a b e)) h.kind;
  }

  -- the claims about parts of p
  pub inner_back : {force inner : Claims} {p : ℕ} → InnerClaims g force p inner → InnerClaims back force p inner
  inner_back {force} {inner} {p} i = record { loops_are = move force.loops inner.loops i.loops_are; mixes_are = move force.mixes inner.mixes i.mixes_are }
    where
      move : (m r : ℕ) → Inner g.sets m p r → Inner back.sets m p r
      move m r f j = subst (λ (P : ℕ). (j ∈ r) ↔ ((j ∈ m) × (P ⊆ p))) (sym (is.sets_are j)) (f j)

pub hop_turn : {g back : Graph} → TurnedGraph g back → {force : Claims} {p : ℕ} (a b : ℕ) → Hop g force p a b → Hop back force p b a
hop_turn is = hop_back (turn_back is)

-- ---- old claims and new ones

places_map : (here there : List ℕ) (x y : ℕ) → x ⊆ y → (a b : ℕ) → ByPlaces here there x a b → ByPlaces here there y a b
places_map here there x y f a b e = (e.0, f e.0 e.1, e.2, e.3)

places_cases : (here there : List ℕ) (x y z : ℕ) → Unites x y z → (a b : ℕ) → ByPlaces here there z a b → ByPlaces here there x a b ⊎ ByPlaces here there y a b
places_cases here there x y z is a b e = ⊎_elim (λ h. inl (e.0, h, e.2, e.3)) (λ h. inr (e.0, h, e.2, e.3)) (union_cases x y z is e.0 e.1)

module _ (g : Graph) where
  -- other claims
  claimed_map : (x y : Claims) → x.loops ⊆ y.loops → x.mixes ⊆ y.mixes → (a b : ℕ) → Claimed g x a b → Claimed g y a b
  claimed_map x y f h a b = ⊎_elim
      (⊎_elim
      (λ e. inl (inl (places_map g.sets g.lefts x.loops y.loops f a b e)))
      (λ e. inl (inr (places_map g.rights g.sets x.loops y.loops f a b e))))
      (λ e. inr (places_map g.rights g.lefts x.mixes y.mixes h a b e))

  -- a step inside a part of p with fewer claims in force
  pub hop_inner : (old force x y : Claims) (q p : ℕ) → old.loops ⊆ force.loops → old.mixes ⊆ force.mixes → q ⊆ p → InnerClaims g old q x → InnerClaims g force p y
      → (a b : ℕ) → Hop g x q a b → Hop g y p a b
  hop_inner old force x y q p f h part i j a b e = record {
    start = part a e.start;
    end = part b e.end;
    kind = ⊎_elim inl (λ k. inr (claimed_map x y (move old.loops force.loops x.loops y.loops i.loops_are f j.loops_are) (move old.mixes force.mixes x.mixes y.mixes i.mixes_are h j.mixes_are) a b k)) e.kind;
  }
    where
      move : (m n r r' : ℕ) → Inner g.sets m q r → m ⊆ n → Inner g.sets n p r' → r ⊆ r'
      move m n r r' u v w t k = let z = (u t).0 k in (w t).1 (v t z.0, λ s l. part s (z.1 s l))

  module _ {old new force : Claims} (is : WithNew old new force) where
    claimed_cases : (a b : ℕ) → Claimed g force a b → Claimed g old a b ⊎ Claimed g new a b
    claimed_cases a b = ⊎_elim
        (⊎_elim
        (λ e. ⊎_elim (λ k. inl (inl (inl k))) (λ k. inr (inl (inl k))) (places_cases g.sets g.lefts old.loops new.loops force.loops is.loops_are a b e))
        (λ e. ⊎_elim (λ k. inl (inl (inr k))) (λ k. inr (inl (inr k))) (places_cases g.rights g.sets old.loops new.loops force.loops is.loops_are a b e)))
        (λ e. ⊎_elim (λ k. inl (inr k)) (λ k. inr (inr k)) (places_cases g.rights g.lefts old.mixes new.mixes force.mixes is.mixes_are a b e))

    -- a step by a new claim is one by a claim in force
    pub claimed_new : (a b : ℕ) → Claimed g new a b → Claimed g force a b
    claimed_new = claimed_map new force (union_right old.loops new.loops force.loops is.loops_are) (union_right old.mixes new.mixes force.mixes is.mixes_are)

    claimed_old : (a b : ℕ) → Claimed g old a b → Claimed g force a b
    claimed_old = claimed_map old force (union_left old.loops new.loops force.loops is.loops_are) (union_left old.mixes new.mixes force.mixes is.mixes_are)

    pub hop_old : (p a b : ℕ) → Hop g old p a b → Hop g force p a b
    hop_old p a b h = record { start = h.start; end = h.end; kind = ⊎_elim inl (λ e. inr (claimed_old a b e)) h.kind }

    -- a step with the old claims, or by a new one
    pub hop_either : (p a b : ℕ) → Hop g force p a b → Hop g old p a b ⊎ Claimed g new a b
    hop_either p a b h = ⊎_elim (λ e. inl (record { start = h.start; end = h.end; kind = inl e }))
        (λ e. ⊎_elim (λ k. inl (record { start = h.start; end = h.end; kind = inr k })) inr (claimed_cases a b e)) h.kind

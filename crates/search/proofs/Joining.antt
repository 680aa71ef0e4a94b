-- What forward and backward searches say: a set whose states chains join, and one that chains cover, which is joined where a step closes them
-- (`covered_joins`).
use Prim.Native.Nat.{ℕ, ◌^◌, ◌<◌}
use mathlib.Core.Path.{◌≡◌, refl, subst, sym}
use mathlib.Core.Bool.{◌&&◌, ◌||◌}
use mathlib.Core.Logic.{◌⊎◌, inl, inr, ⊎_elim, ◌↔◌}
use lib.Dec.{eqb}
use Rattle.masks.specs.Mask.{member, ◌∈◌}
use Rattle.masks.proofs.Member.{with_none, union_left, union_right, union_cases, intersection_left, intersection_right, intersection_both, same}
use Rattle.search.specs.Hops.{Chain, one, Onward, Joined, OnChain, Covered}
use Rattle.search.proofs.Chains.{chain_append, chain_back, chain_end}

-- a search inside p from one state s
pub from_one : {E : ℕ → ℕ → Type 0} (s w r : ℕ) → ((t : ℕ) → member t w ≡ (member t 0 || eqb t s)) → Onward (Chain E) w r → (t : ℕ) → t ∈ r → Chain E s t
from_one {E} s w r is_w is t h = let x = (is t).0 h in subst (λ (y : ℕ). Chain E y t) (with_none s w is_w x.0 x.1) x.2

-- from states one of which is s
pub reaches_all : {E : ℕ → ℕ → Type 0} (p s w r : ℕ) → s ∈ w → Onward (Chain E) w r → ((a b : ℕ) → E a b → b ∈ p) → p < 2 ^ 64 → r < 2 ^ 64
    → ((t : ℕ) → t ∈ p → Chain E s t) → r ≡ p
reaches_all p s w r here is to_p hp hr all = same r p hr hp (λ t h. chain_end p to_p ((is t).0 h).2) (λ t h. (is t).1 (s, here, all t h))

-- from a state of m to each state of a set whose states chains join, and on to one of n
pub joined_covers : {E : ℕ → ℕ → Type 0} (p m n a b : ℕ) → a ∈ m → b ∈ n → a ∈ p → b ∈ p → Joined E p → Covered E m n p
joined_covers p m n a b ha hb pa pb h = record { states = λ s i. inl (a, b, ha, hb, inr (h a s pa i, inr (h s b i pb))); chain = (a, b, ha, hb, h a b pa pb) }

-- s is in m, or a chain leads to it from m; it is in n, or a chain leads from it to n
abbrev Begun : (ℕ → ℕ → Type 0) → ℕ → ℕ → Type 0
Begun E m s = (s ∈ m) ⊎ ((a : ℕ) × (a ∈ m) × Chain E a s)

abbrev Ended : (ℕ → ℕ → Type 0) → ℕ → ℕ → Type 0
Ended E n s = (s ∈ n) ⊎ ((b : ℕ) × (b ∈ n) × Chain E s b)

module _ {E : ℕ → ℕ → Type 0} (m n : ℕ) where
  both_on : (s : ℕ) → OnChain E m n s ⊎ ((s ∈ m) × (s ∈ n)) → Begun E m s × Ended E n s
  both_on s (inl (a, b, i, j, inl k)) = (inl (subst (λ (t : ℕ). t ∈ m) (sym k.0) i), inr (b, j, k.1))
  both_on s (inl (a, b, i, j, inr k)) = (inr (a, i, k.0), ⊎_elim (λ e. inl (subst (λ (t : ℕ). t ∈ n) (sym e) j)) (λ d. inr (b, j, d)) k.1)
  both_on s (inr g) = (inl g.0, inl g.1)

  -- where a step leads from each state of n to each of m, a set that chains cover is joined: on to n, a step to m, and on
  pub covered_joins : (p : ℕ) → ((a b : ℕ) → a ∈ n → b ∈ m → E a b) → Covered E m n p → Joined E p
  covered_joins p step h a b ha hb = through (both_on a (h.states a ha)).1 (both_on b (h.states b hb)).0
    where
      from_exit : (x : ℕ) → x ∈ n → Begun E m b → Chain E x b
      from_exit x i (inl j) = one (step x b i j)
      from_exit x i (inr (y, j, d)) = chain_append (one (step x y i j)) d

      through : Ended E n a → Begun E m b → Chain E a b
      through (inl i) e = from_exit a i e
      through (inr (x, i, c)) e = chain_append c (from_exit x i e)

-- F is E turned round
module _ {E F : ℕ → ℕ → Type 0} (back : (a b : ℕ) → F a b → E b a) where
  -- chains lead from s to each state of p, and from each to s
  pub joined_by : (p s : ℕ) → ((t : ℕ) → t ∈ p → Chain E s t) → ((t : ℕ) → t ∈ p → Chain F s t) → Joined E p
  joined_by p s f g a b ha hb = chain_append (chain_back back (g a ha)) (f b hb)

  -- the same from and to states that are joined
  pub joined_on : (p q : ℕ) → Joined E q → Onward (Chain E) q p → Onward (Chain F) q p → Joined E p
  joined_on p q j f g a b ha hb = let x = (g a).0 ha in let y = (f b).0 hb in
      chain_append (chain_back back x.2) (chain_append (j x.0 y.0 x.1 y.1) y.2)

  -- forward from m and backward from n: the states on chains from m to n, and those in both
  module _ (turn : (a b : ℕ) → E a b → F b a) (m n after before x y z : ℕ) (is_after : Onward (Chain E) m after) (is_before : Onward (Chain F) n before)
      (is_x : (t : ℕ) → member t x ≡ (member t m || member t after))
      (is_y : (t : ℕ) → member t y ≡ (member t n || member t before))
      (is_z : (t : ℕ) → member t z ≡ (member t x && member t y)) where
    begun_iff : (s : ℕ) → (s ∈ x) ↔ Begun E m s
    begun_iff s = (
      (λ h. ⊎_elim inl (λ g. inr ((is_after s).0 g)) (union_cases m after x is_x s h)),
      ⊎_elim (union_left m after x is_x s) (λ c. union_right m after x is_x s ((is_after s).1 c)),
    )

    ended_iff : (s : ℕ) → (s ∈ y) ↔ Ended E n s
    ended_iff s = (
      (λ h. ⊎_elim inl (λ g. let b = (is_before s).0 g in inr (b.0, b.1, chain_back back b.2)) (union_cases n before y is_y s h)),
      ⊎_elim (union_left n before y is_y s) (λ c. union_right n before y is_y s ((is_before s).1 (c.0, c.1, chain_back turn c.2))),
    )

    on_both : (s : ℕ) → Begun E m s → Ended E n s → OnChain E m n s ⊎ ((s ∈ m) × (s ∈ n))
    on_both s (inl i) (inl j) = inr (i, j)
    on_both s (inl i) (inr d) = inl (s, d.0, i, d.1, inl (refl, d.2))
    on_both s (inr c) (inl j) = inl (c.0, s, c.1, j, inr (c.2, inl refl))
    on_both s (inr c) (inr d) = inl (c.0, d.0, c.1, d.1, inr (c.2, inr d.2))

    pub covered_iff : (s : ℕ) → (s ∈ z) ↔ (OnChain E m n s ⊎ ((s ∈ m) × (s ∈ n)))
    covered_iff s = (
      (λ h. on_both s ((begun_iff s).0 (intersection_left x y z is_z s h)) ((ended_iff s).0 (intersection_right x y z is_z s h))),
      λ o. let k = both_on m n s o in intersection_both x y z is_z s ((begun_iff s).1 k.0) ((ended_iff s).1 k.1),
    )

-- Passes: to follow the states new in the last pass alone is a pass (`pass_more`, `pass_vain`), and passes find what chains lead to
-- (`passes_onward`), after a first one that is made in another way too (`onward_same`, `onward_now`).
use Prim.Native.Nat.{ℕ, zero, suc, ◌+◌, ◌^◌, ◌<◌}
use mathlib.Core.Path.{◌≡◌, refl, subst, sym}
use mathlib.Core.Bool.{◌||◌}
use mathlib.Core.Logic.{◌⊎◌, inl, inr, ⊎_elim}
use native.Mathlib.Nat.{zero-lt-suc}
use native.Mathlib.Omega.{arith}
use lib.Count.{ones, count_trailing_zeros}
use Rattle.masks.specs.Mask.{member, ◌∈◌, ◌⊆◌}
use Rattle.masks.proofs.Count.{ones_subset, ones_grows, lowest_is}
use Rattle.masks.proofs.Member.{true_or_false, not_both, in_none, union_left, union_right, union_cases}
use Rattle.search.specs.declared.Claims.{Claims}
use Rattle.search.specs.Graph.{Graph}
use Rattle.search.specs.Hops.{Hop, Chain, one, more, Onward, Joined}
use Rattle.search.specs.Passes.{Pass, FindsMore, Passes, no_pass, one_more, PassesToEnd, WalkedTo, FoundByPasses, Followed, NewTargets, Explores}
use Rattle.search.proofs.Chains.{chain_in, chain_end}
use Rattle.search.proofs.Saying.{chain_iff}

-- ---- one pass, by the states new in the last one

-- where every step leads to a state found
pub new_none : {E : ℕ → ℕ → Type 0} (found last : ℕ) → ((a b : ℕ) → E a b → b ∈ found) → NewTargets E found last 0
new_none found last f t = ((λ h. absurd (in_none t h)), λ x. absurd (x.1 (f x.0.0 t x.0.2)))

-- steps that are the same
pub new_same : {E F : ℕ → ℕ → Type 0} → ((a b : ℕ) → E a b → F a b) → ((a b : ℕ) → F a b → E a b) → (found last next : ℕ)
    → NewTargets E found last next → NewTargets F found last next
new_same f g found last next is t = (
  (λ h. let x = (is t).0 h in ((x.0.0, x.0.1, f x.0.0 t x.0.2), x.1)),
  λ x. (is t).1 ((x.0.0, x.0.1, g x.0.0 t x.0.2), x.1),
)

module _ {E : ℕ → ℕ → Type 0} (found last next : ℕ) (is_next : NewTargets E found last next) where
  -- where next has a state, so has the sum one that was not found
  module _ (sum : ℕ) (is_sum : (t : ℕ) → member t sum ≡ (member t found || member t next)) (fits : next < 2 ^ 64) (some : next ≡ 0 → ⊥) where
    pub pass_adds : FindsMore found sum
    pass_adds = by next refl fits
      where
        by : (n : ℕ) → next ≡ n → n < 2 ^ 64 → FindsMore found sum
        by zero e l = absurd (some e)
        by (suc n) e l =
            let t = count_trailing_zeros 64 (suc n) in
            let h : t ∈ next = subst (λ (x : ℕ). t ∈ x) (sym e) (lowest_is (suc n) (zero-lt-suc n) l).0 in
            (t, union_right found next sum is_sum t h, ((is_next t).0 h).1)

    pub pass_grows : found < 2 ^ 64 → sum < 2 ^ 64 → ones found < ones sum
    pass_grows hf hs = ones_grows found sum hf hs (union_left found next sum is_sum)
        (λ e. pass_adds.2 (subst (λ (x : ℕ). pass_adds.0 ∈ x) (sym e) pass_adds.1))

  module _ (m : ℕ) (now : Followed E m found last) where
    -- a step from the start, or from a state found
    lands : (a b : ℕ) → (a ∈ m) ⊎ (a ∈ found) → E a b → (b ∈ found) ⊎ (b ∈ next)
    lands a b g e = ⊎_elim (λ h. ⊎_elim inl (λ n. inr ((is_next b).1 ((a, h, e), λ k. not_both k n))) (true_or_false (member b found))) inl (now.others a b g e)

    pub pass_vain : next ≡ 0 → Pass E m found found
    pass_vain none t = (
      inl,
      ⊎_elim (λ h. h) (λ x. ⊎_elim (λ h. h) (λ h. absurd (in_none t (subst (λ (n : ℕ). t ∈ n) none h))) (lands x.0 t x.1 x.2)),
    )

    module _ (sum : ℕ) (is_sum : (t : ℕ) → member t sum ≡ (member t found || member t next)) where
      gain : (t : ℕ) → (t ∈ found) ⊎ (t ∈ next) → t ∈ sum
      gain t = ⊎_elim (union_left found next sum is_sum t) (union_right found next sum is_sum t)

      pub pass_more : Pass E m found sum
      pass_more t = (
        (λ h. ⊎_elim inl (λ k. let x = ((is_next t).0 k).0 in inr (x.0, now.within x.0 x.1, x.2)) (union_cases found next sum is_sum t h)),
        ⊎_elim (λ h. gain t (inl h)) (λ x. gain t (lands x.0 t x.1 x.2)),
      )

      pub followed_more : Followed E m sum next
      followed_more = record {
        within = λ a h. inr (gain a (inr h));
        others = λ a b g e. ⊎_elim (λ h. inr (gain b (lands a b (inl h) e)))
            (λ h. ⊎_elim (λ k. inr (gain b (lands a b (inr k) e))) inl (union_cases found next sum is_sum a h)) g;
      }

-- ---- passes one after another

-- wherever steps are followed so that the search may begin, these passes are made, and steps are followed so that it may go on
abbrev pub Going : (ℕ → ℕ → Type 0) → ℕ → ℕ → ℕ → ℕ → ℕ → Type 0
Going E found₀ last₀ found last made = (m : ℕ) → Followed E m found₀ last₀ → Passes E m found₀ made found × Followed E m found last

pub going_start : (E : ℕ → ℕ → Type 0) (found last : ℕ) → Going E found last found last 0
going_start E found last m start = (no_pass, start)

module _ {E : ℕ → ℕ → Type 0} (found₀ last₀ found last next made : ℕ) (is_next : NewTargets E found last next)
    (now : Going E found₀ last₀ found last made) where
  pub going_more : (sum : ℕ) → ((t : ℕ) → member t sum ≡ (member t found || member t next)) → next < 2 ^ 64 → (next ≡ 0 → ⊥)
      → Going E found₀ last₀ sum next (made + 1)
  going_more sum is_sum fits some m start = let x = now m start in
      (one_more x.0 (pass_more found last next is_next m x.1 sum is_sum) (pass_adds found last next is_next sum is_sum fits some), followed_more found last next is_next m x.1 sum is_sum)

  pub going_end : next ≡ 0 → (m : ℕ) → Followed E m found₀ last₀ → PassesToEnd E m found₀ (made + 1) found
  going_end none m start = let x = now m start in
      record { before = made; count_is = refl; passes = x.0; vain = pass_vain found last next is_next m x.1 none }

-- ---- what passes find

-- chains lead to the states r from the states m
abbrev pub Led : (ℕ → ℕ → Type 0) → ℕ → ℕ → Type 0
Led E m r = (t : ℕ) → t ∈ r → (s : ℕ) × (s ∈ m) × Chain E s t

pub pass_led : {E : ℕ → ℕ → Type 0} (m found r : ℕ) → Led E m found → Pass E m found r → Led E m r
pass_led m found r led is t h = ⊎_elim (led t)
    (λ x. ⊎_elim (λ k. (x.0, k, one x.2)) (λ k. let y = led x.0 k in (y.0, y.1, more y.2 x.2)) x.1) ((is t).0 h)

passes_led : {E : ℕ → ℕ → Type 0} {m first k r : ℕ} → Led E m first → Passes E m first k r → Led E m r
passes_led led no_pass = led
passes_led {m = m} led (one_more {found = f} {r = r} p is adds) = pass_led m f r (passes_led led p) is

pub passes_onward : {E : ℕ → ℕ → Type 0} {m first count r : ℕ} → Led E m first → PassesToEnd E m first count r → Onward (Chain E) m r
passes_onward {m = m} {r = r} led p t =
    (passes_led led p.passes t, λ y. chain_in m r (λ a b g e. (p.vain b).1 (inr (a, g, e))) y.1 y.2)

module _ {E : ℕ → ℕ → Type 0} (m found last next : ℕ) (is_next : NewTargets E found last next) (now : Followed E m found last) (led : Led E m found) where
  -- a first pass that adds nothing is the last
  pub onward_same : next ≡ 0 → Onward (Chain E) m found
  onward_same none = passes_onward led (record { before = 0; count_is = refl; passes = no_pass; vain = pass_vain found last next is_next m now none })

  -- else passes go on
  pub onward_now : (sum : ℕ) → ((t : ℕ) → member t sum ≡ (member t found || member t next)) → {count r : ℕ}
      → ((k : ℕ) → Followed E k sum next → PassesToEnd E k sum count r) → Onward (Chain E) m r
  onward_now sum is_sum made =
      passes_onward (pass_led m found sum led (pass_more found last next is_next m now sum is_sum)) (made m (followed_more found last next is_next m now sum is_sum))

-- the states to start from are found, and the steps of all are to be followed
pub followed_all : (E : ℕ → ℕ → Type 0) (m : ℕ) → Followed E m m m
followed_all E m = record { within = λ a h. inl h; others = λ a b g e. inl (⊎_elim (λ h. h) (λ h. h) g) }

-- where they are joined, chains lead to them
pub joined_led : {E : ℕ → ℕ → Type 0} (m : ℕ) → Joined E m → Led E m m
joined_led m is t h = (t, h, is t t h h)

-- nothing is found yet
pub followed_none : (E : ℕ → ℕ → Type 0) (m : ℕ) → Followed E m 0 m
followed_none E m = record { within = λ a h. inl h; others = λ a b g e. ⊎_elim inl (λ h. absurd (in_none a h)) g }

module _ (g : Graph) (force : Claims) (p m : ℕ) where
  walked_to : (r : ℕ) → Onward (Chain (Hop g force p)) m r → WalkedTo g force p m r
  walked_to r is rows claims n whole stands is_inner t = (
    (λ h. let x = (is t).0 h in (x.0, x.1, (chain_iff stands.masked stands.forced p is_inner x.0 t).0 x.2)),
    λ x. (is t).1 (x.0, x.1, (chain_iff stands.masked stands.forced p is_inner x.0 t).1 x.2),
  )

  pub found_by : {states count : ℕ} → p < 2 ^ 64 → Explores (Hop g force p) 0 m states count → FoundByPasses g force p m states count
  found_by {states} {count} hp x =
      let made = x.made m (followed_none (Hop g force p) m) in
      let is : Onward (Chain (Hop g force p)) m states = passes_onward (λ t h. absurd (in_none t h)) made in
      let part : states ⊆ p = λ t h. chain_end p (λ a b e. e.end) ((is t).0 h).2 in
      record { few = omega (arith, x.few, (ones_subset states p x.fits hp part).0); made = made; chains = is; walks = walked_to states is }

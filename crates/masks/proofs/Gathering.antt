-- Loops over the places of a mask, the lowest first. `gather-less` and `gather_more` answer the loop's needs where what each place gives is
-- gathered in a mask; `here_end` where each place gives itself or nothing; `passed_more` where a place passed has a property.
use Prim.Native.Nat.{ℕ}
use mathlib.Core.Path.{◌≡◌, refl, subst, sym}
use mathlib.Core.Bool.{◌||◌}
use mathlib.Core.Logic.{◌⊎◌, inl, inr, ⊎_elim, ◌↔◌, ◌≢◌}
use lib.Dec.{eqb}
use borrow.Author.Tests.{eqb-true, eqb-false}
use Rattle.masks.specs.Mask.{member, ◌∈◌, ◌⊆◌, TakesLowest}
use Rattle.masks.proofs.Member.{in_none, true_or_false, union_left, union_right, union_cases}

-- `rest` are the places left; P holds at each place that is not
pub record Passed (P : ℕ → Type 0) (places rest : ℕ) : Type 0 where
  pub left : rest ⊆ places
  pub passed : (i : ℕ) → i ∈ places → (i ∈ rest) ⊎ P i

pub passed_start : {P : ℕ → Type 0} {places : ℕ} → Passed P places places
passed_start = record { left = λ t h. h; passed = λ i h. inl h }

pub passed_from : {P : ℕ → Type 0} {places rest : ℕ} → rest ≡ places → Passed P places rest
passed_from {P} {places} all = subst (λ (n : ℕ). Passed P places n) (sym all) passed_start

pub passed_end : {P : ℕ → Type 0} {places rest : ℕ} → Passed P places rest → rest ≡ 0 → (i : ℕ) → i ∈ places → P i
passed_end g none i h = ⊎_elim (λ x. absurd (in_none i (subst (λ (n : ℕ). i ∈ n) none x))) (λ p. p) (g.passed i h)

pub passed_more : {P Q : ℕ → Type 0} {places rest low rest' : ℕ} → TakesLowest rest low rest' → Passed P places rest
    → ((i : ℕ) → i ≢ low → P i → Q i) → Q low → Passed Q places rest'
passed_more {Q} {low} taken now keeps gains = record {
  left = λ t h. now.left t ((taken.others t).0 h).0;
  passed = λ k h. ⊎_elim (λ e. inr (subst Q (sym (eqb-true k low e)) gains))
      (λ n. ⊎_elim (λ x. inl ((taken.others k).1 (x, eqb-false k low n))) (λ p. inr (keeps k (eqb-false k low n) p)) (now.passed k h))
      (true_or_false (eqb k low));
}

-- B i t: the place i gives t; `rest` are the places left, `r` what is gathered
pub record Gathered (B : ℕ → ℕ → Type 0) (places rest r : ℕ) : Type 0 where
  pub through : Passed (λ i. (t : ℕ) → B i t → t ∈ r) places rest
  pub sound : (t : ℕ) → t ∈ r → (i : ℕ) × (i ∈ places) × B i t

pub gather_start : {B : ℕ → ℕ → Type 0} {places : ℕ} → Gathered B places places 0
gather_start = record { through = passed_start; sound = λ t h. absurd (in_none t h) }

pub gather_from : {B : ℕ → ℕ → Type 0} {places rest : ℕ} → rest ≡ places → Gathered B places rest 0
gather_from {B} {places} all = subst (λ (n : ℕ). Gathered B places n 0) (sym all) gather_start

pub gather_end : {B : ℕ → ℕ → Type 0} {places rest r : ℕ} → Gathered B places rest r → rest ≡ 0
    → (t : ℕ) → (t ∈ r) ↔ ((i : ℕ) × (i ∈ places) × B i t)
gather_end g none t = (g.sound t, λ p. passed_end g.through none p.0 p.1 t p.2)

-- the place i alone, where A holds of it
abbrev pub Here : (ℕ → Type 0) → ℕ → ℕ → Type 0
Here A i t = (t ≡ i) × A i

pub here_end : (A : ℕ → Type 0) {places rest r : ℕ} → Gathered (Here A) places rest r → rest ≡ 0 → (i : ℕ) → (i ∈ r) ↔ ((i ∈ places) × A i)
here_end A {places} now none i = let all = gather_end now none i in (
  (λ h. let x = all.0 h in (subst (λ (j : ℕ). j ∈ places) (sym x.2.0) x.1, subst A (sym x.2.0) x.2.1)),
  λ h. all.1 (i, h.0, (refl, h.1)),
)

-- the lowest place is taken from the rest, and what it gives is added
pub gather_more : {B : ℕ → ℕ → Type 0} {places rest low rest' : ℕ} (r g r' : ℕ) → TakesLowest rest low rest' → Gathered B places rest r
    → ((t : ℕ) → (t ∈ g) ↔ B low t) → ((t : ℕ) → member t r' ≡ (member t r || member t g)) → Gathered B places rest' r'
gather_more {low} r g r' taken now gives is_r = record {
  through = passed_more taken now.through (λ i n f t b. union_left r g r' is_r t (f t b)) (λ t b. union_right r g r' is_r t ((gives t).1 b));
  sound = λ t h. ⊎_elim (now.sound t) (λ x. (low, now.through.left low taken.is, (gives t).0 x)) (union_cases r g r' is_r t h);
}

-- the lowest place gives nothing
pub gather_none : {B : ℕ → ℕ → Type 0} {places rest low rest' r : ℕ} → TakesLowest rest low rest' → Gathered B places rest r
    → ((t : ℕ) → B low t → ⊥) → Gathered B places rest' r
gather_none taken now gives = record {
  through = passed_more taken now.through (λ i n f. f) (λ t b. absurd (gives t b));
  sound = now.sound;
}

-- a union gives what one of two sets gives
pub gives_either : {A B : ℕ → Type 0} (a b r : ℕ) → ((t : ℕ) → (t ∈ a) ↔ A t) → ((t : ℕ) → (t ∈ b) ↔ B t)
    → ((t : ℕ) → member t r ≡ (member t a || member t b)) → (t : ℕ) → (t ∈ r) ↔ (A t ⊎ B t)
gives_either a b r f g is t = (
  (λ h. ⊎_elim (λ x. inl ((f t).0 x)) (λ x. inr ((g t).0 x)) (union_cases a b r is t h)),
  ⊎_elim (λ x. union_left a b r is t ((f t).1 x)) (λ x. union_right a b r is t ((g t).1 x)),
)

-- The number of the states of a set, and its lowest state.
use Prim.Native.Nat.{ℕ, zero, suc, ◌+◌, ◌/◌, ◌%◌, ◌^◌, ◌≤◌, ◌<◌, zero-le, suc-le-suc}
use mathlib.Core.Path.{◌≡◌, refl, sym, ap, ◌∙◌}
use mathlib.Core.Bool.{Bool, true}
use mathlib.Core.Logic.{⊎_elim}
use mathlib.Core.List.{List}
use native.Mathlib.Nat.{pow-suc, mod-lt, zero-lt-suc}
use native.Mathlib.Omega.{arith}
use lib.Arith.{lt-one}
use lib.Count.{ones, ones_step, count_trailing_zeros, under}
use lib.Dec.{eqb}
use lib.ListN.{length}
use borrow.Author.Tests.{eqb-true, eq-eqb}
use Rattle.lists.specs.Tests.{put, keep, range}
use Rattle.masks.specs.Mask.{member, ◌∈◌, ◌⊆◌}
use Rattle.masks.proofs.Digit.{digit, digit_low, digit_suc, low_le, two_pos}
use Rattle.masks.proofs.Member.{lt_or_le, member_lt, member_digit}

-- ---- the number of states

ones_none : ones 0 ≡ 0
unfolding ones
ones_none = refl

-- a part of k digits has no more ones, and is the whole where it has as many
ones_part : (k a b : ℕ) → a < 2 ^ k → b < 2 ^ k → ((t : ℕ) → t < k → digit t a ≡ true → digit t b ≡ true)
    → (ones a ≤ ones b) × (ones a ≡ ones b → a ≡ b)
ones_part zero a b ha hb f =
    let za : a ≡ 0 = lt-one ha in
    let zb : b ≡ 0 = lt-one hb in
    (rw (za, zb, ones_none) zero-le, λ e. za ∙ sym zb)
ones_part (suc k) a b ha hb f =
    let ih : (ones (a / 2) ≤ ones (b / 2)) × (ones (a / 2) ≡ ones (b / 2) → a / 2 ≡ b / 2) =
    ones_part k (a / 2) (b / 2) (omega (arith, pow-suc 2 k)) (omega (arith, pow-suc 2 k))
    (λ t l h. sym (digit_suc t b) ∙ f (suc t) (suc-le-suc l) (digit_suc t a ∙ h)) in
    let lo : a % 2 ≤ b % 2 =
    low_le (a % 2) (b % 2) (mod-lt a two_pos) (λ h. sym (digit_low b) ∙ f 0 (zero-lt-suc k) (digit_low a ∙ h)) in (
      omega (arith, ones_step a, ones_step b),
      λ e. let hi : a / 2 ≡ b / 2 = ih.1 (omega (arith, ones_step a, ones_step b)) in
          omega (arith, ones_step a, ones_step b, ap ones hi),
    )

module _ (a b : ℕ) (ha : a < 2 ^ 64) (hb : b < 2 ^ 64) (part : a ⊆ b) where
  -- a part of a set has no more states, and is the set where it has as many
  pub ones_subset : (ones a ≤ ones b) × (ones a ≡ ones b → a ≡ b)
  ones_subset = ones_part 64 a b ha hb (λ t l h. sym (member_digit t b l) ∙ part t (member_digit t a l ∙ h))

  -- a set that grows has one state more at least
  pub ones_grows : (a ≡ b → ⊥) → ones a < ones b
  ones_grows n =
      ⊎_elim (λ h. h) (λ (h : ones b ≤ ones a). absurd (n (ones_subset.1 (omega (arith, ones_subset.0))))) (lt_or_le (ones a) (ones b))

put_length : (a d : ℕ) (b : Bool) (l : List ℕ) → b ≡ eqb d 1 → d < 2 → length (put b a l) ≡ d + length l
put_length a zero b l e h = rw e (omega arith)
put_length a (suc zero) b l e h = rw e (omega arith)
put_length a (suc (suc d)) b l e h = absurd (omega arith)

-- a test of k numbers from a on that asks for the digits of m passes as many as m has ones
kept_ones : (f : ℕ → Bool) (k a m : ℕ) → m < 2 ^ k → ((t : ℕ) → t < k → f (a + t) ≡ digit t m) → length (keep f (range a k)) ≡ ones m
kept_ones f zero a m h is = sym (ap ones (lt-one h) ∙ ones_none)
kept_ones f (suc k) a m h is =
    put_length a (m % 2) (f a) (keep f (range (suc a) k)) (ap f here ∙ is 0 (zero-lt-suc k) ∙ digit_low m) (mod-lt m two_pos)
    ∙ ap (λ (x : ℕ). m % 2 + x) (kept_ones f k (suc a) (m / 2) (omega (arith, pow-suc 2 k)) (λ t l. ap f (on t) ∙ is (suc t) (suc-le-suc l) ∙ digit_suc t m))
    ∙ sym (ones_step m)
  where
    here : a ≡ a + 0
    here = omega arith

    on : (t : ℕ) → suc a + t ≡ a + suc t
    on t = omega arith

-- the states of a set, counted
pub ones_members : (m : ℕ) → m < 2 ^ 64 → length (keep (λ s. member s m) (range 0 64)) ≡ ones m
ones_members m h = kept_ones (λ s. member s m) 64 0 m h (λ t l. let e : 0 + t ≡ t = omega arith in ap (λ (x : ℕ). member x m) e ∙ member_digit t m l)

-- ---- the lowest state

-- the lowest of k digits that is a 1
trailing : (k m : ℕ) → 0 < m → m < 2 ^ k
    → (digit (count_trailing_zeros k m) m ≡ true) × (count_trailing_zeros k m < k) × ((t : ℕ) → digit t m ≡ true → count_trailing_zeros k m ≤ t)
unfolding count_trailing_zeros
trailing zero m p h = absurd (omega arith)
trailing (suc k) m p h = go (m % 2) refl (λ q. trailing k (m / 2) q (omega (arith, pow-suc 2 k)))
  where
    z : ℕ
    z = count_trailing_zeros k (m / 2)

    go : (d : ℕ) → m % 2 ≡ d
        → (0 < m / 2 → (digit z (m / 2) ≡ true) × (z < k) × ((t : ℕ) → digit t (m / 2) ≡ true → z ≤ t))
        → (digit (under d z) m ≡ true) × (under d z < suc k) × ((t : ℕ) → digit t m ≡ true → under d z ≤ t)
    go zero e rest = let r = rest (omega arith) in (digit_suc z m ∙ r.0, suc-le-suc r.1, least)
      where
        least : (t : ℕ) → digit t m ≡ true → suc z ≤ t
        least zero g = absurd (let o : m % 2 ≡ 1 = eqb-true (m % 2) 1 (sym (digit_low m) ∙ g) in omega arith)
        least (suc t) g = suc-le-suc ((rest (omega arith)).2 t (sym (digit_suc t m) ∙ g))
    go (suc zero) e rest = (digit_low m ∙ eq-eqb (m % 2) 1 e, zero-lt-suc k, λ t g. zero-le)
    go (suc (suc d)) e rest = absurd (omega (arith, mod-lt m two_pos))

-- the lowest state of a set that is not empty
pub lowest_is : (m : ℕ) → 0 < m → m < 2 ^ 64 → (count_trailing_zeros 64 m ∈ m) × ((t : ℕ) → t ∈ m → count_trailing_zeros 64 m ≤ t)
lowest_is m p h =
    let r = trailing 64 m p h in
    (member_digit _ m r.1 ∙ r.0, λ t g. r.2 t (sym (member_digit t m (member_lt t m g)) ∙ g))

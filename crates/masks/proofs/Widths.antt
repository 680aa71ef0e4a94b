-- Widths of blocks: where places lie (`lower_or_upper`, `lower_next`, `upper_back`, `lower_back`, `in_lower`), multiples of two widths (`even_more`), places moved
-- between blocks (`moved_low` to `moved_high`, `moved_from`, `moved_small`, `moved_split`), and the masks of lower blocks (`blocks_32` to `blocks_1`).
use Prim.Native.Nat.{ℕ, zero, suc, ◌+◌, ◌-◌, ◌*◌, ◌/◌, ◌%◌, ◌≤◌, ◌<◌}
use mathlib.Core.Path.{◌≡◌, refl, sym, subst}
use mathlib.Core.Bool.{Bool, true, false, not, ◌&&◌, and-eq-true_iff, false≢true}
use mathlib.Core.Logic.{◌⊎◌, inl, inr, ⊎_elim}
use native.Mathlib.Nat.{not-suc-le-zero, le_of_suc-le-suc, eq-or-lt_of_le}
use native.Mathlib.Omega.{arith}
use lib.Dec.{eqb}
use Rattle.masks.specs.Mask.{member}
use Rattle.masks.specs.Blocks.{Width, one, two, four, eight, sixteen, thirty_two, LowerPlaces, moved}
use Rattle.masks.proofs.Member.{lt_or_le}

-- what holds of each width holds of all
by_width : (P : ℕ → Type 0) → P 1 → P 2 → P 4 → P 8 → P 16 → P 32 → {b : ℕ} → Width b → P b
by_width P p₁ p₂ p₄ p₈ p₁₆ p₃₂ one = p₁
by_width P p₁ p₂ p₄ p₈ p₁₆ p₃₂ two = p₂
by_width P p₁ p₂ p₄ p₈ p₁₆ p₃₂ four = p₄
by_width P p₁ p₂ p₄ p₈ p₁₆ p₃₂ eight = p₈
by_width P p₁ p₂ p₄ p₈ p₁₆ p₃₂ sixteen = p₁₆
by_width P p₁ p₂ p₄ p₈ p₁₆ p₃₂ thirty_two = p₃₂

-- ---- places and their blocks

pub width_small : {b : ℕ} → Width b → (0 < b) × (b < 64)
width_small = by_width (λ b. (0 < b) × (b < 64)) (omega arith, omega arith) (omega arith, omega arith) (omega arith, omega arith) (omega arith, omega arith) (omega arith, omega arith) (omega arith, omega arith)

-- a place lies in a lower block or in an upper one
pub lower_or_upper : (b t : ℕ) → (t / b % 2 ≡ 0) ⊎ (t / b % 2 ≡ 1)
lower_or_upper b t = ⊎_elim (λ (h : t / b % 2 < 1). inl (omega arith)) (λ (h : 1 ≤ t / b % 2). inr (omega arith)) (lt_or_le (t / b % 2) 1)

-- one block on from a lower one is an upper one, and one block back from an upper one is a lower one
pub lower_next : {b : ℕ} → Width b → (t : ℕ) → t < 64 → t / b % 2 ≡ 0 → (t + b < 64) × ((t + b) / b % 2 ≡ 1)
lower_next = by_width (λ b. (t : ℕ) → t < 64 → t / b % 2 ≡ 0 → (t + b < 64) × ((t + b) / b % 2 ≡ 1))
    (λ t h e. (omega arith, omega arith)) (λ t h e. (omega arith, omega arith)) (λ t h e. (omega arith, omega arith))
    (λ t h e. (omega arith, omega arith)) (λ t h e. (omega arith, omega arith)) (λ t h e. (omega arith, omega arith))

pub upper_back : {b : ℕ} → Width b → (t : ℕ) → t / b % 2 ≡ 1 → (b ≤ t) × ((t - b) / b % 2 ≡ 0)
upper_back = by_width (λ b. (t : ℕ) → t / b % 2 ≡ 1 → (b ≤ t) × ((t - b) / b % 2 ≡ 0))
    (λ t e. (omega arith, omega arith)) (λ t e. (omega arith, omega arith)) (λ t e. (omega arith, omega arith))
    (λ t e. (omega arith, omega arith)) (λ t e. (omega arith, omega arith)) (λ t e. (omega arith, omega arith))

pub lower_back : {b : ℕ} → Width b → (t : ℕ) → b ≤ t → t / b % 2 ≡ 0 → (t - b) / b % 2 ≡ 1
lower_back = by_width (λ b. (t : ℕ) → b ≤ t → t / b % 2 ≡ 0 → (t - b) / b % 2 ≡ 1)
    (λ t h e. omega arith) (λ t h e. omega arith) (λ t h e. omega arith) (λ t h e. omega arith) (λ t h e. omega arith) (λ t h e. omega arith)

-- a multiple of two widths, and less than a width more
pub in_lower : {b : ℕ} → Width b → (g i : ℕ) → g % (2 * b) ≡ 0 → i < b → (g + i) / b % 2 ≡ 0
in_lower = by_width (λ b. (g i : ℕ) → g % (2 * b) ≡ 0 → i < b → (g + i) / b % 2 ≡ 0)
    (λ g i e h. omega arith) (λ g i e h. omega arith) (λ g i e h. omega arith) (λ g i e h. omega arith) (λ g i e h. omega arith) (λ g i e h. omega arith)

-- two widths on from a multiple of them is the next, which is at most 64 where the first is below
pub even_more : {b : ℕ} → Width b → (g : ℕ) → g % (2 * b) ≡ 0 → g < 64 → (g + 2 * b ≤ 64) × ((g + 2 * b) % (2 * b) ≡ 0)
even_more = by_width (λ b. (g : ℕ) → g % (2 * b) ≡ 0 → g < 64 → (g + 2 * b ≤ 64) × ((g + 2 * b) % (2 * b) ≡ 0))
    (λ g e h. (omega arith, omega arith)) (λ g e h. (omega arith, omega arith)) (λ g e h. (omega arith, omega arith))
    (λ g e h. (omega arith, omega arith)) (λ g e h. (omega arith, omega arith)) (λ g e h. (omega arith, omega arith))

-- ---- places moved between blocks

-- by whether each of two places lies in a lower block or in an upper one
module _ (b n k : ℕ) where
  pub moved_low : n / b % 2 ≡ 0 → k / b % 2 ≡ 0 → moved b n k ≡ n
  unfolding moved
  moved_low e f = rw (e, f) (omega arith)

  pub moved_up : n / b % 2 ≡ 0 → k / b % 2 ≡ 1 → moved b n k ≡ n + b
  unfolding moved
  moved_up e f = rw (e, f) (omega arith)

  pub moved_down : n / b % 2 ≡ 1 → k / b % 2 ≡ 0 → moved b n k ≡ n - b
  unfolding moved
  moved_down e f = rw (e, f) (omega arith)

  pub moved_high : b ≤ n → n / b % 2 ≡ 1 → k / b % 2 ≡ 1 → moved b n k ≡ n
  unfolding moved
  moved_high h e f = rw (e, f) (omega arith)

-- a place that is moved stays above a multiple of two widths, and below 64
pub moved_from : {b : ℕ} → Width b → (g n k : ℕ) → g % (2 * b) ≡ 0 → g ≤ n → g ≤ moved b n k
unfolding moved
moved_from = by_width (λ b. (g n k : ℕ) → g % (2 * b) ≡ 0 → g ≤ n → g ≤ moved b n k)
    (λ g n k e h. omega arith) (λ g n k e h. omega arith) (λ g n k e h. omega arith) (λ g n k e h. omega arith) (λ g n k e h. omega arith) (λ g n k e h. omega arith)

pub moved_small : {b : ℕ} → Width b → (n k : ℕ) → n < 64 → moved b n k < 64
unfolding moved
moved_small = by_width (λ b. (n k : ℕ) → n < 64 → moved b n k < 64)
    (λ n k h. omega arith) (λ n k h. omega arith) (λ n k h. omega arith) (λ n k h. omega arith) (λ n k h. omega arith) (λ n k h. omega arith)

-- with the multiples of two widths exchanged too, those of one width are
pub moved_split : {b : ℕ} → Width b → (n k : ℕ) → moved b n k / (2 * b) * (2 * b) + moved b k n % (2 * b) ≡ n / b * b + k % b
unfolding moved
moved_split = by_width (λ b. (n k : ℕ) → moved b n k / (2 * b) * (2 * b) + moved b k n % (2 * b) ≡ n / b * b + k % b)
    (λ n k. omega arith) (λ n k. omega arith) (λ n k. omega arith) (λ n k. omega arith) (λ n k. omega arith) (λ n k. omega arith)

-- ---- the mask of the places of lower blocks, computed

same? : Bool → Bool → Bool
same? true y = y
same? false y = not y

same_is : (x y : Bool) → same? x y ≡ true → x ≡ y
unfolding same?
same_is true true e = refl
same_is true false e = absurd (false≢true e)
same_is false true e = absurd (false≢true e)
same_is false false e = refl

-- has the mask, of the places below n, those of lower blocks?
lower? : (b lower n : ℕ) → Bool
lower? b lower zero = true
lower? b lower (suc n) = same? (member n lower) (eqb (n / b % 2) 0) && lower? b lower n

lower_below : (b lower n : ℕ) → lower? b lower n ≡ true → (t : ℕ) → t < n → member t lower ≡ eqb (t / b % 2) 0
unfolding lower?
lower_below b lower zero e t h = absurd (not-suc-le-zero h)
lower_below b lower (suc n) e t h =
    let p = (and-eq-true_iff (same? (member n lower) (eqb (n / b % 2) 0)) (lower? b lower n)).0 e in
    ⊎_elim (λ (q : t ≡ n). subst (λ (x : ℕ). member x lower ≡ eqb (x / b % 2) 0) (sym q) (same_is (member n lower) (eqb (n / b % 2) 0) p.0))
    (λ l. lower_below b lower n p.1 t l) (eq-or-lt_of_le (le_of_suc-le-suc h))

pub blocks_32 : Width 32 × LowerPlaces 32 4294967295
unfolding member same? lower?
blocks_32 = (thirty_two, lower_below 32 4294967295 64 refl)

pub blocks_16 : Width 16 × LowerPlaces 16 281470681808895
unfolding member same? lower?
blocks_16 = (sixteen, lower_below 16 281470681808895 64 refl)

pub blocks_8 : Width 8 × LowerPlaces 8 71777214294589695
unfolding member same? lower?
blocks_8 = (eight, lower_below 8 71777214294589695 64 refl)

pub blocks_4 : Width 4 × LowerPlaces 4 1085102592571150095
unfolding member same? lower?
blocks_4 = (four, lower_below 4 1085102592571150095 64 refl)

pub blocks_2 : Width 2 × LowerPlaces 2 3689348814741910323
unfolding member same? lower?
blocks_2 = (two, lower_below 2 3689348814741910323 64 refl)

pub blocks_1 : Width 1 × LowerPlaces 1 6148914691236517205
unfolding member same? lower?
blocks_1 = (one, lower_below 1 6148914691236517205 64 refl)

-- Masks whose places are shifted: `m >> k` and `m << k`.
use Prim.Native.Nat.{ℕ, zero, suc, ◌+◌, ◌-◌, ◌*◌, ◌/◌, ◌%◌, ◌^◌, ◌≤◌, ◌<◌}
use mathlib.Core.Path.{◌≡◌, sym, ap, ◌∙◌}
use mathlib.Core.Bool.{Bool, false, not, ◌&&◌, and-true}
use native.Mathlib.Nat.{not-suc-le-zero, le_of_suc-le-suc}
use native.Mathlib.Omega.{arith}
use lib.Dec.{eqb}
use lib.Pow.{pow_pos, shl-shr, shr-shr}
use lib.Bits.{and_mask, shifted_half, shifted_even}
use Rattle.masks.specs.Mask.{member}
use Rattle.masks.proofs.Digit.{digit, digit_low, digit_suc, digit_none, digit_and, digit_not}
use Rattle.masks.proofs.Member.{member_digit}

digit_shr : (t k m : ℕ) → digit t (m / 2 ^ k) ≡ digit (k + t) m
unfolding digit
digit_shr t k m = ap (λ (x : ℕ). eqb (x % 2) 1) (shr-shr m k t)

digit_shl : (t k m : ℕ) → digit (k + t) (m * 2 ^ k) ≡ digit t m
digit_shl t k m = sym (digit_shr t k (m * 2 ^ k)) ∙ ap (digit t) (shl-shr m k)

digit_shl_low : (t k m : ℕ) → t < k → digit t (m * 2 ^ k) ≡ false
digit_shl_low t zero m h = absurd (not-suc-le-zero h)
digit_shl_low zero (suc k) m h = digit_low (m * 2 ^ suc k) ∙ ap (λ (x : ℕ). eqb x 1) (shifted_even m k)
digit_shl_low (suc t) (suc k) m h =
    digit_suc t (m * 2 ^ suc k) ∙ ap (digit t) (shifted_half m k) ∙ digit_shl_low t k m (le_of_suc-le-suc h)

-- the digits below w stay when the others are cut off
digit_mod : (t w m : ℕ) → t < w → digit t (m % 2 ^ w) ≡ digit t m
digit_mod t w m h =
    let e : 2 ^ w - 1 - 0 ≡ 2 ^ w - 1 = omega arith in
    ap (digit t) (sym (and_mask m w)) ∙ digit_and t m (2 ^ w - 1)
    ∙ ap (λ (b : Bool). digit t m && b) (ap (digit t) (sym e) ∙ digit_not t w 0 h (pow_pos w) ∙ ap not (digit_none t)) ∙ and-true (digit t m)

-- `m >> k`
pub member_shr : (t k m : ℕ) → t + k < 64 → member t (m / 2 ^ k) ≡ member (t + k) m
member_shr t k m h =
    let e : k + t ≡ t + k = omega arith in
    member_digit t (m / 2 ^ k) (omega arith) ∙ digit_shr t k m ∙ ap (λ (x : ℕ). digit x m) e ∙ sym (member_digit (t + k) m h)

-- `m << k`
pub member_shl : (t k m : ℕ) → k ≤ t → t < 64 → member t ((m * 2 ^ k) % 2 ^ 64) ≡ member (t - k) m
member_shl t k m l h =
    let e : t ≡ k + (t - k) = omega arith in
    member_digit t ((m * 2 ^ k) % 2 ^ 64) h ∙ digit_mod t 64 (m * 2 ^ k) h ∙ ap (λ (x : ℕ). digit x (m * 2 ^ k)) e ∙ digit_shl (t - k) k m
    ∙ sym (member_digit (t - k) m (omega arith))

pub member_shl_low : (t k m : ℕ) → t < k → t < 64 → member t ((m * 2 ^ k) % 2 ^ 64) ≡ false
member_shl_low t k m l h = member_digit t ((m * 2 ^ k) % 2 ^ 64) h ∙ digit_mod t 64 (m * 2 ^ k) h ∙ digit_shl_low t k m l

-- The binary digits of a number, which the laws of membership are proved from.
use Prim.Native.Nat.{ℕ, zero, suc, ◌+◌, ◌-◌, ◌/◌, ◌%◌, ◌^◌, ◌≤◌, ◌<◌, zero-le, suc-le-suc}
use mathlib.Core.Path.{◌≡◌, refl, sym, ap, ◌∙◌}
use mathlib.Core.Bool.{Bool, true, false, not, ◌&&◌, ◌||◌, false≢true}
use native.Mathlib.Nat.{zero-div, div-one, div-div-eq-div-mul, pow-succ', pow-suc, mod-lt, zero-lt-suc, not-suc-le-zero, le_of_suc-le-suc}
use native.Mathlib.Omega.{arith}
use lib.Dec.{eqb, eqb-zero-suc, eqb-suc-zero, eqb-suc-suc}
use lib.Arith.{lt-one}
use lib.Bits.{bit_and, bit_or, and_shr, or_shr, and_mod, or_mod}
use borrow.Author.Tests.{eqb-true, eq-eqb, ne_eqb}

-- is digit t of m a 1?
unfoldable pub digit : ℕ → ℕ → Bool
digit t m = eqb (m / 2 ^ t % 2) 1

pub digit_low : (m : ℕ) → digit 0 m ≡ eqb (m % 2) 1
unfolding digit
digit_low m = ap (λ (x : ℕ). eqb (x % 2) 1) (div-one m)

pub digit_suc : (t m : ℕ) → digit (suc t) m ≡ digit t (m / 2)
unfolding digit
digit_suc t m =
    ap (λ (x : ℕ). eqb (x % 2) 1) (ap (λ (y : ℕ). m / y) (pow-succ' 2 t) ∙ sym (div-div-eq-div-mul m 2 (2 ^ t)))

pub digit_none : (t : ℕ) → digit t 0 ≡ false
unfolding digit
digit_none t = ap (λ (x : ℕ). eqb (x % 2) 1) (zero-div (2 ^ t))

-- a number below 2 to the power of n has no digit from n on
pub digit_small : (n s m : ℕ) → m < 2 ^ n → digit s m ≡ true → s < n
digit_small zero s m l h = let e : m ≡ 0 = omega arith in absurd (false≢true (sym (ap (digit s) e ∙ digit_none s) ∙ h))
digit_small (suc n) zero m l h = omega arith
digit_small (suc n) (suc s) m l h = omega (arith, digit_small n s (m / 2) (omega (arith, pow-suc 2 n)) (sym (digit_suc s m) ∙ h))

pub two_pos : 0 < 2
two_pos = zero-lt-suc 1

-- what holds of 0 and of 1 holds below 2
below_two : (P : ℕ → Type 0) → P 0 → P 1 → (x : ℕ) → x < 2 → P x
below_two P a b zero h = a
below_two P a b (suc zero) h = b
below_two P a b (suc (suc x)) h = absurd (omega arith)

-- ---- the operations

-- an operation that works digit by digit, as f does on one digit
module _ (op : ℕ → ℕ → ℕ) (f : Bool → Bool → Bool)
    (shr : (a b k : ℕ) → op a b / 2 ^ k ≡ op (a / 2 ^ k) (b / 2 ^ k))
    (rem : (a b k : ℕ) → op a b % 2 ^ k ≡ op (a % 2 ^ k) (b % 2 ^ k))
    (on_00 : eqb (op 0 0) 1 ≡ f false false) (on_01 : eqb (op 0 1) 1 ≡ f false true)
    (on_10 : eqb (op 1 0) 1 ≡ f true false) (on_11 : eqb (op 1 1) 1 ≡ f true true) where
  low : (x y : ℕ) → x < 2 → y < 2 → eqb (op x y) 1 ≡ f (eqb x 1) (eqb y 1)
  low x y hx =
      below_two (λ y. eqb (op x y) 1 ≡ f (eqb x 1) (eqb y 1))
      (below_two (λ x. eqb (op x 0) 1 ≡ f (eqb x 1) false) on_00 on_10 x hx)
      (below_two (λ x. eqb (op x 1) 1 ≡ f (eqb x 1) true) on_01 on_11 x hx) y

  digit_op : (t a b : ℕ) → digit t (op a b) ≡ f (digit t a) (digit t b)
  unfolding digit
  digit_op t a b =
      ap (λ (x : ℕ). eqb x 1) (ap (λ (x : ℕ). x % 2) (shr a b t) ∙ rem (a / 2 ^ t) (b / 2 ^ t) 1)
      ∙ low (a / 2 ^ t % 2) (b / 2 ^ t % 2) (mod-lt (a / 2 ^ t) two_pos) (mod-lt (b / 2 ^ t) two_pos)

pub digit_and : (t a b : ℕ) → digit t (bit_and a b) ≡ (digit t a && digit t b)
digit_and = digit_op bit_and (λ x y. x && y) and_shr and_mod refl refl refl refl

pub digit_or : (t a b : ℕ) → digit t (bit_or a b) ≡ (digit t a || digit t b)
digit_or = digit_op bit_or (λ x y. x || y) or_shr or_mod refl refl refl refl

pub digit_single : (t s : ℕ) → digit t (2 ^ s) ≡ eqb t s
digit_single zero zero = digit_low 1
digit_single zero (suc s) =
    digit_low (2 ^ suc s) ∙ (let e : 2 ^ suc s % 2 ≡ 0 = omega (arith, pow-suc 2 s) in rw (e, eqb-zero-suc s))
digit_single (suc t) zero = digit_suc t 1 ∙ digit_none t ∙ sym (eqb-suc-zero t)
digit_single (suc t) (suc s) =
    digit_suc t (2 ^ suc s)
    ∙ (let e : 2 ^ suc s / 2 ≡ 2 ^ s = omega (arith, pow-suc 2 s) in rw (e, eqb-suc-suc t s) (digit_single t s))

not_low : (x y : ℕ) → y < 2 → x + y ≡ 1 → eqb x 1 ≡ not (eqb y 1)
not_low x =
    below_two (λ y. x + y ≡ 1 → eqb x 1 ≡ not (eqb y 1)) (λ e. eq-eqb x 1 (omega arith)) (λ e. ne_eqb x 1 (λ q. omega arith))

-- `!b` at k digits is 2 ^ k - 1 - b
pub digit_not : (t k b : ℕ) → t < k → b < 2 ^ k → digit t (2 ^ k - 1 - b) ≡ not (digit t b)
digit_not t zero b h f = absurd (not-suc-le-zero h)
digit_not zero (suc k) b h f =
    let e : (2 ^ suc k - 1 - b) % 2 + b % 2 ≡ 1 = omega (arith, pow-suc 2 k) in
    simp digit_low (not_low ((2 ^ suc k - 1 - b) % 2) (b % 2) (mod-lt b two_pos) e)
digit_not (suc t) (suc k) b h f =
    let e : (2 ^ suc k - 1 - b) / 2 ≡ 2 ^ k - 1 - b / 2 = omega (arith, pow-suc 2 k) in
    simp (digit_suc, e) (digit_not t k (b / 2) (le_of_suc-le-suc h) (omega (arith, pow-suc 2 k)))

-- ---- the order of two digits

pub low_le : (x y : ℕ) → x < 2 → (eqb x 1 ≡ true → eqb y 1 ≡ true) → x ≤ y
low_le x y =
    below_two (λ x. (eqb x 1 ≡ true → eqb y 1 ≡ true) → x ≤ y) (λ f. zero-le)
    (λ f. let e : y ≡ 1 = eqb-true y 1 (f refl) in omega arith) x

-- two numbers of k digits with the same digits are equal
pub digit_ext : (k a b : ℕ) → a < 2 ^ k → b < 2 ^ k → ((t : ℕ) → t < k → digit t a ≡ digit t b) → a ≡ b
digit_ext zero a b ha hb f = lt-one ha ∙ sym (lt-one hb)
digit_ext (suc k) a b ha hb f =
    let hi : a / 2 ≡ b / 2 =
    digit_ext k (a / 2) (b / 2) (omega (arith, pow-suc 2 k)) (omega (arith, pow-suc 2 k))
    (λ t h. sym (digit_suc t a) ∙ f (suc t) (suc-le-suc h) ∙ digit_suc t b) in
    let lo : eqb (a % 2) 1 ≡ eqb (b % 2) 1 = sym (digit_low a) ∙ f 0 (zero-lt-suc k) ∙ digit_low b in
    let l : a % 2 ≤ b % 2 = low_le (a % 2) (b % 2) (mod-lt a two_pos) (λ e. sym lo ∙ e) in
    let g : b % 2 ≤ a % 2 = low_le (b % 2) (a % 2) (mod-lt b two_pos) (λ e. lo ∙ e) in
    omega arith

-- a number of k digits is no greater than one that has a 1 wherever it has
pub digit_le : (k a b : ℕ) → a < 2 ^ k → ((t : ℕ) → t < k → digit t a ≡ true → digit t b ≡ true) → a ≤ b
digit_le zero a b ha f = omega (arith, lt-one ha)
digit_le (suc k) a b ha f =
    let hi : a / 2 ≤ b / 2 =
    digit_le k (a / 2) (b / 2) (omega (arith, pow-suc 2 k)) (λ t l h. sym (digit_suc t b) ∙ f (suc t) (suc-le-suc l) (digit_suc t a ∙ h)) in
    let lo : a % 2 ≤ b % 2 =
    low_le (a % 2) (b % 2) (mod-lt a two_pos) (λ h. sym (digit_low b) ∙ f 0 (zero-lt-suc k) (digit_low a ∙ h)) in
    omega arith

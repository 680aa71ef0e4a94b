-- Laws of membership: a state and a set (`member_lt`, `member_small`, `has_test`), the operations on sets (`member_and`, `member_or`, `member_difference`,
-- `member_with`, `below_iff`, and what each has: `union_cases`, `difference_cases`), sets with the same states (`same`).
use Prim.Native.Nat.{ℕ, zero, suc, ◌-◌, ◌*◌, ◌/◌, ◌%◌, ◌^◌, ◌≤◌, ◌<◌}
use mathlib.Core.Path.{◌≡◌, refl, sym, ap, ap₂, ◌∙◌}
use mathlib.Core.Bool.{Bool, true, false, not, ◌&&◌, ◌||◌, and-eq-true_iff, true≢false, or-true}
use mathlib.Core.Logic.{◌⊎◌, inl, inr, ⊎_elim, ◌↔◌}
use native.Mathlib.Nat.{one-mul, mod-le, pow-suc, pow-le-pow_right}
use native.Mathlib.Decide.{dec_lt}
use native.Mathlib.Omega.{arith}
use lib.Dec.{eqb, ltb, lit<}
use lib.Pow.{pow_pos, shl_exact}
use lib.Bits.{bit_and, bit_or, and_mask, or_lt}
use borrow.Author.Tests.{ltb-true, lt-ltb, le-ltb, eqb-true, eq-eqb, ne_eqb, not-true}
use Rattle.masks.specs.Mask.{member, ◌∈◌, ◌⊆◌}
use Rattle.masks.proofs.Digit.{digit, digit_none, digit_small, two_pos, digit_and, digit_or, digit_not, digit_single, digit_ext}

-- a number is below another, or not
pub lt_or_le : (a b : ℕ) → (a < b) ⊎ (b ≤ a)
lt_or_le a b = elim (dec_lt a b) [ yes h ↦ inl h | no h ↦ inr (omega arith) ]

-- a test is true, or false
pub true_or_false : (b : Bool) → (b ≡ true) ⊎ (b ≡ false)
true_or_false true = inl refl
true_or_false false = inr refl

pub not_both : {b : Bool} → b ≡ true → b ≡ false → ⊥
not_both h g = true≢false (sym h ∙ g)

pub or_cases : (x y : Bool) → (x || y) ≡ true → (x ≡ true) ⊎ (y ≡ true)
or_cases true y h = inl refl
or_cases false y h = inr h

-- ---- a state and a set

-- a state is below 64
pub member_lt : (s m : ℕ) → s ∈ m → s < 64
unfolding member
member_lt s m h = ltb-true s 64 ((and-eq-true_iff (ltb s 64) (eqb (m / 2 ^ s % 2) 1)).0 h).0

pub member_digit : (s m : ℕ) → s < 64 → member s m ≡ digit s m
unfolding member digit
member_digit s m h = ap (λ (b : Bool). b && digit s m) (lt-ltb s 64 h)

member_past : (s m : ℕ) → 64 ≤ s → member s m ≡ false
unfolding member
member_past s m h = ap (λ (b : Bool). b && eqb (m / 2 ^ s % 2) 1) (le-ltb s 64 h)

-- the empty set
pub member_none : (t : ℕ) → member t 0 ≡ false
member_none t = ⊎_elim (λ h. member_digit t 0 h ∙ digit_none t) (member_past t 0) (lt_or_le t 64)

pub in_none : (t : ℕ) → t ∈ 0 → ⊥
in_none t h = not_both h (member_none t)

-- a set with a state is not 0
pub some_member : (t m : ℕ) → t ∈ m → 0 < m
some_member t zero h = absurd (in_none t h)
some_member t (suc m) h = omega arith

-- a set of n states has states below n
pub member_small : (n s m : ℕ) → m < 2 ^ n → s ∈ m → s < n
member_small n s m l h = digit_small n s m l (sym (member_digit s m (member_lt s m h)) ∙ h)

-- ---- the operations

-- what an operation does to the digits of the states, it does to the members
module _ (f : Bool → Bool → Bool) (none : f false false ≡ false) where
  lift : (t x a b : ℕ) → (t < 64 → digit t x ≡ f (digit t a) (digit t b)) → member t x ≡ f (member t a) (member t b)
  lift t x a b e =
      ⊎_elim (λ h. member_digit t x h ∙ e h ∙ sym (ap₂ f (member_digit t a h) (member_digit t b h)))
      (λ h. member_past t x h ∙ sym (ap₂ f (member_past t a h) (member_past t b h) ∙ none)) (lt_or_le t 64)

pub member_and : (t a b : ℕ) → member t (bit_and a b) ≡ (member t a && member t b)
member_and t a b = lift (λ x y. x && y) refl t (bit_and a b) a b (λ h. digit_and t a b)

pub member_or : (t a b : ℕ) → member t (bit_or a b) ≡ (member t a || member t b)
member_or t a b = lift (λ x y. x || y) refl t (bit_or a b) a b (λ h. digit_or t a b)

-- `a & !b`
pub member_difference : (t a b : ℕ) → b < 2 ^ 64 → member t (bit_and a (2 ^ 64 - 1 - b)) ≡ (member t a && not (member t b))
member_difference t a b hb =
    lift (λ x y. x && not y) refl t (bit_and a (2 ^ 64 - 1 - b)) a b
    (λ h. digit_and t a (2 ^ 64 - 1 - b) ∙ ap (λ (x : Bool). digit t a && x) (digit_not t 64 b h hb))

member_single : (t s : ℕ) → s < 64 → member t (2 ^ s) ≡ eqb t s
member_single t s l =
    ⊎_elim (λ h. member_digit t (2 ^ s) h ∙ digit_single t s)
    (λ (h : 64 ≤ t). member_past t (2 ^ s) h ∙ sym (ne_eqb t s (λ e. omega arith))) (lt_or_le t 64)

-- `1 << s`: nothing is shifted out
pub shifted : (s : ℕ) → s < 64 → (1 * 2 ^ s) % 2 ^ 64 ≡ 2 ^ s
shifted s h = shl_exact 1 s 64 (lit< tt) (omega arith) ∙ one-mul (2 ^ s)

-- `m | (1 << s)`
pub member_with : (t m s : ℕ) → s < 64 → member t (bit_or m ((1 * 2 ^ s) % 2 ^ 64)) ≡ (member t m || eqb t s)
member_with t m s h = member_or t m ((1 * 2 ^ s) % 2 ^ 64) ∙ ap (λ (x : Bool). member t m || x) (ap (member t) (shifted s h) ∙ member_single t s h)

-- `(1 << n) - 1`
pub below_iff : (n : ℕ) → n ≤ 64 → (t : ℕ) → (t ∈ (2 ^ n - 1)) ↔ (t < n)
below_iff n h t = (
  member_small n t (2 ^ n - 1) (omega (arith, pow_pos n)),
  λ l. let e : 2 ^ n - 1 - 0 ≡ 2 ^ n - 1 = omega arith in
      ap (member t) (sym e) ∙ member_digit t (2 ^ n - 1 - 0) (omega arith) ∙ digit_not t n 0 l (pow_pos n) ∙ ap not (digit_none t),
)

-- a set of n states and one state more is one
pub with_state : (n m s : ℕ) → n ≤ 64 → m < 2 ^ n → s < n → (w : ℕ) × (w < 2 ^ n) × ((t : ℕ) → member t w ≡ (member t m || eqb t s))
with_state n m s k l i =
    let x = (1 * 2 ^ s) % 2 ^ 64 in
    let p : 2 ^ suc s ≤ 2 ^ n = pow-le-pow_right two_pos i in
    (bit_or m x, or_lt n m x l (omega (arith, mod-le (1 * 2 ^ s) (2 ^ 64), pow-suc 2 s, p)), λ t. member_with t m s (omega arith))

-- `(m >> s) & 1 == 1`
pub has_test : (m s : ℕ) → s < 64 → eqb (bit_and (m / 2 ^ s) 1) 1 ≡ member s m
unfolding digit
has_test m s h = ap (λ (x : ℕ). eqb x 1) (and_mask (m / 2 ^ s) 1) ∙ sym (member_digit s m h)

-- ---- what the contracts of the operations say of the states

-- w is m with s
module _ (m s w : ℕ) (is : (t : ℕ) → member t w ≡ (member t m || eqb t s)) where
  pub with_same : s ∈ w
  with_same = is s ∙ ap (λ (x : Bool). member s m || x) (eq-eqb s s refl) ∙ or-true (member s m)

  pub with_more : m ⊆ w
  with_more t h = is t ∙ ap (λ (x : Bool). x || eqb t s) h

  pub with_cases : (t : ℕ) → t ∈ w → (t ∈ m) ⊎ (t ≡ s)
  with_cases t h = ⊎_elim inl (λ e. inr (eqb-true t s e)) (or_cases (member t m) (eqb t s) (sym (is t) ∙ h))

-- w is s alone
pub with_none : (s w : ℕ) → ((t : ℕ) → member t w ≡ (member t 0 || eqb t s)) → (t : ℕ) → t ∈ w → t ≡ s
with_none s w is t h = ⊎_elim (λ g. absurd (in_none t g)) (λ e. e) (with_cases 0 s w is t h)

-- r is the union of a and b
module _ (a b r : ℕ) (is : (t : ℕ) → member t r ≡ (member t a || member t b)) where
  pub union_left : a ⊆ r
  union_left t h = is t ∙ ap (λ (x : Bool). x || member t b) h

  pub union_right : b ⊆ r
  union_right t h = is t ∙ ap (λ (x : Bool). member t a || x) h ∙ or-true (member t a)

  pub union_cases : (t : ℕ) → t ∈ r → (t ∈ a) ⊎ (t ∈ b)
  union_cases t h = or_cases (member t a) (member t b) (sym (is t) ∙ h)

-- r is the intersection of a and b
module _ (a b r : ℕ) (is : (t : ℕ) → member t r ≡ (member t a && member t b)) where
  pub intersection_left : r ⊆ a
  intersection_left t h = ((and-eq-true_iff (member t a) (member t b)).0 (sym (is t) ∙ h)).0

  pub intersection_right : r ⊆ b
  intersection_right t h = ((and-eq-true_iff (member t a) (member t b)).0 (sym (is t) ∙ h)).1

  pub intersection_both : (t : ℕ) → t ∈ a → t ∈ b → t ∈ r
  intersection_both t h g = is t ∙ (and-eq-true_iff (member t a) (member t b)).1 (h, g)

  pub intersection_iff : (t : ℕ) → (t ∈ r) ↔ ((t ∈ a) × (t ∈ b))
  intersection_iff t = ((λ h. (intersection_left t h, intersection_right t h)), λ p. intersection_both t p.0 p.1)

-- r is a without b
module _ (a b r : ℕ) (is : (t : ℕ) → member t r ≡ (member t a && not (member t b))) where
  difference_is : (t : ℕ) → t ∈ r → (t ∈ a) × (not (member t b) ≡ true)
  difference_is t h = (and-eq-true_iff (member t a) (not (member t b))).0 (sym (is t) ∙ h)

  pub difference_left : r ⊆ a
  difference_left t h = (difference_is t h).0

  pub difference_not : (t : ℕ) → t ∈ r → t ∈ b → ⊥
  difference_not t h g = not_both g (not-true (member t b) (difference_is t h).1)

  pub difference_cases : (t : ℕ) → t ∈ a → (t ∈ b) ⊎ (t ∈ r)
  difference_cases t h =
      ⊎_elim inl (λ e. inr (is t ∙ ap₂ (λ (x y : Bool). x && not y) h e)) (true_or_false (member t b))

-- ---- sets with the same states

both_ways : (x y : Bool) → (x ≡ true → y ≡ true) → (y ≡ true → x ≡ true) → x ≡ y
both_ways true y f g = sym (f refl)
both_ways false true f g = g refl
both_ways false false f g = refl

-- two sets, each a part of the other, are equal
pub same : (a b : ℕ) → a < 2 ^ 64 → b < 2 ^ 64 → a ⊆ b → b ⊆ a → a ≡ b
same a b ha hb f g =
    digit_ext 64 a b ha hb
    (λ t h. sym (member_digit t a h) ∙ both_ways (member t a) (member t b) (f t) (g t) ∙ member_digit t b h)

-- a set with no state is empty
pub none : (m : ℕ) → m < 2 ^ 64 → ((t : ℕ) → t ∈ m → ⊥) → m ≡ 0
none m h f = same m 0 h (lit< tt) (λ t g. absurd (f t g)) (λ t g. absurd (in_none t g))

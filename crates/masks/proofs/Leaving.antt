-- The lowest digit of n that is a 1 is the only one that n and n - 1 do not share; a set is a greater number than what is left of it (`taken_less`).
use Prim.Native.Nat.{ℕ, zero, suc, ◌-◌, ◌/◌, ◌%◌, ◌^◌, ◌≤◌, ◌<◌}
use mathlib.Core.Path.{◌≡◌, refl, sym, ap, subst, ◌∙◌}
use mathlib.Core.Bool.{true, ◌&&◌}
use mathlib.Core.Logic.{⊎_elim, ◌↔◌, ◌≢◌}
use native.Mathlib.Nat.{mod-lt, zero-lt-suc, le_of_suc-le-suc}
use native.Mathlib.Omega.{arith}
use borrow.Author.Tests.{eqb-true, eq-eqb}
use Rattle.masks.specs.Mask.{member, ◌∈◌, ◌⊆◌, TakesLowest}
use Rattle.masks.proofs.Digit.{digit, digit_low, digit_suc, digit_le}
use Rattle.masks.proofs.Member.{lt_or_le, member_lt, member_digit, intersection_left, intersection_right, intersection_both}

odd : (n : ℕ) → digit 0 n ≡ true → n % 2 ≡ 1
odd n h = eqb-true (n % 2) 1 (sym (digit_low n) ∙ h)

even : (n : ℕ) → (digit 0 n ≡ true → ⊥) → n % 2 ≡ 0
even n f = ⊎_elim (λ (h : n % 2 < 1). omega arith)
    (λ (h : 1 ≤ n % 2). absurd (f (digit_low n ∙ eq-eqb (n % 2) 1 (let l : n % 2 < 2 = mod-lt n (zero-lt-suc 1) in omega arith)))) (lt_or_le (n % 2) 1)

shared : (z t n : ℕ) → 0 < n → digit z n ≡ true → ((s : ℕ) → digit s n ≡ true → z ≤ s) → digit t n ≡ true → (digit t (n - 1) ≡ true) ↔ (t ≢ z)
shared zero zero n p h least g =
    let e : n % 2 ≡ 1 = odd n h in
    ((λ k. absurd (let o : (n - 1) % 2 ≡ 1 = odd (n - 1) k in omega arith)), λ k. absurd (k refl))
shared zero (suc t) n p h least g =
    let e : n % 2 ≡ 1 = odd n h in
    let half : (n - 1) / 2 ≡ n / 2 = omega arith in
    ((λ k q. absurd (omega (arith, q))), λ k. digit_suc t (n - 1) ∙ ap (digit t) half ∙ sym (digit_suc t n) ∙ g)
shared (suc z) zero n p h least g = absurd (omega (arith, least 0 g))
shared (suc z) (suc t) n p h least g =
    let e : n % 2 ≡ 0 = even n (λ k. omega (arith, least 0 k)) in
    let half : (n - 1) / 2 ≡ n / 2 - 1 = omega arith in
    let same : digit (suc t) (n - 1) ≡ digit t (n / 2 - 1) = digit_suc t (n - 1) ∙ ap (digit t) half in
    let rest = shared z t (n / 2) (omega arith) (sym (digit_suc z n) ∙ h) (λ s k. le_of_suc-le-suc (least (suc s) (digit_suc s n ∙ k))) (sym (digit_suc t n) ∙ g) in
    ((λ k q. rest.0 (sym same ∙ k) (omega (arith, q))), λ k. same ∙ rest.1 (λ q. k (ap suc q)))

pub lowest_left_out : (m r : ℕ) → 0 < m → ((t : ℕ) → member t r ≡ (member t m && member t (m - 1)))
    → (i : ℕ) → i ∈ m → ((t : ℕ) → t ∈ m → i ≤ t) → (t : ℕ) → (t ∈ r) ↔ ((t ∈ m) × (t ≢ i))
lowest_left_out m r p is i h least t = (
  (λ k. let a = intersection_left m (m - 1) r is t k in (a, (law a).0 (as_digit t (m - 1) (intersection_right m (m - 1) r is t k)))),
  λ k. intersection_both m (m - 1) r is t k.0 (member_digit t (m - 1) (member_lt t m k.0) ∙ (law k.0).1 k.1),
)
  where
    as_digit : (s n : ℕ) → s ∈ n → digit s n ≡ true
    as_digit s n k = sym (member_digit s n (member_lt s n k)) ∙ k

    least_digit : (s : ℕ) → digit s m ≡ true → i ≤ s
    least_digit s k = ⊎_elim (λ l. least s (member_digit s m l ∙ k)) (λ (l : 64 ≤ s). omega (arith, member_lt i m h)) (lt_or_le s 64)

    law : t ∈ m → (digit t (m - 1) ≡ true) ↔ (t ≢ i)
    law k = shared i t m p (as_digit i m h) least_digit (as_digit t m k)

-- a part of a set is no greater as a number
pub part_le : (a b : ℕ) → a < 2 ^ 64 → a ⊆ b → a ≤ b
part_le a b h part = digit_le 64 a b h (λ t l g. sym (member_digit t b l) ∙ part t (member_digit t a l ∙ g))

-- and less without the lowest state
pub taken_less : (m low rest : ℕ) → rest < 2 ^ 64 → TakesLowest m low rest → rest < m
taken_less m low rest h t = ⊎_elim (λ (l : rest < m). l)
    (λ (l : m ≤ rest). let e : m ≡ rest = omega (arith, part_le rest m h (λ s k. ((t.others s).0 k).0)) in absurd (((t.others low).0 (subst (λ (x : ℕ). low ∈ x) e t.is)).1 refl))
    (lt_or_le rest m)

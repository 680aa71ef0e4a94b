-- A loop that makes the mask of the places below a number that have a property: `marked_start`, `marked_more`, `marked_past`, `marked_end`; and that there is one
-- (`some_mask`).
use Prim.Native.Nat.{ℕ, zero, suc, ◌+◌, ◌*◌, ◌%◌, ◌^◌, ◌<◌, ◌≤◌}
use mathlib.Core.Path.{◌≡◌, sym, subst}
use mathlib.Core.Bool.{◌||◌}
use mathlib.Core.Logic.{⊎_elim, ◌↔◌}
use native.Mathlib.Omega.{arith}
use native.Mathlib.Nat.{eq-or-lt_of_le}
use native.Mathlib.Numerals.{add-one}
use lib.Dec.{eqb}
use lib.Bits.{bit_or}
use Rattle.masks.specs.Mask.{member, ◌∈◌}
use Rattle.masks.proofs.Member.{in_none, member_with, with_same, with_more, with_cases}

-- r has the places below i that P is true of
abbrev pub Marked : (ℕ → Type 0) → ℕ → ℕ → Type 0
Marked P r i = (k : ℕ) → (k ∈ r) ↔ ((k < i) × P k)

below_suc : {k i : ℕ} → k < i + 1 → k ≤ i
below_suc l = omega arith

module _ (P : ℕ → Type 0) where
  pub marked_start : Marked P 0 0
  marked_start k = ((λ h. absurd (in_none k h)), λ p. absurd (omega (arith, p.0)))

  -- the place i is put in
  pub marked_more : (r i w : ℕ) → Marked P r i → P i → ((t : ℕ) → member t w ≡ (member t r || eqb t i)) → Marked P w (i + 1)
  marked_more r i w h g is k = (
    (λ j. ⊎_elim (λ o. let p = (h k).0 o in (omega (arith, p.0), p.1)) (λ e. (omega arith, subst P (sym e) g)) (with_cases r i w is k j)),
    λ p. ⊎_elim (λ e. subst (λ n. n ∈ w) (sym e) (with_same r i w is)) (λ l. with_more r i w is k ((h k).1 (omega arith, p.1))) (eq-or-lt_of_le (below_suc p.0)),
  )

  -- or passed
  pub marked_past : (r i : ℕ) → Marked P r i → ¬ P i → Marked P r (i + 1)
  marked_past r i h g k = (
    (λ j. let p = (h k).0 j in (omega (arith, p.0), p.1)),
    λ p. ⊎_elim (λ e. absurd (g (subst P e p.1))) (λ l. (h k).1 (omega arith, p.1)) (eq-or-lt_of_le (below_suc p.0)),
  )

  pub marked_end : (r i n : ℕ) → Marked P r i → i ≤ n → n ≤ i → Marked P r n
  marked_end r i n h a b k = ((λ j. let p = (h k).0 j in (omega (arith, p.0), p.1)), λ p. (h k).1 (omega (arith, p.0), p.1))

-- what can be decided of each number below 64 has its mask
pub some_mask : (P : ℕ → Type 0) → ((k : ℕ) → Dec (P k)) → (n : ℕ) → n ≤ 64 → (r : ℕ) × Marked P r n
some_mask P d zero h = (0, marked_start P)
some_mask P d (suc n) h = let x = some_mask P d n (omega arith) in next x.0 x.1 (d n)
  where
    next : (r : ℕ) → Marked P r n → Dec (P n) → (w : ℕ) × Marked P w (suc n)
    next r m (yes p) = let w = bit_or r ((1 * 2 ^ n) % 2 ^ 64) in (w, rw (← add-one n) (marked_more P r n w m p (λ t. member_with t r n h)))
    next r m (no p) = (r, rw (← add-one n) (marked_past P r n m p))

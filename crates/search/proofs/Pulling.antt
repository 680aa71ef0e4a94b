-- A pass made from the other side: the states not found, one by one, from which a step turned round leads to one found.
use Prim.Native.Nat.{ℕ}
use mathlib.Core.Path.{◌≡◌, refl, subst, sym}
use mathlib.Core.Bool.{Bool, true, not, ◌&&◌, ◌||◌}
use mathlib.Core.Logic.{⊎_elim, ◌↔◌}
use lib.Dec.{eqb}
use Rattle.lists.specs.Tests.{Decides}
use Rattle.masks.specs.Mask.{member, ◌∈◌}
use Rattle.masks.proofs.Member.{with_same, with_none, difference_not, difference_cases}
use Rattle.search.specs.Hops.{Onward}
use Rattle.search.specs.Passes.{NewTargets}

-- t is i, and a step leads from i to a state found
abbrev pub Pulled : (ℕ → ℕ → Type 0) → ℕ → ℕ → ℕ → Type 0
Pulled E found i t = (t ≡ i) × ((s : ℕ) × (s ∈ found) × E i s)

module _ {E : ℕ → ℕ → Type 0} (found : ℕ) where
  -- by the targets of i alone
  pub pulled_one : (i one near got : ℕ) (met : Bool) → ((t : ℕ) → member t one ≡ (member t 0 || eqb t i)) → Onward E one near
      → Decides met ((s : ℕ) × (s ∈ near) × (s ∈ found)) → ((t : ℕ) → (t ∈ got) ↔ ((t ≡ i) × (met ≡ true))) → (t : ℕ) → (t ∈ got) ↔ Pulled E found i t
  pulled_one i one near got met is_one is_near is_met is t = (
    (λ h. let g = (is t).0 h in let x = is_met.to g.1 in let y = (is_near x.0).0 x.1 in
        (g.0, (x.0, x.2, subst (λ (a : ℕ). E a x.0) (with_none i one is_one y.0 y.1) y.2))),
    λ (e, x). (is t).1 (e, is_met.of (x.0, (is_near x.0).1 (i, with_same 0 i one is_one, x.2), x.1)),
  )

  pub pulled_all : (p missing r : ℕ) → ((a b : ℕ) → E a b → a ∈ p) → ((t : ℕ) → member t missing ≡ (member t p && not (member t found)))
      → ((t : ℕ) → (t ∈ r) ↔ ((i : ℕ) × (i ∈ missing) × Pulled E found i t)) → NewTargets (λ s t. E t s) found found r
  pulled_all p missing r from_p is_missing is t = (
    (λ h. let x = (is t).0 h in let y = x.2.1 in (
      (y.0, y.1, subst (λ (i : ℕ). E i y.0) (sym x.2.0) y.2),
      subst (λ (i : ℕ). ¬ (i ∈ found)) (sym x.2.0) (difference_not p found missing is_missing x.0 x.1),
    )),
    λ (x, new). (is t).1 (
      t,
      ⊎_elim (λ k. absurd (new k)) (λ k. k) (difference_cases p found missing is_missing t (from_p t x.0 x.2)),
      (refl, x),
    ),
  )

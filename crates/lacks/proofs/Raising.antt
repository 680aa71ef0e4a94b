-- The places whose sets have all states of a set, one state after another.
use Prim.Native.Nat.{ℕ}
use mathlib.Core.Path.{◌≡◌, refl, sym, subst}
use mathlib.Core.Bool.{◌&&◌}
use mathlib.Core.Logic.{inl, inr, ⊎_elim, ◌↔◌}
use mathlib.Core.List.{List}
use lib.ListN.{get_or}
use Rattle.masks.specs.Mask.{member, ◌∈◌, ◌⊆◌, TakesLowest}
use Rattle.masks.proofs.Gathering.{Passed, passed_from, passed_end, passed_more}
use Rattle.search.specs.Graph.{Having}
use Rattle.masks.proofs.Member.{intersection_left, intersection_right, intersection_both}

module _ (sets : List ℕ) (places p : ℕ) where
  -- `rest` are the states left; r has the places whose sets have the others
  abbrev pub Raised : ℕ → ℕ → Type 0
  Raised rest r = (rest ⊆ p) × ((i : ℕ) → (i ∈ r) ↔ ((i ∈ places) × Passed (λ s. s ∈ get_or sets i 0) p rest))

  pub raised_from : {rest : ℕ} → rest ≡ p → Raised rest places
  raised_from all = (subst (λ (n : ℕ). n ⊆ p) (sym all) (λ s h. h), λ i. ((λ h. (h, passed_from all)), λ h. h.0))

  -- by has the places whose sets have the lowest state
  pub raised_more : {rest low rest' : ℕ} (r by r' : ℕ) → TakesLowest rest low rest' → Raised rest r → Having sets low by
      → ((t : ℕ) → member t r' ≡ (member t r && member t by)) → Raised rest' r'
  raised_more {rest} {low} {rest'} r by r' taken (sub, now) is_by is = (
    (λ s h. sub s ((taken.others s).0 h).0),
    λ i. (
      (λ h. let x = (now i).0 (intersection_left r by r' is i h) in
          (x.0, passed_more taken x.1 (λ s n k. k) ((is_by i).0 (intersection_right r by r' is i h)))),
      λ h. intersection_both r by r' is i ((now i).1 (h.0, before h.1)) ((is_by i).1 (here h.1)),
    ),
  )
    where
      before : {P : ℕ → Type 0} → Passed P p rest' → Passed P p rest
      before x = record { left = sub; passed = λ s h. ⊎_elim (λ k. inl ((taken.others s).0 k).0) inr (x.passed s h) }

      here : {P : ℕ → Type 0} → Passed P p rest' → P low
      here x = ⊎_elim (λ k. absurd (((taken.others low).0 k).1 refl)) (λ k. k) (x.passed low (sub low taken.is))

  pub raised_end : {rest : ℕ} (r : ℕ) → Raised rest r → rest ≡ 0 → (i : ℕ) → (i ∈ r) ↔ ((i ∈ places) × (p ⊆ get_or sets i 0))
  raised_end r (sub, now) none i = (
    (λ h. let x = (now i).0 h in (x.0, passed_end x.1 none)),
    λ h. (now i).1 (h.0, record { left = sub; passed = λ s k. inr (h.1 s k) }),
  )

-- Letters alone: what a pass by letters adds (`new_letters`), and walks without a claim (`letters_accepted`).
use Prim.Native.Nat.{ℕ}
use mathlib.Core.Path.{◌≡◌, refl, sym, subst}
use mathlib.Core.Bool.{Bool, not, ◌&&◌, ◌||◌}
use mathlib.Core.Logic.{⊎_elim}
use mathlib.Core.List.Memᴰ
use mathlib.Core.List.{List, []}
use Rattle.lists.specs.Tests.{Decides, ◌among◌}
use Rattle.lists.proofs.Deciding.{iff_decides}
use Rattle.masks.specs.Mask.{member, ◌∈◌}
use Rattle.masks.proofs.Member.{union_left, union_right, union_cases, difference_left, difference_not, difference_cases}
use Rattle.rows.specs.declared.Row.{Row}
use Rattle.rows.specs.Rows.{AllFit}
use Rattle.orderings.specs.Steps.{Claim, Label, letter, ω, back, mix, needs, Possible, Walk}
use Rattle.orderings.specs.Systems.{InForce, Allowed}
use Rattle.orderings.specs.Timelines.{timelines, Accepting}
use Rattle.search.specs.Graph.{Graph}
use Rattle.search.specs.Masked.{HasLetters, Initials, Finals, StepInside}
use Rattle.search.specs.Hops.{Lettered, Chain, Onward, all_mask}
use Rattle.search.specs.Passes.{NewTargets}
use Rattle.search.proofs.Accepting.{step_all, walk_all}
use Rattle.search.proofs.Chains.{chain_map}
use Rattle.search.proofs.Walks.{chain_leg, rest_of}

-- the targets that are not found yet
pub new_letters : {E : ℕ → ℕ → Type 0} (found last near next : ℕ) → Onward E last near → ((t : ℕ) → member t next ≡ (member t near && not (member t found))) → NewTargets E found last next
new_letters found last near next is is_next t = (
  (λ h. ((is t).0 (difference_left near found next is_next t h), difference_not near found next is_next t h)),
  λ x. ⊎_elim (λ k. absurd (x.1 k)) (λ k. k) (difference_cases near found next is_next t ((is t).1 x.0)),
)

-- no claim is in force
abbrev None : Claim → Type 0
None c = c among []

module _ {rows : List Row} (fit : AllFit rows) (g : Graph) (letters : HasLetters rows g) where
  letter_step : (a b : ℕ) → Lettered g a b → StepInside rows None all_mask a b
  letter_step a b e = let x = (letters a b).0 e in (letter x.0, x.1, tt, step_all fit a (letter x.0) b x.1.0)

  -- a step that needs a claim has none
  step_letter : (a b : ℕ) → StepInside rows None all_mask a b → Lettered g a b
  step_letter a b (l, can, force, within) = by l can force
    where
      by : (l : Label) → Possible rows a l b → InForce None (needs l) → Lettered g a b
      by (letter x) can force = (letters a b).1 (x, can)
      by (ω P) can force = absurd (Memᴰ.not-nil force)
      by (back P) can force = absurd (Memᴰ.not-nil force)
      by (mix P) can force = absurd (Memᴰ.not-nil force)

  pub letters_accepted : (initials finals : ℕ) → Initials rows initials → Finals rows finals → (seen both : ℕ) {b : Bool} → Onward (Chain (Lettered g)) initials seen
      → ((t : ℕ) → member t both ≡ (member t initials || member t seen)) → Decides b ((t : ℕ) × (t ∈ both) × (t ∈ finals))
      → Decides b ((w : Walk) × Accepting rows w × Allowed (timelines rows) None w)
  letters_accepted initials finals is_initials is_finals seen both reached is d = iff_decides to of d
    where
      to : (t : ℕ) × (t ∈ both) × (t ∈ finals) → (w : Walk) × Accepting rows w × Allowed (timelines rows) None w
      to (t, h, k) = ⊎_elim (λ j. ([], (t, t, (is_initials t).0 j, (is_finals t).0 k, refl), tt))
          (λ j. let x = (reached t).0 j in let w = chain_leg rows None all_mask x.0 t (chain_map letter_step x.2) in
          (w.0, (x.0, t, (is_initials x.0).0 x.1, (is_finals t).0 k, w.2), w.1.1)) (union_cases initials seen both is t h)

      of : (w : Walk) × Accepting rows w × Allowed (timelines rows) None w → (t : ℕ) × (t ∈ both) × (t ∈ finals)
      of (w, (a, b, ha, hb, leads), allowed) = ⊎_elim
          (λ e. (a, union_left initials seen both is a ((is_initials a).1 ha), subst (λ (x : ℕ). x ∈ finals) (sym e) ((is_finals b).1 hb)))
          (λ c. (b, union_right initials seen both is b ((reached b).1 (a, (is_initials a).1 ha, chain_map step_letter c)), (is_finals b).1 hb))
          (rest_of rows None all_mask a w b (leads, allowed, walk_all fit None w allowed))

-- Request C-18: no step and no walk of one or more steps meets a struck state (`step_unstruck`, `walk_unstruck`), and a set that has one never
-- opens (`says_unstruck`). Where no state is struck, steps, initial and final states and gaps are as without the request (`steps_as_before` and
-- the others).
use Prim.Native.Nat.{ℕ}
use mathlib.Core.Path.{refl, sym, subst}
use mathlib.Core.Logic.{⊎_elim, ◌↔◌, ◌≢◌}
use mathlib.Core.List.Memᴰ
use mathlib.Core.List.{List, [], ◌∷◌}
use Rattle.lists.specs.Tests.{◌among◌}
use Rattle.masks.specs.Mask.{◌∈◌}
use Rattle.rows.specs.declared.Row.{Row}
use Rattle.rows.specs.declared.Row.TheVariants.{Initial, Final}
use Rattle.orderings.specs.Steps.{Claim, loops, mixes, set_of, Label, letter, ω, back, mix, HasRows, content, Struck, Possible, Walk, Leads, On}
use Rattle.orderings.specs.Claims.{Through, Entrance, Exit, Gap, Says}
use Rattle.orderings.specs.Systems.{Allowed, AtHand}
use Rattle.orderings.specs.Timelines.{IsInitial, IsFinal, timelines}
use Rattle.orderings.proofs.Timelines.{members_iff}
use Rattle.orderings.proofs.Steps.{on_start}

-- a content has both ends of its step
content_ends : (rows : List Row) (p : ℕ) (l : Label) (q : ℕ) → HasRows rows p l q → p among content p l q × q among content p l q
content_ends rows p (letter a) q h = (Memᴰ.head refl, Memᴰ.tail (Memᴰ.head refl))
content_ends rows p (ω P) q h = (Memᴰ.tail ((members_iff P p).1 h.1), Memᴰ.head refl)
content_ends rows p (back P) q h = (Memᴰ.head refl, Memᴰ.tail ((members_iff P q).1 h.1))
content_ends rows p (mix P) q h = (Memᴰ.tail (Memᴰ.head refl), Memᴰ.head refl)

-- neither end of a step is struck
pub step_unstruck : (rows : List Row) (p : ℕ) (l : Label) (q : ℕ) → Possible rows p l q → (¬ Struck rows p) × (¬ Struck rows q)
step_unstruck rows p l q h = let e = content_ends rows p l q h.0 in (h.1 p e.0, h.1 q e.1)

module _ (rows : List Row) (In : Claim → Type 0) where
  -- from a state that is not struck
  on_unstruck : (w : Walk) (a s : ℕ) → Allowed (timelines rows) In w → ¬ Struck rows a → On s a w → ¬ Struck rows s
  on_unstruck [] a s h n o = subst (λ x. ¬ Struck rows x) (sym o) n
  on_unstruck (t ∷ w) a s h n o = ⊎_elim (λ e. subst (λ x. ¬ Struck rows x) (sym e) n)
      (on_unstruck w t.to s h.2 (step_unstruck rows t.from t.label t.to h.0).1) o

  pub walk_unstruck : (a b s : ℕ) (w : Walk) → Leads a w b → Allowed (timelines rows) In w → w ≢ [] → On s a w → ¬ Struck rows s
  walk_unstruck a b s [] l h some o = absurd (some refl)
  walk_unstruck a b s (t ∷ w) l h some o =
      on_unstruck (t ∷ w) a s h (subst (λ x. ¬ Struck rows x) l.0 (step_unstruck rows t.from t.label t.to h.0).0) o

  on_through : (P a b s : ℕ) (t : Through (AtHand (timelines rows) In) P a b) → On s a t.0 → ¬ Struck rows s
  on_through P a b s t o = walk_unstruck a b s t.0 t.2 t.1.1 t.4 o

  -- with whatever claims
  pub says_unstruck : (c : Claim) → Says rows (AtHand (timelines rows) In) c → (s : ℕ) → s ∈ set_of c → ¬ Struck rows s
  says_unstruck (loops P) h s i = on_through P s s s (h s s i i) (on_start s s (h s s i i).0 refl)
  says_unstruck (mixes P) h s i = ⊎_elim (λ o. on_through P o.0.0 o.0.1 s o.0.4 o.1) (λ g. g.2) (h.covered s i)

-- ---- no state is struck

module _ (rows : List Row) (none : (s : ℕ) → ¬ Struck rows s) where
  pub steps_as_before : (p : ℕ) (l : Label) (q : ℕ) → Possible rows p l q ↔ HasRows rows p l q
  steps_as_before p l q = ((λ h. h.0), λ h. (h, λ s m. none s))

  pub initial_as_before : (s : ℕ) → IsInitial rows s ↔ Initial s among rows
  initial_as_before s = ((λ h. h.0), λ h. (h, none s))

  pub final_as_before : (s : ℕ) → IsFinal rows s ↔ Final s among rows
  final_as_before s = ((λ h. h.0), λ h. (h, none s))

  pub gap_as_before : (P s : ℕ) → Gap rows P s ↔ (Entrance rows P s × Exit rows P s)
  gap_as_before P s = ((λ g. (g.0, g.1)), λ g. (g.0, g.1, none s))

-- Request C-16: of a set without gaps the amended rule says what document 01 says (`as_before`), and a mix is justified by a piece with a
-- step whose depth counts, even where gaps cover the set (`piece_counts`).
use Prim.Native.Nat.{ℕ, ◌<◌}
use mathlib.Core.Path.{◌≡◌, subst}
use mathlib.Core.Logic.{inl, ⊎_elim, ◌↔◌, ◌≢◌}
use mathlib.Core.List.{List, [], ◌∷◌}
use Rattle.lists.specs.Tests.{◌among◌}
use Rattle.masks.specs.Mask.{◌∈◌}
use Rattle.rows.specs.declared.Row.{Row}
use Rattle.orderings.specs.Steps.{mixes, Walk, Inside}
use Rattle.orderings.specs.Claims.{OnPiece, Gap, Mixes, Says}
use Rattle.orderings.specs.Systems.{System, walk_depth, Line, Derivation, depth, Valid}
use Rattle.orderings.specs.Timelines.{timelines}
use Rattle.orderings.proofs.Depths.{walk_counts}

-- document 01: P mixes when every state of P lies on some piece
pub as_before : (rows : List Row) (W : Walk → Type 0) (P x : ℕ) → x ∈ P → ((s : ℕ) → ¬ Gap rows P s)
    → Mixes rows W P ↔ ((s : ℕ) → s ∈ P → OnPiece rows W P s)
as_before rows W P x i none = (
  (λ h s m. ⊎_elim (λ o. o) (λ g. absurd (none s g)) (h.covered s m)),
  λ h. record { covered = λ s m. inl (h s m); stepped = (h x i).0 },
)

module _ (rows : List Row) where
  abbrev S : System
  S = timelines rows

  pub piece_counts : (P : ℕ) (l : Line S) (D : Derivation S) → l.claim ≡ mixes P → Valid S (l ∷ D)
      → (w : Walk) × w among l.walks × Inside P w × (w ≢ []) × (walk_depth S (depth S D) w < depth S (l ∷ D) (mixes P))
  piece_counts P l D e v =
      let h : Says rows (λ w. w among l.walks) (mixes P) = rw e at v.2 in
      let t = h.stepped.4 in
      (t.0, t.1, t.3, t.4, subst (λ c. walk_depth S (depth S D) t.0 < depth S (l ∷ D) c) e (walk_counts S l D t.0 t.1))

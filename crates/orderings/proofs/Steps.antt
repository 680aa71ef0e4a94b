-- Walks of document 01's steps: joined (`leads_append`, `inside_append`), and the states on them (`on_start`, `on_middle`, `on_end`, `on_later`), which are a set
-- (`set_on`); walks inside a set with claims in force (`Runs`, `runs_append`, `runs_cut`, `leg_of`).
use Prim.Native.Nat.{ℕ, ◌^◌, ◌≤◌, ◌<◌}
use mathlib.Core.Path.{◌≡◌, refl, ap, sym, ◌∙◌, subst}
use mathlib.Core.Logic.{inl, inr, ⊎_elim, ◌↔◌, ◌≢◌}
use mathlib.Core.List.{List, [], ◌∷◌, ◌++◌}
use native.Mathlib.Nat.{one-le-pow}
use Rattle.masks.specs.Mask.{◌∈◌}
use Rattle.masks.proofs.Digit.{two_pos}
use Rattle.masks.proofs.Member.{with_same, with_more, with_cases, in_none, with_state}
use Rattle.rows.specs.declared.Row.{Row}
use Rattle.orderings.specs.Steps.{Claim, Walk, Leads, Inside, On}
use Rattle.orderings.specs.Claims.{Through}
use Rattle.orderings.specs.Systems.{Allowed, AtHand}
use Rattle.orderings.specs.Timelines.{timelines}

pub leads_append : (a : ℕ) (v : Walk) (s : ℕ) (w : Walk) (b : ℕ) → Leads a v s → Leads s w b → Leads a (v ++ w) b
leads_append a [] s w b h k = rw h k
leads_append a (t ∷ v) s w b h k = (h.0, leads_append _ v s w b h.1 k)

pub inside_append : (P : ℕ) (v w : Walk) → Inside P v → Inside P w → Inside P (v ++ w)
inside_append P [] w h k = k
inside_append P (t ∷ v) w h k = (h.0, inside_append P v w h.1 k)

pub on_start : (s a : ℕ) (w : Walk) → s ≡ a → On s a w
on_start s a [] e = e
on_start s a (t ∷ w) e = inl e

pub on_middle : (s a : ℕ) (v w : Walk) → Leads a v s → On s a (v ++ w)
on_middle s a [] w h = on_start s a w (sym h)
on_middle s a (t ∷ v) w h = inr (on_middle s t.to v w h.1)

pub on_end : (s a : ℕ) (v : Walk) → Leads a v s → On s a v
on_end s a [] h = sym h
on_end s a (t ∷ v) h = inr (on_end s t.to v h.1)

pub on_later : (s a : ℕ) (v : Walk) (b : ℕ) (w : Walk) → Leads a v b → On s b w → On s a (v ++ w)
on_later s a [] b w h o = subst (λ x. On s x w) (sym h) o
on_later s a (t ∷ v) b w h o = inr (on_later s t.to v b w h.1 o)

-- the states on a walk, all below n, are a set
pub set_on : (n : ℕ) → n ≤ 64 → (w : Walk) (a : ℕ) → ((s : ℕ) → On s a w → s < n) → (P : ℕ) × (P < 2 ^ n) × ((s : ℕ) → (s ∈ P) ↔ On s a w)
set_on n k [] a f = let r = with_state n 0 a k (one-le-pow n 2 two_pos) (f a refl) in
    (r.0, r.1, λ s. ((λ i. ⊎_elim (λ j. absurd (in_none s j)) (λ e. e) (with_cases 0 a r.0 r.2 s i)), λ e. rw e (with_same 0 a r.0 r.2)))
set_on n k (t ∷ w) a f = let b = set_on n k w t.to (λ s o. f s (inr o)) in let r = with_state n b.0 a k b.1 (f a (inl refl)) in (
  r.0,
  r.1,
  λ s. (
    (λ i. ⊎_elim (λ j. inr ((b.2 s).0 j)) inl (with_cases b.0 a r.0 r.2 s i)),
    ⊎_elim (λ e. rw e (with_same b.0 a r.0 r.2)) (λ o. with_more b.0 a r.0 r.2 s ((b.2 s).1 o)),
  ),
)

module _ (rows : List Row) (In : Claim → Type 0) (P : ℕ) where
  -- the walk leads from a to b inside P, with the claims in force
  abbrev pub Runs : ℕ → Walk → ℕ → Type 0
  Runs a w b = Leads a w b × Allowed (timelines rows) In w × Inside P w

  pub runs_append : (a : ℕ) (v : Walk) (s : ℕ) (w : Walk) (b : ℕ) → Runs a v s → Runs s w b → Runs a (v ++ w) b
  runs_append a [] s w b h k = subst (λ (x : ℕ). Runs x w b) (sym h.0) k
  runs_append a (t ∷ v) s w b h k =
      let r = runs_append t.to v s w b (h.0.1, h.1.2, h.2.1) k in
      ((h.0.0, r.0), (h.1.0, h.1.1, r.1), (h.2.0, r.2))

  -- cut at a state on it
  pub runs_cut : (s a : ℕ) (w : Walk) (b : ℕ) → Runs a w b → On s a w → (u : Walk) × (v : Walk) × Runs a u s × Runs s v b × (w ≡ u ++ v)
  runs_cut s a [] b g o = ([], [], (sym o, tt, tt), (o ∙ g.0, tt, tt), refl)
  runs_cut s a (t ∷ w) b g (inl e) = ([], t ∷ w, (sym e, tt, tt), subst (λ x. Runs x (t ∷ w) b) (sym e) g, refl)
  runs_cut s a (t ∷ w) b g (inr o) = let r = runs_cut s t.to w b (g.0.1, g.1.2, g.2.1) o in
      (t ∷ r.0, r.1, ((g.0.0, r.2.0), (g.1.0, g.1.1, r.2.1), (g.2.0, r.2.2)), r.3, ap (λ (x : Walk). t ∷ x) r.4)

  abbrev pub leg_of : (a b : ℕ) (w : Walk) → Runs a w b → w ≢ [] → Through (AtHand (timelines rows) In) P a b
  leg_of a b w r n = (w, ((a, b, r.0), r.1), r.0, r.2, n)

  abbrev pub runs_of : (a b : ℕ) → (t : Through (AtHand (timelines rows) In) P a b) → Runs a t.0 b
  runs_of a b t = (t.2, t.1.1, t.3)

-- Chains of steps inside P are the walks inside P, and what lies between on a chain lies on a walk.
use Prim.Native.Nat.{ℕ}
use mathlib.Core.Path.{◌≡◌, refl, sym, subst}
use mathlib.Core.Logic.{◌⊎◌, inl, inr, ⊎_elim, ◌≢◌}
use mathlib.Core.List.{List, [], ◌∷◌, ◌++◌, cons≢nil, append-ne-nil_of_right_ne-nil}
use Rattle.rows.specs.declared.Row.{Row}
use Rattle.orderings.specs.Steps.{Claim, Step, Walk, On}
use Rattle.orderings.specs.Claims.{Through}
use Rattle.orderings.specs.Systems.{AtHand}
use Rattle.orderings.specs.Timelines.{timelines}
use Rattle.orderings.proofs.Steps.{on_start, on_middle, on_end, Runs, runs_append, leg_of}
use Rattle.search.specs.Masked.{StepInside}
use Rattle.search.specs.Hops.{Chain, one, more, Between}
use Rattle.search.proofs.Chains.{chain_append}

module _ (rows : List Row) (In : Claim → Type 0) (P : ℕ) where
  abbrev Link : ℕ → ℕ → Type 0
  Link a b = StepInside rows In P a b

  abbrev Leg : ℕ → ℕ → Type 0
  Leg a b = Through (AtHand (timelines rows) In) P a b

  runs_step : (a b : ℕ) → Link a b → (w : Walk) × Runs rows In P a w b × (w ≢ [])
  runs_step a b (l, can, force, within) = (record { from = a; label = l; to = b } ∷ [], ((refl, refl), (can, force, tt), (within, tt)), cons≢nil)

  chain_runs : {a b : ℕ} → Chain Link a b → (w : Walk) × Runs rows In P a w b × (w ≢ [])
  chain_runs {a} {b} (one e) = runs_step a b e
  chain_runs {a} {b} (more {b = k} c e) =
      let v = chain_runs c in
      let w = runs_step k b e in
      (v.0 ++ w.0, runs_append rows In P a v.0 k w.0 b v.1 w.1, append-ne-nil_of_right_ne-nil v.0 w.2)

  pub chain_leg : (a b : ℕ) → Chain Link a b → Leg a b
  chain_leg a b c = let w = chain_runs c in leg_of rows In P a b w.0 w.1 w.2

  first : (a : ℕ) (t : Step) (w : Walk) (b : ℕ) → Runs rows In P a (t ∷ w) b → Link a t.to
  first a t w b r = subst (λ (x : ℕ). Link x t.to) r.0.0 (t.label, r.1.0, r.1.1, r.2.0)

  then : (a k b : ℕ) → Link a k → (k ≡ b) ⊎ Chain Link k b → Chain Link a b
  then a k b e = ⊎_elim (λ q. subst (Chain Link a) q (one e)) (chain_append (one e))

  pub rest_of : (a : ℕ) (w : Walk) (b : ℕ) → Runs rows In P a w b → (a ≡ b) ⊎ Chain Link a b
  rest_of a [] b r = inl r.0
  rest_of a (t ∷ w) b r = inr (then a t.to b (first a t w b r) (rest_of t.to w b (r.0.1, r.1.2, r.2.1)))

  runs_chain : (a : ℕ) (w : Walk) (b : ℕ) → Runs rows In P a w b → w ≢ [] → Chain Link a b
  runs_chain a [] b r n = absurd (n refl)
  runs_chain a (t ∷ w) b r n = then a t.to b (first a t w b r) (rest_of t.to w b (r.0.1, r.1.2, r.2.1))

  pub leg_chain : (a b : ℕ) → Leg a b → Chain Link a b
  leg_chain a b t = runs_chain a t.0 b (t.2, t.1.1, t.3) t.4

  -- a walk cut at a state on it
  cut : (s a : ℕ) (w : Walk) (b : ℕ) → Runs rows In P a w b → On s a w → (s ≡ a) ⊎ (Chain Link a s × ((s ≡ b) ⊎ Chain Link s b))
  cut s a [] b r o = inl o
  cut s a (t ∷ w) b r (inl e) = inl e
  cut s a (t ∷ w) b r (inr o) =
      let e = first a t w b r in
      let r' : Runs rows In P t.to w b = (r.0.1, r.1.2, r.2.1) in
      inr (⊎_elim
      (λ q. (then a t.to s e (inl (sym q)), subst (λ (x : ℕ). (x ≡ b) ⊎ Chain Link x b) (sym q) (rest_of t.to w b r')))
      (λ k. (then a t.to s e (inr k.0), k.1)) (cut s t.to w b r' o))

  pub leg_between : (a b s : ℕ) → (t : Leg a b) × On s a t.0 → Between Link a b s
  leg_between a b s (t, o) = ⊎_elim (λ e. inl (e, subst (λ (x : ℕ). Chain Link x b) (sym e) (leg_chain a b t))) inr
      (cut s a t.0 b (t.2, t.1.1, t.3) o)

  pub between_leg : (a b s : ℕ) → Between Link a b s → (t : Leg a b) × On s a t.0
  between_leg a b s (inl k) =
      let w = chain_runs (subst (λ (x : ℕ). Chain Link x b) k.0 k.1) in
      (leg_of rows In P a b w.0 w.1 w.2, on_start s a w.0 k.0)
  between_leg a b s (inr (c, inl e)) =
      let w = chain_runs c in
      (leg_of rows In P a b w.0 (subst (Runs rows In P a w.0) e w.1) w.2, on_end s a w.0 w.1.0)
  between_leg a b s (inr (c, inr d)) =
      let v = chain_runs c in
      let w = chain_runs d in (
        leg_of rows In P a b (v.0 ++ w.0) (runs_append rows In P a v.0 s w.0 b v.1 w.1) (append-ne-nil_of_right_ne-nil v.0 w.2),
        on_middle s a v.0 w.0 v.1.0,
      )

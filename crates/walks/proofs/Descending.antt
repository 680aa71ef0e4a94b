-- A walk that goes down layers by the first step into each: it is one (`descends_step`, `descends_no_step`), two make one (`descends_append`),
-- it reads no layer but those below its count (`descends_same`), and steps that follow the layers are it (`follows_descends`).
use Prim.Native.Nat.{ℕ, zero, suc, ◌+◌, ◌<◌}
use mathlib.Core.Path.{◌≡◌, refl, ap, sym, subst, ◌∙◌}
use mathlib.Core.List.{List, [], ◌∷◌, ◌++◌}
use native.Mathlib.Omega.{arith}
use native.Mathlib.Nat.{zero-add, suc-add}
use lib.ListN.{get_or, drop}
use lib.Seq.{get_or-drop}
use Rattle.std.specs.Prelude.{None, Some}
use Rattle.lists.proofs.Sorting.{≺_connex}
use Rattle.orderings.specs.Steps.{Label, Walk, Leads}
use Rattle.machine.specs.declared.Step.{Step}
use Rattle.machine.specs.Labels.{label_of, step_from}
use Rattle.machine.specs.Order.{kind, value}
use Rattle.machine.proofs.Walks.{label_same}
use Rattle.walks.specs.Choices.{Chooses}
use Rattle.walks.specs.Walks.{Descends, walk_from, Follows}

-- where steps stand in order, the first is one
first_one : (layer : ℕ) (W : Label → ℕ → Type 0) {Ordered : Type 0} → Ordered → (t s : Step) → Chooses layer W Ordered (Some t) → Chooses layer W Ordered (Some s)
    → (label_of t.label ≡ label_of s.label) × (t.to ≡ s.to)
first_one layer W o t s c d =
    let x = label_of t.label in
    let y = label_of s.label in
    let keys : (kind x ∷ value x ∷ t.to ∷ []) ≡ (kind y ∷ value y ∷ s.to ∷ []) = ≺_connex (kind x ∷ value x ∷ t.to ∷ []) (kind y ∷ value y ∷ s.to ∷ []) (d.2 o x t.to c.0 c.1) (c.2 o y s.to d.0 d.1) in
    (label_same x y (cc) (cc), cc)

module _ (W : ℕ → Label → ℕ → Type 0) (Ordered : Type 0) where
  pub descends_end : (layers : List ℕ) (a : ℕ) (w : Walk) → Descends W Ordered layers a 0 w → w ≡ []
  unfolding Descends
  descends_end layers a w d = d

  -- one step more
  pub descends_more : (layers : List ℕ) (a k : ℕ) (t : Step) (v : Walk) → Chooses (get_or layers k 0) (W a) Ordered (Some t) → Descends W Ordered layers t.to k v
      → Descends W Ordered layers a (suc k) (step_from a t ∷ v)
  unfolding Descends
  descends_more layers a k t v c d = (t, v, refl, c, d)

  -- the step that is chosen is the walk's
  pub descends_step : Ordered → (layers : List ℕ) (a k : ℕ) (t : Step) (w : Walk) → Chooses (get_or layers k 0) (W a) Ordered (Some t) → Descends W Ordered layers a (suc k) w
      → (v : Walk) × (w ≡ step_from a t ∷ v) × Descends W Ordered layers t.to k v
  unfolding Descends
  descends_step o layers a k t w c (s, v, e, d, rest) =
      let one = first_one (get_or layers k 0) (W a) o t s c d in
      (v, rw (one.0, one.1) e, rw one.1 rest)

  pub descends_no_step : Ordered → (layers : List ℕ) (a k : ℕ) (w : Walk) → Chooses (get_or layers k 0) (W a) Ordered None → ¬ Descends W Ordered layers a (suc k) w
  unfolding Descends
  descends_no_step o layers a k w none (t, v, e, c, rest) = none o (label_of t.label) t.to c.0 c.1

  pub descends_append : (layers : List ℕ) (k s : ℕ) (w : Walk) → Descends W Ordered layers s k w
      → (j a : ℕ) (v : Walk) → Descends W Ordered (drop k layers) a j v → Leads a v s → Descends W Ordered layers a (j + k) (v ++ w)
  unfolding Descends
  descends_append layers k s w d zero a v e l =
      let q : a ≡ s = subst (λ (x : Walk). Leads a x s) e l in
      rw (e, zero-add k, q) d
  descends_append layers k s w d (suc j) a v (t, u, e, c, rest) l =
      let z : k + j ≡ j + k = omega arith in
      let h : Leads t.to u s = (subst (λ (x : Walk). Leads a x s) e l).1 in
      let there = subst (λ (x : ℕ). Chooses x (W a) Ordered (Some t)) (get_or-drop k layers j 0 ∙ ap (λ (x : ℕ). get_or layers x 0) z) c in
      rw (suc-add j k) (t, u ++ w, ap (λ (x : Walk). x ++ w) e, there, descends_append layers k s w d j t.to u rest h)

  pub descends_same : (layers layers' : List ℕ) (k a : ℕ) (w : Walk) → ((i : ℕ) → i < k → get_or layers i 0 ≡ get_or layers' i 0)
      → Descends W Ordered layers a k w → Descends W Ordered layers' a k w
  unfolding Descends
  descends_same layers layers' zero a w same d = d
  descends_same layers layers' (suc k) a w same (t, v, e, c, rest) = (
    t,
    v,
    e,
    subst (λ (x : ℕ). Chooses x (W a) Ordered (Some t)) (same k (omega arith)) c,
    descends_same layers layers' k t.to v (λ i h. same i (omega arith)) rest,
  )

  -- steps that follow the layers are the walk that goes down
  pub follows_descends : Ordered → (layers : List ℕ) (k a : ℕ) (l : List Step) (w : Walk) → Follows W Ordered layers a k l → Descends W Ordered layers a k w → walk_from a l ≡ w
  follows_descends o layers zero a l w f d = rw f (sym (descends_end layers a w d))
  follows_descends o layers (suc k) a [] w f d = absurd (descends_no_step o layers a k w f d)
  follows_descends o layers (suc k) a (t ∷ l) w f d =
      let s = descends_step o layers a k t w f.0 d in
      ap (λ (v : Walk). step_from a t ∷ v) (follows_descends o layers k t.to l s.0 f.1 s.2) ∙ sym s.1

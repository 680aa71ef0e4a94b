-- The states that a walk of one or more of the given steps leads to, computed (`reach_decides`), by a walk no longer than these (`shorten`).
use Prim.Native.Nat.{ℕ, zero, suc, ◌≤◌}
use mathlib.Core.Path.{◌≡◌, refl}
use mathlib.Core.Logic.{◌⊎◌, inl, inr, ⊎_elim, ◌≢◌}
use mathlib.Core.List.Memᴰ
use mathlib.Core.List.{List, [], ◌∷◌, ◌++◌, cons≢nil, concat-ne-nil}
use lib.Dec.{eqb}
use lib.ListN.{length, length-append, length-map}
use native.Mathlib.Omega.{arith}
use Rattle.lists.specs.Tests.{Decides, ◌among◌, ◌part_of◌}
use Rattle.lists.specs.Growing.{grown}
use Rattle.lists.proofs.Deciding.{eqb_decides, and_decides, or_decides, any_decides, has_decides, iff_decides, map_in}
use Rattle.lists.proofs.Growing.{grow_iff, at_rest}
use Rattle.orderings.specs.Steps.{Step, Walk, Leads}
use Rattle.orderings.specs.Decide.{leads_to?, targets, reach, reaches?}
use Rattle.orderings.proofs.Steps.{leads_append}

module _ (G : List Step) where
  -- a walk of n steps at most that leads from a to x
  abbrev Short : ℕ → ℕ → ℕ → Type 0
  Short a n x = (w : Walk) × Leads a w x × w part_of G × (w ≢ []) × (length w ≤ n)

  abbrev found : ℕ → ℕ → List ℕ
  found a n = grown eqb (targets G) (leads_to? G a) n

  step_decides : (a : ℕ) (l : List ℕ) (x : ℕ) → Decides (leads_to? G a l x) ((t : Step) × t among G × ((t.to ≡ x) × ((t.from ≡ a) ⊎ t.from among l)))
  step_decides a l x = any_decides (λ t. and_decides (eqb_decides t.to x) (or_decides (eqb_decides t.from a) (has_decides eqb_decides t.from l))) G

  sound : (a n x : ℕ) → x among found a n → Short a n x
  sound a zero x m = absurd (Memᴰ.not-nil m)
  sound a (suc n) x m = ⊎_elim (λ i. let r = sound a n x i in (r.0, r.1, r.2, r.3, omega (arith, r.4))) (λ i. last ((step_decides a _ x).to i) (sound a n)) ((grow_iff eqb_decides (targets G) (leads_to? G a) _ x).0 m).1
    where
      last : (p : (t : Step) × t among G × ((t.to ≡ x) × ((t.from ≡ a) ⊎ t.from among found a n))) → ((y : ℕ) → y among found a n → Short a n y) → Short a (suc n) x
      last p below = let t = p.0 in ⊎_elim
          (λ e. (t ∷ [], (e, p.2.0), (λ s m. Memᴰ.cast (Memᴰ.eq_of_singleton m) p.1), cons≢nil, omega arith))
          (λ i. let r = below _ i in (
            r.0 ++ (t ∷ []),
            leads_append a r.0 t.from (t ∷ []) x r.1 (refl, p.2.0),
            (λ s m. ⊎_elim (r.2 s) (λ j. Memᴰ.cast (Memᴰ.eq_of_singleton j) p.1) (Memᴰ.append_cases r.0 m)),
            concat-ne-nil t r.0,
            omega (arith, r.4, length-append r.0 (t ∷ [])),
          )) p.2.1

  enter : (a : ℕ) (t : Step) → (t.from ≡ a) ⊎ t.from among reach G a → t among G → t.to among reach G a
  unfolding reach
  enter a t h m = rw (at_rest eqb_decides (targets G) (leads_to? G a))
      ((grow_iff eqb_decides (targets G) (leads_to? G a) (reach G a) t.to).1 (map_in _ m, inr ((step_decides a (reach G a) t.to).of (t, m, (refl, h)))))

  complete : (a : ℕ) (t : Step) (w : Walk) (b : ℕ) → (t.from ≡ a) ⊎ t.from among reach G a → (t ∷ w) part_of G → Leads t.to w b → b among reach G a
  complete a t [] b h m c = rw (← c) (enter a t h (m t (Memᴰ.head refl)))
  complete a t (s ∷ w) b h m c = complete a s w b (inr (rw c.0 (enter a t h (m t (Memᴰ.head refl))))) (λ x i. m x (Memᴰ.tail i)) c.1

  entered : (a b : ℕ) (w : Walk) → Leads a w b → w part_of G → w ≢ [] → b among reach G a
  entered a b [] c p n = absurd (n refl)
  entered a b (t ∷ w) c p n = complete a t w b (inl c.0) p c.1

  short : (a b : ℕ) → b among reach G a → Short a (length G) b
  unfolding reach
  short a b m = let r = sound a (length (targets G)) b m in (r.0, r.1, r.2, r.3, omega (arith, r.4, length-map G (λ (t : Step). t.to)))

  pub reach_decides : (a b : ℕ) → Decides (reaches? G a b) ((w : Walk) × Leads a w b × w part_of G × (w ≢ []))
  reach_decides a b = iff_decides (λ m. let r = short a b m in (r.0, r.1, r.2, r.3)) (λ p. entered a b p.0 p.1 p.2 p.3) (has_decides eqb_decides b (reach G a))

  -- where a walk leads, one of no more steps than there are to choose from leads
  pub shorten : (a b : ℕ) (w : Walk) → Leads a w b → w part_of G → (v : Walk) × Leads a v b × v part_of G × (length v ≤ length G)
  shorten a b [] c p = ([], c, p, omega arith)
  shorten a b (t ∷ w) c p = let r = short a b (entered a b (t ∷ w) c p cons≢nil) in (r.0, r.1, r.2, r.4)

  -- the same for walks of one or more steps
  pub shorten_some : (a b : ℕ) (w : Walk) → Leads a w b → w part_of G → w ≢ [] → (v : Walk) × Leads a v b × v part_of G × (v ≢ []) × (length v ≤ length G)
  shorten_some a b w c p n = short a b (entered a b w c p n)

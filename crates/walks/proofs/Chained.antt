-- The first letter step of rows chained by the states that they start from: the best word so far (`better_none`, `better_first`, `better_old`,
-- `better_new`), the loop along the chain (`looked_start`, `looked_more`), and what it finds (`looked_none`, `looked_some`).
use Prim.Native.Nat.{ℕ, ◌%◌, ◌≤◌, ◌<◌}
use mathlib.Core.Path.{◌≡◌, refl, ap, sym, subst, ◌∙◌}
use mathlib.Core.Logic.{inl, inr, ⊎_elim, ∥∥₁_elim}
use mathlib.Core.List.{List}
use native.Mathlib.Omega.{arith}
use lib.ListN.{get_or}
use Rattle.std.specs.Prelude.{Option, None, Some}
use Rattle.std.specs.Coded.{le_prop}
use Rattle.chains.specs.declared.Links.{Links}
use Rattle.chains.specs.Chains.{Falls}
use Rattle.chains.specs.Passing.{GivesPlace}
use Rattle.chains.proofs.Passing.{Passed, passed_from, passed_more, passed_end}
use Rattle.masks.specs.Mask.{◌∈◌}
use Rattle.rows.specs.declared.Row.TheVariants.{Successor}
use Rattle.rows.specs.Keys.{row_from}
use Rattle.rows.proofs.Keys.{letter_order}
use Rattle.machine.specs.declared.StepLabel.TheVariants.{Letter}
use Rattle.row_table.specs.Letters.{LetterAt}
use Rattle.walks.specs.Choices.{source, BySource, as_step, Into, Reaches, Better, Picked}

module _ (a layer : ℕ) where
  pub better_none : (best : Option ℕ) (word : ℕ) → ¬ Into a layer word → Better a layer best word best
  better_none best word h = record { is = inl refl; keeps = λ w r. r; gains = λ i. absurd (h i) }

  pub better_first : (word : ℕ) → Into a layer word → Better a layer None word (Some word)
  better_first word i = record { is = inr (refl, i); keeps = λ w r. absurd r; gains = λ j. omega arith }

  pub better_old : (best word : ℕ) → best < word → Better a layer (Some best) word (Some best)
  better_old best word l = record { is = inl refl; keeps = λ w r. r; gains = λ j. omega arith }

  pub better_new : (best word : ℕ) → Into a layer word → word ≤ best → Better a layer (Some best) word (Some word)
  better_new best word i l = record { is = inr (refl, i); keeps = λ w r. omega arith; gains = λ j. omega arith }

module _ (words first next : List ℕ) (n : ℕ) (by : ∥ BySource first next words n ∥₁) where
  pub few_of : n ≤ 256
  few_of = ∥∥₁_elim by le_prop (λ b. b.few)

  pub heads_of : (a : ℕ) → get_or first a 0 ≤ n
  heads_of a = ∥∥₁_elim by le_prop (λ b. b.chains.heads_few a)

  pub falls_of : (a : ℕ) → Falls next (get_or first a 0)
  falls_of a i h = ∥∥₁_elim by le_prop (λ b. b.chains.falls i (omega (arith, heads_of a)))

-- along the chain from `first` on: the best word is one of the first n, and none that was passed is less
pub record Looked (words next : List ℕ) (a layer first n : ℕ) (left : Links) (best : Option ℕ) : Type 0 where
  pub is : (w : ℕ) → best ≡ Some w → (j : ℕ) × (j < n) × (get_or words j 0 ≡ w) × Into a layer w
  pub passed : Passed (λ i. Into a layer (get_or words i 0) → Reaches best (get_or words i 0)) next first left

module _ {words next : List ℕ} {a layer first n : ℕ} where
  pub looked_start : {left begun : Links} → left ≡ begun → (begun.link ≡ first) × (begun.next.now ≡ next) → Looked words next a layer first n left None
  looked_start same is = record { is = λ w e. absurd (let z : ◌≡◌ {A = ℕ} 0 1 = cc in omega arith); passed = passed_from same is }

  -- one place more
  pub looked_more : {left left' : Links} {best r : Option ℕ} {at : ℕ} → GivesPlace left (Some at) left' → first ≤ n → Looked words next a layer first n left best → Better a layer best (get_or words at 0) r
      → Looked words next a layer first n left' r
  looked_more {left} {left'} {best} {r} {at} gives few l b = record {
    is = λ w e. ⊎_elim (λ q. l.is w (sym q ∙ e))
        (λ p. let z : get_or words at 0 ≡ w = cc (p.0) in (at, omega (arith, gives.0, l.passed.within), z, subst (Into a layer) z p.1)) b.is;
    passed = passed_more gives l.passed (λ i f g. b.keeps (get_or words i 0) (f g)) b.gains;
  }

-- the end of the chain of a state: the best word is the first of its letter steps into the layer
module _ (words first next : List ℕ) (a layer n : ℕ) (low : a < 64) (by : ∥ BySource first next words n ∥₁) where
  -- every letter row of the state is in its chain
  reached : (best : Option ℕ) {left : Links} → left.link ≡ 0 → Looked words next a layer (get_or first a 0) n left best → {C : Type 0} → IsProp C
      → (j x t : ℕ) → j < n → row_from (get_or words j 0) 0 ≡ Successor a x t → t ∈ layer → (Reaches best (get_or words j 0) → C) → C
  reached best none l prop j x t h e m then =
      let same : a % 64 ≡ a = omega arith in
      let key : source (row_from (get_or words j 0) 0) ≡ a = ap source e ∙ same in
      ∥∥₁_elim by prop (λ b. then (passed_end none l.passed j (rw key at (b.chains.stands j h)) (x, t, e, m)))

  pub looked_none : {left : Links} → left.link ≡ 0 → Looked words next a layer (get_or first a 0) n left None → Picked layer (LetterAt words n a) (λ x l. l ≡ Letter x) (Unit {0}) None
  looked_none none l = λ u x t (j, h, e) m. reached None none l (λ p q. absurd p) j x t h e m (λ r. r)

  pub looked_some : (best : ℕ) {left : Links} → left.link ≡ 0 → Looked words next a layer (get_or first a 0) n left (Some best) → Picked layer (LetterAt words n a) (λ x l. l ≡ Letter x) (Unit {0}) (as_step (row_from best 0))
  looked_some best none l =
      let (j, h, e, (x, t, f, m)) = l.is best refl in
      rw f (x, refl, (j, h, rw e f), m, λ u y v (i, g, d) k. letter_order best (get_or words i 0) (reached (Some best) none l le_prop i y v g d k (λ r. r)) f d)

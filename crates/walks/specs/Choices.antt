-- The steps from a state into a set of states as the arrays have them, and the first of them.
use Rattle.std.specs.Prelude.{ℕ, ◌%◌, ◌≤◌, ◌<◌, ◌≡◌, ◌⊎◌, List, [], ◌∷◌, get_or, Option, None, Some}
use Rattle.lists.specs.Order.{◌≺◌}
use Rattle.chains.specs.Chains.{Chains}
use Rattle.masks.specs.Mask.{◌∈◌}
use Rattle.rows.specs.declared.Row.{Row}
use Rattle.rows.specs.declared.Row.TheVariants.{Initial, Final, Successor, LeftLimit, RightLimit, Strike}
use Rattle.rows.specs.Keys.{row_from}
use Rattle.orderings.specs.Steps.{Label, letter, ω, back, mix}
use Rattle.machine.specs.Order.{kind, value}
use Rattle.machine.specs.declared.StepLabel.{StepLabel}
use Rattle.machine.specs.declared.StepLabel.TheVariants.{Letter}
use Rattle.machine.specs.declared.Step.{Step}
use Rattle.machine.specs.Labels.{label_of}
use Rattle.search.specs.declared.Claims.{Claims}
use Rattle.search.specs.Graph.{Graph}
use Rattle.row_table.specs.Letters.{LetterAt}

-- a and t lie in the sets that two lists of masks have at the place of the set P
abbrev pub PassAt : List ℕ → List ℕ → List ℕ → ℕ → ℕ → ℕ → ℕ → Type 0
PassAt layers here there places a P t = (i : ℕ) × (i ∈ places) × (P ≡ get_or layers i 0) × (a ∈ get_or here i 0) × (t ∈ get_or there i 0)

-- a step with a label from a to t, as the graph turned round has it: its rights are the lefts, and its lefts the rights
abbrev pub Way : List ℕ → ℕ → Graph → Claims → ℕ → Label → ℕ → Type 0
Way words n b force a (letter x) t = LetterAt words n a x t
Way words n b force a (ω P) t = PassAt b.sets b.sets b.rights force.loops a P t
Way words n b force a (back P) t = PassAt b.sets b.lefts b.sets force.loops a P t
Way words n b force a (mix P) t = PassAt b.sets b.lefts b.rights force.mixes a P t

-- the state that a letter row starts from, a number below 64; of other rows 0
abbrev pub source : Row → ℕ
source (Initial s) = 0
source (Final s) = 0
source (Successor p x q) = p % 64
source (LeftLimit P q) = 0
source (RightLimit q P) = 0
source (Strike s) = 0

-- the first n words are chained by the states that they start from
pub record BySource (first next words : List ℕ) (n : ℕ) : Type 0 where
  pub few : n ≤ 256
  pub chains : Chains (λ w. source (row_from w 0)) first next words n

-- a letter row as a step
abbrev pub as_step : Row → Option Step
as_step (Initial s) = None
as_step (Final s) = None
as_step (Successor p x q) = Some (record { label = Letter x; to = q })
as_step (LeftLimit P q) = None
as_step (RightLimit q P) = None
as_step (Strike s) = None

-- the word is that of a letter row from a into the layer
abbrev pub Into : ℕ → ℕ → ℕ → Type 0
Into a layer w = (x : ℕ) × (t : ℕ) × (row_from w 0 ≡ Successor a x t) × (t ∈ layer)

-- the word is not after the best one
abbrev pub Reaches : Option ℕ → ℕ → Type 0
Reaches None word = ⊥
Reaches (Some best) word = best ≤ word

-- r is the lesser of the best word so far, if there is one, and of a word that leads from a into the layer
pub record Better (a layer : ℕ) (best : Option ℕ) (word : ℕ) (r : Option ℕ) : Type 0 where
  pub is : (r ≡ best) ⊎ ((r ≡ Some word) × Into a layer word)
  pub keeps : (w : ℕ) → Reaches best w → Reaches r w
  pub gains : Into a layer word → Reaches r word

-- of two places the higher has the greater set
abbrev pub RisingAt : List ℕ → ℕ → Type 0
RisingAt layers places = (i j : ℕ) → i ∈ places → j ∈ places → i < j → get_or layers i 0 < get_or layers j 0

-- what is chosen is one of the steps P of one kind, into the layer, and none of them comes before it; `Named` says what label a letter or a set has
abbrev pub Picked : ℕ → (ℕ → ℕ → Type 0) → (ℕ → StepLabel → Type 0) → Type 0 → Option Step → Type 0
Picked layer P Named Ordered (Some t) = (v : ℕ) × Named v t.label × P v t.to × (t.to ∈ layer)
    × (Ordered → (v' t' : ℕ) → P v' t' → t' ∈ layer → (v < v') ⊎ ((v ≡ v') × (t.to ≤ t')))
Picked layer P Named Ordered None = Ordered → (v' t' : ℕ) → P v' t' → t' ∈ layer → ⊥

-- the sets of the claims in force stand in order
abbrev pub SetsRise : Graph → Claims → Type 0
SetsRise b force = RisingAt b.sets force.loops × RisingAt b.sets force.mixes

-- what is chosen is a step into the layer, and by kind, letter or set, and target none comes before it; or there is none
abbrev pub Chooses : ℕ → (Label → ℕ → Type 0) → Type 0 → Option Step → Type 0
Chooses layer W Ordered (Some t) = W (label_of t.label) t.to × (t.to ∈ layer)
    × (Ordered → (l : Label) (u : ℕ) → W l u → u ∈ layer
    → ¬ ((kind l ∷ value l ∷ u ∷ []) ≺ (kind (label_of t.label) ∷ value (label_of t.label) ∷ t.to ∷ [])))
Chooses layer W Ordered None = Ordered → (l : Label) (u : ℕ) → W l u → u ∈ layer → ⊥

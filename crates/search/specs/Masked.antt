-- An automaton as masks, and the steps inside a set.
use Rattle.std.specs.Prelude.{ℕ, ◌≤◌, ◌<◌, ◌≡◌, ◌↔◌, List, ◌∷◌, take, get_or}
use Rattle.lists.specs.Tests.{◌among◌}
use Rattle.masks.specs.Mask.{◌∈◌}
use Rattle.rows.specs.declared.Row.{Row}
use Rattle.rows.specs.declared.Row.TheVariants.{LeftLimit, RightLimit}
use Rattle.rows.specs.Rows.{standing_sets}
use Rattle.orderings.specs.Steps.{Claim, loops, mixes, Label, letter, members, needs, content, Unstruck, Possible}
use Rattle.orderings.specs.Systems.{InForce}
use Rattle.orderings.specs.Timelines.{IsInitial, IsFinal}
use Rattle.search.specs.declared.Claims.{Claims}
use Rattle.search.specs.Graph.{Graph}

-- a row P → r that no struck state keeps from giving steps, and a row r → P
abbrev pub LeftRow : List Row → ℕ → ℕ → Type 0
LeftRow rows P r = LeftLimit P r among rows × Unstruck rows (r ∷ members P)

abbrev pub RightRow : List Row → ℕ → ℕ → Type 0
RightRow rows r P = RightLimit r P among rows × Unstruck rows (r ∷ members P)

-- the graph is that of the rows, whose sets are its first n
pub record Masked (rows : List Row) (g : Graph) (n : ℕ) : Type 0 where
  pub few : n ≤ 64
  pub sets_are : take n g.sets ≡ standing_sets rows
  pub letter_iff : (p q : ℕ) → (q ∈ get_or g.letters p 0) ↔ ((a : ℕ) × Possible rows p (letter a) q)
  pub left_iff : (i r : ℕ) → i < n → (r ∈ get_or g.lefts i 0) ↔ LeftRow rows (get_or g.sets i 0) r
  pub right_iff : (i r : ℕ) → i < n → (r ∈ get_or g.rights i 0) ↔ RightRow rows r (get_or g.sets i 0)

-- the letter steps of the graph are those of the rows, whatever else it has
abbrev pub HasLetters : List Row → Graph → Type 0
HasLetters rows g = (p q : ℕ) → (q ∈ get_or g.letters p 0) ↔ ((a : ℕ) × Possible rows p (letter a) q)

-- the mask of the initial states, and that of the final ones
abbrev pub Initials : List Row → ℕ → Type 0
Initials rows m = (s : ℕ) → (s ∈ m) ↔ IsInitial rows s

abbrev pub Finals : List Row → ℕ → Type 0
Finals rows m = (s : ℕ) → (s ∈ m) ↔ IsFinal rows s

-- the claims in force, by their places among the first n sets
pub record Forced (In : Claim → Type 0) (g : Graph) (n : ℕ) (force : Claims) : Type 0 where
  pub loop_iff : (i : ℕ) → (i ∈ force.loops) ↔ ((i < n) × In (loops (get_or g.sets i 0)))
  pub mix_iff : (i : ℕ) → (i ∈ force.mixes) ↔ ((i < n) × In (mixes (get_or g.sets i 0)))

-- a step from a to b, with the claims in force, whose content is a subset of P
abbrev pub StepInside : List Row → (Claim → Type 0) → ℕ → ℕ → ℕ → Type 0
StepInside rows In P a b = (l : Label) × Possible rows a l b × InForce In (needs l) × ((s : ℕ) → s among content a l b → s ∈ P)

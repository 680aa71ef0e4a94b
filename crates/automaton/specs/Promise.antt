-- The graph that the search reads, as the rows give it.
use Rattle.std.specs.Prelude.{ℕ, ◌+◌, ◌≤◌, ◌<◌, ◌≡◌, ◌⊎◌, ◌↔◌, ◌≢◌, List, length, take, get_or}
use Rattle.masks.specs.Mask.{◌∈◌}
use Rattle.sorted_keys.specs.declared.Key.{Key}
use Rattle.sorted_keys.specs.Keys.{Rising}
use Rattle.rows.specs.declared.Row.{Row}
use Rattle.rows.specs.Rows.{AllFit}
use Rattle.rows.specs.Rows as Rows
use Rattle.search.specs.Graph.{graph_of}
use Rattle.search.specs.Masked.{Masked, HasLetters, Initials, Finals}
use Rattle.row_table.specs.Arrays.{SetsIn, Keyed}
use Rattle.automaton.specs.declared.Automaton.{Automaton}

-- the states of m, and s if that is below 64
abbrev pub Adds : ℕ → ℕ → ℕ → Type 0
Adds m s r = (t : ℕ) → (t ∈ r) ↔ ((t ∈ m) ⊎ ((t ≡ s) × (s < 64)))

-- the same of one of 64 masks, the one at a place of the part that begins at base, if that is below 64; the other masks stay
pub record AddsAt (old : List ℕ) (base at s : ℕ) (new : List ℕ) : Type 0 where
  pub length_is : length new ≡ length old
  pub here : length old ≡ 448 → at < 64 → Adds (get_or old (base + at) 0) s (get_or new (base + at) 0)
  pub others : (j : ℕ) → (at < 64 → j ≢ base + at) → get_or new j 0 ≡ get_or old j 0

-- the first i sets stand in their part, and the other masks are empty
pub record HasSets (sets : List ℕ) (i : ℕ) (r : List ℕ) : Type 0 where
  pub length_is : length r ≡ 448
  pub sets_are : (j : ℕ) → j < i → get_or r (64 + j) 0 ≡ get_or sets j 0
  pub others : (j : ℕ) → (j < 64) ⊎ (64 + i ≤ j) → get_or r j 0 ≡ 0

-- of n sets that stand in order, x is the one at the place r and no other
abbrev pub PlaceOf : List ℕ → ℕ → ℕ → ℕ → Type 0
PlaceOf sets n x r = Rising sets n → (i : ℕ) → i < n → (i ≡ r) ↔ (get_or sets i 0 ≡ x)

-- the state s is added to the mask at the place of the set x in the part that begins at base; a place from 64 on is none
pub record AddsLimit (sets old : List ℕ) (base x s : ℕ) (new : List ℕ) : Type 0 where
  pub place : ℕ
  pub is : PlaceOf sets (length sets) x place
  pub within : (place < length sets) ⊎ (64 ≤ place)
  pub adds : AddsAt old base place s new

-- an automaton by its parts
abbrev pub automaton_of : List ℕ → ℕ → ℕ → Automaton
automaton_of graph initials finals = record { graph = graph; initials = initials; finals = finals }

-- the graph of the rows, with the first k of these sets, which are the rows'; their initial and their final states
pub record Gives (rows : List Row) (sets : List ℕ) (k : ℕ) (r : Automaton) : Type 0 where
  pub masked : Masked rows (graph_of r.graph) k
  pub sets_in : SetsIn rows sets k → SetsIn rows (graph_of r.graph).sets k
  pub initial_iff : Initials rows r.initials
  pub final_iff : Finals rows r.finals

-- of letters alone: the letter steps of the rows, their initial and their final states
pub record GivesLetters (rows : List Row) (r : Automaton) : Type 0 where
  pub letters : HasLetters rows (graph_of r.graph)
  pub initial_iff : Initials rows r.initials
  pub final_iff : Finals rows r.finals

-- the same of all rows that fit, whose keys are the first n of an array, and whose k sets are the first k of another
abbrev pub GivesKeyed : List Key → ℕ → List ℕ → ℕ → Automaton → Type 0
GivesKeyed keys n sets k r =
    (rows : List Row) → AllFit rows → Keyed rows keys n → k ≡ length (Rows.standing_sets rows) → take k sets ≡ Rows.standing_sets rows → Gives rows sets k r

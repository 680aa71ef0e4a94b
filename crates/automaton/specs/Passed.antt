-- The masks of some rows before anything is struck.
use Rattle.std.specs.Prelude.{ℕ, ◌+◌, ◌<◌, ◌≡◌, ◌↔◌, List, [], ◌∷◌, ◌++◌, length, get_or}
use Rattle.lists.specs.Tests.{◌among◌}
use Rattle.masks.specs.Mask.{◌∈◌}
use Rattle.sorted_keys.specs.Keys.{Rising}
use Rattle.rows.specs.declared.Row.{Row}
use Rattle.rows.specs.Rows.{AllFit}
use Rattle.automaton.specs.declared.Seen.{Seen}
use Rattle.automaton.specs.Promise.{GivesLetters, automaton_of}
use Rattle.rows.specs.declared.Row.TheVariants.{Initial, Final, Successor, LeftLimit, RightLimit, Strike}

-- some row of the list has P
abbrev pub Some : (Row → Type 0) → List Row → Type 0
Some P l = (x : Row) × x among l × P x

-- what puts a state into a mask
abbrev pub Starts : ℕ → Row → Type 0
Starts t x = (x ≡ Initial t) × (t < 64)

abbrev pub Ends : ℕ → Row → Type 0
Ends t x = (x ≡ Final t) × (t < 64)

abbrev pub Takes : ℕ → Row → Type 0
Takes t x = (x ≡ Strike t) × (t < 64)

abbrev pub Leads : ℕ → ℕ → Row → Type 0
Leads p q x = (a : ℕ) × (x ≡ Successor p a q) × (p < 64) × (q < 64)

abbrev pub Enters : ℕ → ℕ → Row → Type 0
Enters P t x = (x ≡ LeftLimit P t) × (t < 64)

abbrev pub Leaves : ℕ → ℕ → Row → Type 0
Leaves P t x = (x ≡ RightLimit t P) × (t < 64)

-- the masks of the initial, the final and the struck states of the rows of a list
pub record Marked (l : List Row) (initials finals struck : ℕ) : Type 0 where
  pub starts : (t : ℕ) → (t ∈ initials) ↔ Some (Starts t) l
  pub ends : (t : ℕ) → (t ∈ finals) ↔ Some (Ends t) l
  pub takes : (t : ℕ) → (t ∈ struck) ↔ Some (Takes t) l

-- and the graph, as an array of masks, is theirs, with these sets; the limits where what is assumed of the sets holds
pub record Passed (Order : Type 0) (sets : List ℕ) (n : ℕ) (l : List Row) (graph : List ℕ) (initials finals struck : ℕ) : Type 0 where
  pub size : length graph ≡ 448
  pub kept : (i : ℕ) → i < n → get_or graph (64 + i) 0 ≡ get_or sets i 0
  pub marks : Marked l initials finals struck
  pub leads : (p q : ℕ) → p < 64 → (q ∈ get_or graph p 0) ↔ Some (Leads p q) l
  pub enters : Order → (i t : ℕ) → i < n → (t ∈ get_or graph (128 + i) 0) ↔ Some (Enters (get_or sets i 0) t) l
  pub leaves : Order → (i t : ℕ) → i < n → (t ∈ get_or graph (192 + i) 0) ↔ Some (Leaves (get_or sets i 0) t) l

-- where the sets stand in order
abbrev pub SetsPassed : List ℕ → List Row → List ℕ → Seen → Type 0
SetsPassed sets l graph seen = Passed (Rising sets (length sets)) sets (length sets) l graph seen.initials seen.finals seen.struck

-- ---- letters alone: a graph without sets

abbrev pub LettersPassed : List Row → List ℕ → Seen → Type 0
LettersPassed l graph seen = Passed (Unit {0}) [] 0 l graph seen.initials seen.finals seen.struck

-- one row more
abbrev pub TakesLetter : List ℕ → Seen → Row → List ℕ → Seen → Type 0
TakesLetter old before x new r = (l : List Row) → LettersPassed l old before → LettersPassed (l ++ (x ∷ [])) new r

-- with all rows passed, what is struck goes
abbrev pub FinishesLetters : List ℕ → Seen → List ℕ → ℕ → ℕ → Type 0
FinishesLetters old seen new initials finals = (rows : List Row) → AllFit rows → LettersPassed rows old seen → GivesLetters rows (automaton_of new initials finals)

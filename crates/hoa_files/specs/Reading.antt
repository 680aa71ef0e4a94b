-- What the functions that read a file promise.
use Rattle.std.specs.Prelude.{Option, Some, None, Result, Ok, Err, ℕ, ◌*◌, ◌+◌, ◌≤◌, ◌<◌, ◌≡◌, ◌↔◌, ◌≢◌, Bool, ◌&&◌, ◌||◌, List, [], ◌∷◌, ◌++◌, length, get_or, take, drop, eqb}
use Rattle.lists.specs.Tests.{gather}
use Rattle.masks.specs.Mask.{member, ◌∈◌}
use Rattle.machine.specs.Text.{text, number_text}
use Rattle.machine.specs.Sheet.{line}
use Rattle.causes.specs.declared.Cause.{Cause}
use Rattle.causes.specs.declared.Cause.TheVariants.{BadLine}
use Rattle.causes.specs.Numbers.{number_of}
use Rattle.machine.specs.declared.Refusal.{Refusal}
use Rattle.buchi_rows.specs.declared.BuchiMasks.{BuchiMasks}
use Rattle.hoa_files.specs.declared.Numbered.{Numbered}
use Rattle.hoa_files.specs.declared.BodyLine.{BodyLine}
use Rattle.hoa_files.specs.declared.BodyLine.TheVariants.{State, Edge, End}
use Rattle.hoa_files.specs.declared.Head.{Head}
use Rattle.hoa_files.specs.Automata.{Buchi, state_line, edge_line, head_lines, end_line}
use Rattle.hoa_files.specs.Files.{IsFileOf, FileCause}
use Rattle.hoa_files.specs.Tables as Tables
use Rattle.hoa_files.specs.Tables.{IsMarked}

-- the bytes begin with the text
infix 50 ◌begin_with◌
abbrev pub ◌begin_with◌ : List ℕ → List ℕ → Type 0
l begin_with t = (more : List ℕ) × (l ≡ t ++ more)

abbrev pub IsDigit : ℕ → Type 0
IsDigit c = (48 ≤ c) × (c ≤ 57)

-- no digit comes first
abbrev pub NoDigitFirst : List ℕ → Type 0
NoDigitFirst [] = Unit {0}
NoDigitFirst (c ∷ l) = ¬ IsDigit c

-- so many digits come first, and no more
pub record RunsTo (l : List ℕ) (count : ℕ) : Type 0 where
  pub within : count ≤ length l
  pub digits : (i : ℕ) → i < count → IsDigit (get_or l i 0)
  pub stops : NoDigitFirst (drop count l)

-- how many digits the number has with which the bytes begin, if they begin with one
pub record CountsDigits (l : List ℕ) (r : Option ℕ) : Type 0 where
  pub is_number : (count : ℕ) → r ≡ Some count → (count ≤ length l) × ((x : ℕ) × (take count l ≡ number_text x))
  pub every_number : (x : ℕ) (more : List ℕ) → NoDigitFirst more → l ≡ number_text x ++ more → r ≡ Some (length (number_text x))

-- the number, or ten where it is more
abbrev pub UpToTen : ℕ → ℕ → Type 0
UpToTen x n = (x < 10 → n ≡ x) × (10 ≤ x → n ≡ 10)

-- the number that so many digits tell, the first of them given
abbrev pub TellsNumber : ℕ → ℕ → ℕ → Type 0
TellsNumber digit count n = (count ≡ 1 → n + 48 ≡ digit) × (count ≢ 1 → n ≡ 10)

-- the bytes begin with the word, the number x and the tail: how many bytes these are, and the number
pub record IsNumbered (word tail l : List ℕ) (x : ℕ) (r : Numbered) : Type 0 where
  pub stands : l begin_with (word ++ (number_text x ++ tail))
  pub length_is : r.length ≡ length (word ++ (number_text x ++ tail))
  pub number_is : UpToTen x r.number

-- the same of some number, if there is one
pub record FindsNumbered (word tail l : List ℕ) (r : Option Numbered) : Type 0 where
  pub found : (n : Numbered) → r ≡ Some n → (x : ℕ) × IsNumbered word tail l x n
  pub every : (x : ℕ) → l begin_with (word ++ (number_text x ++ tail)) → (n : Numbered) × (r ≡ Some n) × IsNumbered word tail l x n

-- the same of the line of an edge
abbrev pub FindsEdge : List ℕ → Option Numbered → Type 0
FindsEdge l r = FindsNumbered (text "[t] ") (10 ∷ []) l r

-- a line of the body that may come next, where k of n states have come
pub data NextLine (n k : ℕ) : List ℕ → Type 0 where
  a_state : (marked : Bool) → k < n → NextLine n k (state_line k marked)
  an_edge : (q : ℕ) → 0 < k → NextLine n k (edge_line q)
  the_end : k ≡ n → NextLine n k end_line

-- the bytes begin with the line, which has so many bytes
abbrev pub TakesLine : List ℕ → List ℕ → ℕ → Type 0
TakesLine l next count = (l begin_with line next) × (count ≡ length (line next))

-- 20: the bytes do not begin with a line that may come next; 21: they do, but its number is outside
pub data RefusesLine (l : List ℕ) (n k : ℕ) : ℕ → Type 0 where
  none_comes : ((next : List ℕ) → l begin_with line next → ¬ NextLine n k next) → RefusesLine l n k 20
  beyond : (q : ℕ) → 0 < k → n ≤ q → l begin_with line (edge_line q) → RefusesLine l n k 21

-- the bytes begin with the number of the state k and the tail behind the word of a state: how many bytes these are, if they do
abbrev pub FindsState : List ℕ → List ℕ → ℕ → Option ℕ → Type 0
FindsState tail l k (Some count) = (l begin_with (text "State: " ++ (number_text k ++ tail))) × (count ≡ length (text "State: " ++ (number_text k ++ tail)))
FindsState tail l k None = ¬ (l begin_with (text "State: " ++ (number_text k ++ tail)))

-- the line of the next state, k; or 20 where none stands
abbrev pub TellsState : List ℕ → ℕ → Result BodyLine Cause → Type 0
TellsState l k (Ok (State marked count)) = TakesLine l (state_line k marked) count
TellsState l k (Ok (Edge q count)) = ⊥
TellsState l k (Ok End) = ⊥
TellsState l k (Err cause) = (cause ≡ BadLine) × ((marked : Bool) → ¬ (l begin_with line (state_line k marked)))

-- the same where k of n states have come, or the end where they are all; or 20 where neither stands
abbrev pub TellsStateOrEnd : List ℕ → ℕ → ℕ → Result BodyLine Cause → Type 0
TellsStateOrEnd l n k (Ok (State marked count)) = (k < n) × TakesLine l (state_line k marked) count
TellsStateOrEnd l n k (Ok (Edge q count)) = ⊥
TellsStateOrEnd l n k (Ok End) = (k ≡ n) × TakesLine l end_line 8
TellsStateOrEnd l n k (Err cause) = (cause ≡ BadLine) × ((next : List ℕ) → l begin_with line next → NextLine n k next → (q : ℕ) × (next ≡ edge_line q))

-- the line where k of n states have come
abbrev pub TellsLine : List ℕ → ℕ → ℕ → Result BodyLine Cause → Type 0
TellsLine l n k (Ok (State marked count)) = (k < n) × TakesLine l (state_line k marked) count
TellsLine l n k (Ok (Edge q count)) = (0 < k) × (q < n) × TakesLine l (edge_line q) count
TellsLine l n k (Ok End) = (k ≡ n) × TakesLine l end_line 8
TellsLine l n k (Err cause) = RefusesLine l n k (number_of cause)

-- the place behind a text that stands at the place; or 20
abbrev pub PassesLine : List ℕ → ℕ → List ℕ → Result ℕ Refusal → Type 0
PassesLine l at t (Ok next) = (drop at l begin_with t) × (next ≡ at + length t) × (next ≤ length l)
PassesLine l at t (Err r) = (r ≡ record { cause = BadLine; place = at }) × ¬ (drop at l begin_with t)

-- the lines of the head that are the same in every file
abbrev pub fixed_lines : List (List ℕ)
fixed_lines = text "AP: 0" ∷ text "acc-name: Buchi" ∷ text "Acceptance: 1 Inf(0)" ∷ text "--BODY--" ∷ []

-- how many bytes those of them have before the first that does not stand
pub data Stopped (l : List ℕ) : ℕ → Type 0 where
  up_to : (before later : List (List ℕ)) (next : List ℕ) → fixed_lines ≡ before ++ (next ∷ later) → l begin_with gather line before
      → ¬ (l begin_with gather line (before ++ (next ∷ []))) → Stopped l (length (gather line before))

-- the place behind them; or 20 at that first one
abbrev pub TellsFixed : List ℕ → ℕ → Result ℕ Refusal → Type 0
TellsFixed l at (Ok next) = (drop at l begin_with gather line fixed_lines) × (next ≡ at + 52)
TellsFixed l at (Err r) = (k : ℕ) × Stopped (drop at l) k × (r ≡ record { cause = BadLine; place = at + k })

-- the two lines before the start's are read
pub record TakesCount (l : List ℕ) (n count : ℕ) : Type 0 where
  pub some_states : 1 ≤ n
  pub at_most_six : n ≤ 6
  pub stands : l begin_with gather line (text "HOA: v1" ∷ (text "States: " ++ number_text n) ∷ [])
  pub length_is : count ≡ length (gather line (text "HOA: v1" ∷ (text "States: " ++ number_text n) ∷ []))

-- the lines of the head are read, or the first line of the file with a cause is one of them
pub record TakesHead (l : List ℕ) (n s count : ℕ) : Type 0 where
  pub some_states : 1 ≤ n
  pub at_most_six : n ≤ 6
  pub start_inside : s < n
  pub stands : l begin_with gather line (head_lines n s)
  pub length_is : count ≡ length (gather line (head_lines n s))

abbrev pub TellsHead : List ℕ → Result Head Refusal → Type 0
TellsHead l (Ok h) = TakesHead l h.states h.start h.length
TellsHead l (Err r) = FileCause l (number_of r.cause) r.place

-- the place of an edge among the 36 that there can be
abbrev pub edge_place : ℕ → ℕ → ℕ
edge_place p q = 6 * p + q

-- the numbers and masks hold the automaton
pub record InMasks (h : Buchi) (a : BuchiMasks) : Type 0 where
  pub states_are : a.states ≡ length h.states
  pub start_is : a.start ≡ h.start
  pub marked_are : (m : ℕ) → (m ∈ a.marked) ↔ IsMarked h m
  pub edges_are : (p q : ℕ) → p < 6 → q < 6 → (edge_place p q ∈ a.edges) ↔ Tables.Edge h p q

-- one more state, if it is marked
abbrev pub MarksOne : ℕ → ℕ → Bool → ℕ → Type 0
MarksOne old state marked new = (t : ℕ) → member t new ≡ (member t old || (marked && eqb t state))

-- the automaton is told where nothing is left from the place on, else 20
abbrev pub FinishesFile : List ℕ → ℕ → BuchiMasks → Result BuchiMasks Refusal → Type 0
FinishesFile l at a r = (at < length l → r ≡ Err (record { cause = BadLine; place = at })) × (length l ≤ at → r ≡ Ok a)

-- the whole file is read, or what refuses it is found
abbrev pub TellsFile : List ℕ → Result BuchiMasks Refusal → Type 0
TellsFile l (Ok a) = (h : Buchi) × IsFileOf l h × InMasks h a
TellsFile l (Err r) = FileCause l (number_of r.cause) r.place

-- Request C-21: the Büchi automata of a form, and the lines of their files.
use Rattle.std.specs.Prelude.{ℕ, suc, ◌≤◌, ◌<◌, Bool, true, false, List, [], ◌∷◌, ◌++◌, map, length}
use Rattle.lists.specs.Tests.{◌among◌, gather}
use Rattle.machine.specs.Text.{text, number_text}
use Rattle.machine.specs.Sheet.{line}

-- a state, marked or not, with the targets of its edges as its lines name them
pub record BuchiState : Type 0 where
  pub marked : Bool
  pub edges : List ℕ

-- the start, and the states 0, 1 and so on, rising
pub record Buchi : Type 0 where
  pub start : ℕ
  pub states : List BuchiState

-- `State: p` or, marked, `State: p {0}`
abbrev pub state_line : ℕ → Bool → List ℕ
state_line p false = text "State: " ++ number_text p
state_line p true = text "State: " ++ (number_text p ++ text " {0}")

-- `[t] q`
abbrev pub edge_line : ℕ → List ℕ
edge_line q = text "[t] " ++ number_text q

-- up to the body, of n states with the start s
abbrev pub head_lines : ℕ → ℕ → List (List ℕ)
head_lines n s =
    text "HOA: v1"
    ∷ (text "States: " ++ number_text n)
    ∷ (text "Start: " ++ number_text s)
    ∷ text "AP: 0"
    ∷ text "acc-name: Buchi"
    ∷ text "Acceptance: 1 Inf(0)"
    ∷ text "--BODY--"
    ∷ []

-- for each state rising, p the first, its line and its edges
abbrev pub body_lines : ℕ → List BuchiState → List (List ℕ)
body_lines p [] = []
body_lines p (s ∷ l) = state_line p s.marked ∷ (map edge_line s.edges ++ body_lines (suc p) l)

abbrev pub end_line : List ℕ
end_line = text "--END--"

-- the lines in order
abbrev pub lines : Buchi → List (List ℕ)
lines h = head_lines (length h.states) h.start ++ (body_lines 0 h.states ++ (end_line ∷ []))

-- every line ends with byte 10
unfoldable pub file_text : Buchi → List ℕ
file_text h = gather line (lines h)

-- one to six states, and no number outside them
pub record Readable (h : Buchi) : Type 0 where
  pub some_states : 1 ≤ length h.states
  pub at_most_six : length h.states ≤ 6
  pub start_inside : h.start < length h.states
  pub edges_inside : (s : BuchiState) (q : ℕ) → s among h.states → q among s.edges → q < length h.states

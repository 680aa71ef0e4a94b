-- Request C-21: the rows of an automaton.
use Rattle.std.specs.Prelude.{ℕ, ◌^◌, ◌<◌, ◌≡◌, ◌↔◌, true, List, ◌∷◌, ◌++◌, length}
use Rattle.lists.specs.Tests.{◌among◌, Once}
use Rattle.lists.specs.Order.{Sorted}
use Rattle.masks.specs.Mask.{◌∈◌}
use Rattle.rows.specs.declared.Row.{Row}
use Rattle.rows.specs.declared.Row.TheVariants.{Initial, Final, Successor, LeftLimit}
use Rattle.rows.specs.Rows.{row_bytes}
use Rattle.hoa_files.specs.Automata.{BuchiState, Buchi}

-- s is the state p: p states stand before it
abbrev pub IsState : Buchi → ℕ → BuchiState → Type 0
IsState h p s = (earlier : List BuchiState) × ((later : List BuchiState) × (h.states ≡ earlier ++ (s ∷ later)) × (p ≡ length earlier))

-- an edge leads from p to q
abbrev pub Edge : Buchi → ℕ → ℕ → Type 0
Edge h p q = (s : BuchiState) × IsState h p s × q among s.edges

-- the state p is marked
abbrev pub IsMarked : Buchi → ℕ → Type 0
IsMarked h p = (s : BuchiState) × IsState h p s × (s.marked ≡ true)

-- a set of states is a number below 2 to the power of their count
abbrev pub SetOfStates : Buchi → ℕ → Type 0
SetOfStates h P = P < 2 ^ length h.states

pub data RowOf (h : Buchi) : Row → Type 0 where
  -- the start is initial, state 6 final in every case
  the_start : RowOf h (Initial h.start)
  the_final : RowOf h (Final 6)
  -- every edge is a kind 3 row with letter 0
  an_edge : (p q : ℕ) → Edge h p q → RowOf h (Successor p 0 q)
  -- every non-empty set of states that holds a marked one gives a left-limit row to state 6
  a_limit : (P m : ℕ) → SetOfStates h P → m ∈ P → IsMarked h m → RowOf h (LeftLimit P 6)

-- the rows, each once, sorted
pub record RowsOf (h : Buchi) (rows : List Row) : Type 0 where
  pub exactly : (r : Row) → (r among rows) ↔ RowOf h r
  pub once : Once rows
  pub sorted : Sorted row_bytes rows

-- The machines that calls make.
use Rattle.std.specs.Prelude.{ℕ, zero, suc, ◌≤◌, ◌<◌, ◌≡◌, List, length}
use Rattle.lists.specs.Tests.{Once}
use Rattle.lists.specs.Order.{Sorted}
use Rattle.rows.specs.declared.Row.{Row}
use Rattle.rows.specs.Rows.{row_bytes, AllFit, standing_sets}
use Rattle.machine.specs.declared.Phase.{Phase}
use Rattle.machine.specs.declared.Phase.TheVariants.{Open, Running, Settled}
use Rattle.machine.specs.Machine.{most_rows, most_sets, most_rounds, Machine, open_with, closed, next_round}

-- at most 256 rows stand, and at most 64 different sets; as a list they are sorted, none twice
pub record Table (rows : List Row) : Type 0 where
  pub sorted : Sorted row_bytes rows
  pub once : Once rows
  pub fit : AllFit rows
  pub few : length rows ≤ most_rows
  pub few_sets : length (standing_sets rows) ≤ most_sets

-- closed, and k rounds done
abbrev pub after : List Row → ℕ → Machine
after rows zero = closed (open_with rows)
after rows (suc k) = next_round (after rows k)

-- the machine is its rows after some rounds, before each of which it was running
abbrev pub Worked : Machine → Type 0
Worked m = (k : ℕ) × (m ≡ after m.rows k) × ((j : ℕ) → j < k → (after m.rows j).phase ≡ Running)

-- nothing but the rows, in an open machine
abbrev pub Made : Machine → Phase → Type 0
Made m Open = m ≡ open_with m.rows
Made m Running = Worked m
Made m (Settled v) = Worked m

-- the most rounds that calls lead to, by the phase: the 129th settles
abbrev pub most_done : Phase → ℕ
most_done Open = 0
most_done Running = 128
most_done (Settled v) = most_rounds

pub record WellFormed (m : Machine) : Type 0 where
  pub table : Table m.rows
  pub made : Made m m.phase

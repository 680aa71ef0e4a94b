-- Request C-15, "More rows, never less", of two tables of standing rows; request C-18: the added rows are of kinds 1 to 5.
use Rattle.std.specs.Prelude.{ℕ, ◌≡◌, List}
use Rattle.lists.specs.Tests.{◌part_of◌}
use Rattle.rows.specs.declared.Row.{Row}
use Rattle.rows.specs.Rows.{batch_of, AllFit}
use Rattle.orderings.specs.Steps.{Claim, Struck}
use Rattle.orderings.specs.Systems.{HoldsAt}
use Rattle.orderings.specs.Timelines.{timelines}

-- the second contains the first, and strikes no state that the first does not
abbrev pub Grows : List Row → List Row → Type 0
Grows rows rows' = rows part_of rows' × ((s : ℕ) → Struck rows' s → Struck rows s)

-- the rows of a batch are of kinds 1 to 5
abbrev pub StrikesNothing : List ℕ → Type 0
StrikesNothing l = (rows : List Row) → AllFit rows → l ≡ batch_of rows → (s : ℕ) → ¬ Struck rows s

-- the claims that hold at a depth hold there too
abbrev pub KeepsDepths : List Row → List Row → Type 0
KeepsDepths rows rows' = (c : Claim) (k : ℕ) → HoldsAt (timelines rows) c k → HoldsAt (timelines rows') c k

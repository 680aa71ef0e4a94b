-- The rows of an automaton as its masks have them, in the order in which they are written.
use Rattle.std.specs.Prelude.{ℕ, ◌/◌, ◌%◌, ◌^◌, ◌-◌, Bool, ◌&&◌, List, ◌∷◌, ◌++◌, map}
use Rattle.lists.specs.Tests.{any, keep, range}
use Rattle.masks.specs.Mask.{member}
use Rattle.rows.specs.declared.Row.{Row}
use Rattle.rows.specs.declared.Row.TheVariants.{Initial, Final, Successor, LeftLimit}

-- the row of the edge at a place
abbrev pub edge_row : ℕ → Row
edge_row k = Successor (k / 6) 0 (k % 6)

unfoldable pub edge_rows : ℕ → List Row
edge_rows edges = map edge_row (keep (λ k. member k edges) (range 0 36))

-- the two sets have a state in common
unfoldable pub meet? : ℕ → ℕ → Bool
meet? P Q = any (λ s. member s P && member s Q) (range 0 64)

-- the row of a set
abbrev pub limit_row : ℕ → Row
limit_row P = LeftLimit P 6

-- the sets of n states that hold a marked one
unfoldable pub limit_rows : ℕ → ℕ → List Row
limit_rows n marked = map limit_row (keep (λ P. meet? P marked) (range 1 (2 ^ n - 1)))

unfoldable pub masked_rows : ℕ → ℕ → ℕ → ℕ → List Row
masked_rows n start marked edges = Initial start ∷ Final 6 ∷ (edge_rows edges ++ limit_rows n marked)

-- The rounds in which the claims of a machine opened, in arrays.
use Rattle.std.specs.Prelude.{ℕ, ◌<◌, ◌≡◌, cond, ◌↔◌, List, map, length, get_or}
use Rattle.masks.specs.Mask.{member, ◌∈◌}
use Rattle.rows.specs.Rows.{standing_sets}
use Rattle.orderings.specs.Steps.{Claim}
use Rattle.machine.specs.Machine.{Machine}
use Rattle.machine.specs.Expression.{round_of}
use Rattle.row_table.specs.Arrays.{padded}

-- the rounds of the claims about the sets
abbrev pub rounds_of : Machine → (ℕ → Claim) → List ℕ
rounds_of m claim = padded 64 0 (map (λ P. round_of m.openings (claim P)) (standing_sets m.rows))

-- the places below n whose round is not 0
abbrev pub OpenPlaces : List ℕ → ℕ → ℕ → Type 0
OpenPlaces rounds n r = (i : ℕ) → (i ∈ r) ↔ ((i < n) × (0 < get_or rounds i 0))

-- round k at the places that opened, and elsewhere the round that was there
pub record Notes (old : List ℕ) (opened k : ℕ) (new : List ℕ) : Type 0 where
  pub length_is : length new ≡ length old
  pub rounds_are : length old ≡ 64 → (i : ℕ) → i < 64 → get_or new i 0 ≡ cond (member i opened) k (get_or old i 0)

-- A loop over a set passes its states, the lowest first.
use Rattle.std.specs.Prelude.{ℕ, ◌≡◌, Option, None, Some}
use Rattle.masks.specs.declared.Members.{Members}
use Rattle.masks.specs.Mask.{TakesLowest}

-- what a step of the loop gives, and what is left after it
abbrev pub GivesLowest : Members → Option ℕ → Members → Type 0
GivesLowest before None after = (before.rest ≡ 0) × (after.rest ≡ 0)
GivesLowest before (Some s) after = TakesLowest before.rest s after.rest

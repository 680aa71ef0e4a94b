-- A loop over a chain passes its places, the newest first.
use Rattle.std.specs.Prelude.{ℕ, suc, ◌≡◌, Option, None, Some, get_or}
use Rattle.chains.specs.declared.Links.{Links}

-- what a step of the loop gives, and what is left after it
abbrev pub GivesPlace : Links → Option ℕ → Links → Type 0
GivesPlace before None after = (before.link ≡ 0) × (after.link ≡ 0) × (after.next.now ≡ before.next.now)
GivesPlace before (Some at) after = (before.link ≡ suc at) × (after.link ≡ get_or before.next.now at 0) × (after.next.now ≡ before.next.now)

-- Sets of states as numbers. Document 01, "Rows and the batch": bit s (value 2 to the power s) means state s is in it; a state is 0 to 63.
use Rattle.std.specs.Prelude.{ℕ, ◌/◌, ◌%◌, ◌^◌, ◌≤◌, ◌<◌, Bool, true, ◌&&◌, ◌≡◌, ◌↔◌, ◌≢◌, eqb, ltb}
use Rattle.std.specs.Int.Count.{ones}

unfoldable pub member : ℕ → ℕ → Bool
member s m = ltb s 64 && eqb (m / 2 ^ s % 2) 1

-- state s is in the set m
infix 50 ◌∈◌
abbrev pub ◌∈◌ : ℕ → ℕ → Type 0
s ∈ m = member s m ≡ true

-- every state of a is one of b
infix 50 ◌⊆◌
abbrev pub ◌⊆◌ : ℕ → ℕ → Type 0
a ⊆ b = (s : ℕ) → s ∈ a → s ∈ b

-- low is the lowest state of m, and rest are the others
pub record TakesLowest (m low rest : ℕ) : Type 0 where
  pub is : low ∈ m
  pub small : low < 64
  pub least : (t : ℕ) → t ∈ m → low ≤ t
  pub others : (t : ℕ) → (t ∈ rest) ↔ ((t ∈ m) × (t ≢ low))
  pub fewer : ones rest < ones m

-- Places of an array in chains: a link is one more than a place, 0 for none.
use Rattle.std.specs.Prelude.{ℕ, suc, ◌≤◌, ◌<◌, ◌≡◌, ◌≢◌, List, Option, None, Some, get_or}

-- the place i stands in the chain that begins at a link
pub data Chained (next : List ℕ) : ℕ → ℕ → Type 0 where
  here : {i : ℕ} → Chained next (suc i) i
  on : {i j : ℕ} → Chained next (get_or next j 0) i → Chained next (suc j) i

-- of the first n places each has a link to a place before it, or none
abbrev pub Falls : List ℕ → ℕ → Type 0
Falls next n = (i : ℕ) → i < n → get_or next i 0 ≤ i

-- a place with the word x, or none where no place of the chain has it
abbrev pub Sought : List ℕ → List ℕ → ℕ → ℕ → Option ℕ → Type 0
Sought words next first x (Some i) = (i < first) × (get_or words i 0 ≡ x)
Sought words next first x None = (i : ℕ) → Chained next first i → get_or words i 0 ≢ x

-- each of the first n places stands in the chain of its word's number; the heads are links to these places, or none
pub record Chains (key : ℕ → ℕ) (heads next words : List ℕ) (n : ℕ) : Type 0 where
  pub falls : Falls next n
  pub heads_few : (h : ℕ) → get_or heads h 0 ≤ n
  pub stands : (i : ℕ) → i < n → Chained next (get_or heads (key (get_or words i 0)) 0) i

-- Graphs on the 64 states. A graph is 64 masks: `succ` has at i the set of the targets of state i.
use Rattle.std.specs.Prelude.{ℕ, ◌<◌, ◌&&◌, ◌||◌, eqb, List, ◌≡◌, get_or, length}
use Rattle.masks.specs.Mask.{member, ◌∈◌}

-- t is a target of a state of m
pub record Target (succ : List ℕ) (m t : ℕ) : Type 0 where
  pub source : ℕ
  pub is : source ∈ m
  pub edge : t ∈ get_or succ source 0

-- r is the set of the targets of the states of m
pub record Targets (succ : List ℕ) (m r : ℕ) : Type 0 where
  pub sound : (t : ℕ) → t ∈ r → Target succ m t
  pub complete : (t : ℕ) → Target succ m t → t ∈ r

-- i is added to each mask at a place of m; the other masks stay
pub record SourceAdded (old : List ℕ) (m i : ℕ) (new : List ℕ) : Type 0 where
  pub length_is : length new ≡ length old
  pub masks_are : length old ≡ 64 → (j a : ℕ) → j < 64 → member a (get_or new j 0) ≡ (member a (get_or old j 0) || (member j m && eqb a i))

-- back is the graph succ with every edge turned round
abbrev pub Turned : List ℕ → List ℕ → Type 0
Turned succ back = (i j : ℕ) → i < 64 → j < 64 → member i (get_or back j 0) ≡ member j (get_or succ i 0)

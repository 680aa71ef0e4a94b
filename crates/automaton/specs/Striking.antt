-- Request C-18: what struck states take out of the masks of a graph.
use Rattle.std.specs.Prelude.{ℕ, ◌+◌, ◌≤◌, ◌<◌, ◌≡◌, Bool, true, ◌⊎◌, ◌↔◌, List, length, get_or}
use Rattle.masks.specs.Mask.{member, ◌∈◌}
use Rattle.search.specs.Graph.{Indexes}

-- the states of m that are not struck, none if the mask goes
abbrev pub Remains : ℕ → Bool → ℕ → ℕ → Type 0
Remains m goes struck r = (t : ℕ) → (t ∈ r) ↔ ((t ∈ m) × ¬ (goes ≡ true) × ¬ (t ∈ struck))

-- the places of the first n sets of a graph that have a struck state
abbrev pub StruckSets : List ℕ → ℕ → ℕ → ℕ → Type 0
StruckSets graph n struck r = (i : ℕ) → (i ∈ r) ↔ ((i < n) × ((s : ℕ) × (s ∈ get_or graph (64 + i) 0) × (s ∈ struck)))

-- struck states are left out of the first n masks from base on, and all states of those at the places gone; the other masks stay
pub record LeavesOut (old : List ℕ) (base n gone struck : ℕ) (new : List ℕ) : Type 0 where
  pub length_is : length new ≡ length old
  pub here : length old ≡ 448 → (i : ℕ) → i < n → Remains (get_or old (base + i) 0) (member i gone) struck (get_or new (base + i) 0)
  pub others : (j : ℕ) → (j < base) ⊎ (base + n ≤ j) → get_or new j 0 ≡ get_or old j 0

-- letter steps at struck states go, limits at them, and all limits of the first n sets that have one
pub record Strikes (n struck : ℕ) (old new : List ℕ) : Type 0 where
  pub gone : ℕ
  pub is_gone : StruckSets old n struck gone
  pub length_is : length new ≡ length old
  pub letters : length old ≡ 448 → (p : ℕ) → p < 64 → Remains (get_or old p 0) (member p struck) struck (get_or new p 0)
  pub lefts : length old ≡ 448 → (i : ℕ) → i < n → Remains (get_or old (128 + i) 0) (member i gone) struck (get_or new (128 + i) 0)
  pub rights : length old ≡ 448 → (i : ℕ) → i < n → Remains (get_or old (192 + i) 0) (member i gone) struck (get_or new (192 + i) 0)
  pub others : (j : ℕ) → ((64 ≤ j) × (j < 128)) ⊎ (((128 + n ≤ j) × (j < 192)) ⊎ (192 + n ≤ j)) → get_or new j 0 ≡ get_or old j 0

-- what is struck goes, and then the graph has its other parts
pub record Finishes (n struck : ℕ) (old new : List ℕ) : Type 0 where
  pub left : List ℕ
  pub strikes : Strikes n struck old left
  pub indexes : Indexes n left new

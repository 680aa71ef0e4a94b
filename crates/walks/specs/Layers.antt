-- States by their distance from some ends, counted in steps, and where a walk of one or more steps to them starts.
use Rattle.std.specs.Prelude.{ℕ, suc, ◌-◌, ◌≤◌, ◌<◌, ◌≡◌, ◌⊎◌, List, get_or, Option, None, Some}
use Rattle.masks.specs.Mask.{◌∈◌, ◌⊆◌}
use Rattle.search.specs.declared.Claims.{Claims}
use Rattle.search.specs.Graph.{Graph}
use Rattle.search.specs.Hops.{Hop}
use Rattle.walks.specs.declared.found.Leg.{Leg}

-- a step inside p from s to t, as the graph turned round has it
abbrev pub Ahead : Graph → Claims → ℕ → ℕ → ℕ → Type 0
Ahead back force p s t = Hop back force p t s

-- the layers 0 to k are those of the states from which as many steps, and no fewer, lead to an end
pub record Layered (E : ℕ → ℕ → Type 0) (ends : ℕ) (layers : List ℕ) (k : ℕ) : Type 0 where
  pub base : get_or layers 0 0 ≡ ends
  -- a step leads to the layer before
  pub sound : (j s : ℕ) → j < k → s ∈ get_or layers (suc j) 0 → (t : ℕ) × E s t × (t ∈ get_or layers j 0)
  -- no step leads further down
  pub closed : (j s t : ℕ) → j < k → E s t → t ∈ get_or layers j 0 → (i : ℕ) × (i ≤ suc j) × (s ∈ get_or layers i 0)
  -- no state is in two layers
  pub apart : (i j s : ℕ) → i ≤ k → j ≤ k → s ∈ get_or layers i 0 → s ∈ get_or layers j 0 → i ≡ j

-- no step leads from one of the starts to a layer before k
abbrev pub Unmet : (ℕ → ℕ → Type 0) → ℕ → List ℕ → ℕ → Type 0
Unmet E starts layers k = (j s t : ℕ) → j < k → s ∈ starts → E s t → t ∈ get_or layers j 0 → ⊥

-- the layers up to the first to which a step leads from one of the starts; `start` is the lowest of those from which one does
pub record LaidFrom (E : ℕ → ℕ → Type 0) (starts ends : ℕ) (layers : List ℕ) (start steps : ℕ) : Type 0 where
  pub some : 1 ≤ steps
  pub few : steps ≤ 64
  -- there are 64 states, and where the start is no end it is in no layer
  pub fewer : (start ∈ ends) ⊎ (steps < 64)
  pub is : Layered E ends layers (steps - 1)
  pub begins : start ∈ starts
  pub into : (t : ℕ) × E start t × (t ∈ get_or layers (steps - 1) 0)
  pub unmet : Unmet E starts layers (steps - 1)
  pub lowest : (s t : ℕ) → s ∈ starts → E s t → t ∈ get_or layers (steps - 1) 0 → start ≤ s

-- or a set with the ends that no step enters, and no step from one of the starts
abbrev pub Lays : (ℕ → ℕ → Type 0) → ℕ → ℕ → List ℕ → Option Leg → Type 0
Lays E starts ends layers (Some leg) = LaidFrom E starts ends layers leg.start leg.steps
Lays E starts ends layers None = (seen : ℕ) × (ends ⊆ seen) × ((s t : ℕ) → E s t → t ∈ seen → s ∈ seen) × ((s t : ℕ) → s ∈ starts → E s t → t ∈ seen → ⊥)

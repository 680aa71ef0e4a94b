-- Legs as the layers have them, whatever arrays the steps E are read from.
use Rattle.std.specs.Prelude.{ℕ, ◌≤◌, ◌<◌, ◌≡◌, ◌⊎◌, List, length, get_or, None}
use Rattle.masks.specs.Mask.{◌∈◌}
use Rattle.walks.specs.Layers.{LaidFrom, Lays}
use Rattle.walks.specs.declared.found.Leg.{Leg}

-- the layers before a place stay, and so does their count
pub record KeptBelow (at : ℕ) (old new : List ℕ) : Type 0 where
  pub length_is : length new ≡ length old
  pub stay : (i : ℕ) → i < at → get_or new i 0 ≡ get_or old i 0

-- one or more steps lead from one of the starts to one of the ends; or none do, and the leg is that of no steps at s
abbrev pub OneOrMore : (ℕ → ℕ → Type 0) → ℕ → ℕ → ℕ → List ℕ → Leg → Type 0
OneOrMore E starts ends s layers r = LaidFrom E starts ends layers r.start r.steps
    ⊎ ((r.start ≡ s) × (r.steps ≡ 0) × Lays E starts ends layers None)

-- no steps at the lowest state that is a start and an end; without such a state one or more
abbrev pub ZeroOrMore : (ℕ → ℕ → Type 0) → ℕ → ℕ → List ℕ → Leg → Type 0
ZeroOrMore E starts ends layers r = ((r.steps ≡ 0) × (r.start ∈ starts) × (r.start ∈ ends) × ((t : ℕ) → t ∈ starts → t ∈ ends → r.start ≤ t))
    ⊎ (((t : ℕ) → t ∈ starts → t ∈ ends → ⊥) × OneOrMore E starts ends 0 layers r)

-- a leg of one or more steps comes before another: that has none, or more, or as many and a higher start
abbrev pub ComesFirst : Leg → Leg → Type 0
ComesFirst a b = (1 ≤ a.steps) × ((b.steps ≡ 0) ⊎ ((a.steps < b.steps) ⊎ ((a.steps ≡ b.steps) × (a.start < b.start))))

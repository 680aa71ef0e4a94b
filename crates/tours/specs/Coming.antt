-- The leg of a state, and the legs of the states to come.
use Rattle.std.specs.Prelude.{ℕ, ◌≤◌, ◌≡◌, List, ◌∷◌, ◌++◌, map, Option}
use Rattle.masks.specs.Mask.{◌∈◌, ◌⊆◌}
use Rattle.orderings.specs.Steps.{members, Walk}
use Rattle.machine.specs.Machine.{Machine, open_claims}
use Rattle.machine.specs.Search.{shortest}
use Rattle.machine.specs.Expression.{walk_in}
use Rattle.search.specs.Graph.{Graph}
use Rattle.walks.specs.Choices.{Way, SetsRise}
use Rattle.walks.specs.Walks.{Descends}
use Rattle.tours.specs.declared.frames.Shape.{Shape}
use Rattle.tours.specs.declared.frames.Shape.TheVariants.{Whole, Tour, Pieces}
use Rattle.tours.specs.declared.frames.Frame.{Frame}
use Rattle.tours.specs.declared.frames.Cursor.{Cursor}
use Rattle.walks.specs.declared.found.Leg.{Leg}
use Rattle.tours.specs.Frames.{neighbour, piece_of, hops}
use Rattle.tours.specs.Parts.{parts_of, separator}
use Rattle.tours.specs.Cursors.{OfEach, Stands}

-- the walk of the sheet, whatever the state; of a tour, from a to s; of pieces, the one for s
abbrev pub leg_of : Machine → Shape → ℕ → ℕ → ℕ → Walk
leg_of m Whole P a s = walk_in (shortest m.rows (open_claims m))
leg_of m (Tour q) P a s = neighbour P a s m
leg_of m Pieces P a s = piece_of P s m

-- a tour is between states of the set, and a piece is for one
abbrev pub LegWithin : Shape → ℕ → ℕ → ℕ → Type 0
LegWithin Whole P a s = Unit {0}
LegWithin (Tour q) P a s = (a ∈ P) × (s ∈ P)
LegWithin Pieces P a s = s ∈ P

-- down the layers the leg is that of s
abbrev pub LaysLegOf : Graph → Frame → ℕ → ℕ → List ℕ → Leg → Type 0
LaysLegOf back f a s layers r = OfEach back f (λ m words n. LegWithin f.shape f.set a s
    → Descends (Way words n back f.force) (SetsRise back f.force) layers r.start r.steps (leg_of m f.shape f.set a s))

-- the legs of states, one after another, from a on
abbrev pub legs_from : Machine → Shape → ℕ → ℕ → List ℕ → List Walk
legs_from m Whole P a l = map (λ s. walk_in (shortest m.rows (open_claims m))) l
legs_from m (Tour q) P a l = hops (λ a b. neighbour P a b m) (a ∷ l)
legs_from m Pieces P a l = map (λ s. piece_of P s m) l

-- the states are of the set; the whole walk is one leg
abbrev pub Coming : Shape → ℕ → ℕ → ℕ → ℕ → Type 0
Coming Whole P a rest later = (rest ≤ 1) × (later ≡ 0)
Coming (Tour q) P a rest later = (a ∈ P) × (rest ⊆ P) × (later ⊆ P)
Coming Pieces P a rest later = (rest ⊆ P) × (later ⊆ P)

-- at the first part of the legs of the states of rest, and then of later
abbrev pub Comes : Graph → Frame → Option ℕ → ℕ → ℕ → ℕ → List ℕ → Option Cursor → Type 0
Comes back f c a rest later layers r = OfEach back f (λ m words n. Coming f.shape f.set a rest later
    → Stands m words n back f layers r (parts_of c (separator f.shape) (legs_from m f.shape f.set a (members rest ++ members later))))

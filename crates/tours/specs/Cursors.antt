-- Where a cursor stands: at a part of what a frame is about.
use Rattle.std.specs.Prelude.{ℕ, ◌+◌, ◌*◌, ◌≡◌, List, [], ◌∷◌, ◌++◌, map, None, Some}
use Rattle.std.specs.Prelude as Std
use Rattle.std.proofs.Math.Option.{Option, none, some}
use Rattle.masks.specs.Mask.{◌∈◌, ◌⊆◌}
use Rattle.orderings.specs.Steps.{Step, members, Walk}
use Rattle.machine.specs.Machine.{Machine}
use Rattle.search.specs.Graph.{Graph}
use Rattle.machine.specs.declared.Step as Code
use Rattle.machine.specs.Labels.{step_from}
use Rattle.walks.specs.Choices.{Way, SetsRise}
use Rattle.walks.specs.Walks.{Descends}
use Rattle.tours.specs.declared.frames.Shape.{Shape}
use Rattle.tours.specs.declared.frames.Shape.TheVariants.{Whole, Tour, Pieces}
use Rattle.tours.specs.declared.frames.Frame.{Frame}
use Rattle.tours.specs.declared.frames.Cursor.{Cursor}
use Rattle.tours.specs.Frames.{Held, FramedBy, neighbour, piece_of, hops}
use Rattle.tours.specs.Parts.{Part, leg_parts, parts_of, separator, parts}

-- how many parts may be left
abbrev pub size_of : Std.Option Cursor → ℕ
size_of None = 0
size_of (Some c) = (c.rest + c.later) * 130 + c.steps + 1

-- the states whose legs are to come are of the set, and a leg of a tour ends in one; the whole walk is one leg
abbrev pub Within : Shape → ℕ → Cursor → Type 0
Within Whole P c = (c.rest ≡ 0) × (c.later ≡ 0)
Within (Tour q) P c = (c.stop ∈ P) × (c.rest ⊆ P) × (c.later ⊆ P)
Within Pieces P c = (c.rest ⊆ P) × (c.later ⊆ P)

-- the legs to come
abbrev pub legs_left : Machine → Shape → ℕ → Cursor → List Walk
legs_left m Whole P c = []
legs_left m (Tour q) P c = hops (λ a b. neighbour P a b m) (c.stop ∷ (members c.rest ++ members c.later))
legs_left m Pieces P c = map (λ s. piece_of P s m) (members c.rest ++ members c.later)

-- the cursor is at the first of the parts l: the rest of a leg, down the layers, and the legs to come
pub record StandsAt (m : Machine) (words : List ℕ) (n : ℕ) (back : Graph) (f : Frame) (layers : List ℕ) (c : Cursor) (l : List Part) : Type 0 where
  pub within : Within f.shape f.set c
  pub walk : (w : Walk) × Descends (Way words n back f.force) (SetsRise back f.force) layers c.state c.steps w
      × (l ≡ leg_parts c.before w ++ parts_of (Some (separator f.shape)) (separator f.shape) (legs_left m f.shape f.set c))

-- or no part is left
abbrev pub Stands : Machine → List ℕ → ℕ → Graph → Frame → List ℕ → Std.Option Cursor → List Part → Type 0
Stands m words n back f layers None l = l ≡ []
Stands m words n back f layers (Some c) l = StandsAt m words n back f layers c l

-- of every machine that the arrays hold and that the frame is about
abbrev pub OfEach : Graph → Frame → (Machine → List ℕ → ℕ → Type 0) → Type 0
OfEach back f T = (m : Machine) (g : Graph) (words : List ℕ) (n k : ℕ) → Held m g words n back k → FramedBy m g k f → T m words n

-- at the first part
abbrev pub Begins : Graph → Frame → List ℕ → Std.Option Cursor → Type 0
Begins back f layers r = OfEach back f (λ m words n. Stands m words n back f layers r (parts m f))

-- the part leads to a state, if it has a step
abbrev pub LeadsTo : ℕ → Option Step → Type 0
LeadsTo to none = Unit {0}
LeadsTo to (some t) = t.to ≡ to

-- from a part that leads to a state, to the next
abbrev pub Advances : Graph → Frame → List ℕ → Cursor → ℕ → List ℕ → Std.Option Cursor → Type 0
Advances back f before c to after r = OfEach back f (λ m words n. (p : Part) (l : List Part) → StandsAt m words n back f before c (p ∷ l)
    → LeadsTo to p.step → Stands m words n back f after r l)

-- the choice is the step of a part at a state
abbrev pub Chosen : ℕ → Option Step → Std.Option Code.Step → Type 0
Chosen a none None = Unit {0}
Chosen a none (Some t) = ⊥
Chosen a (some s) None = ⊥
Chosen a (some s) (Some t) = s ≡ step_from a t

-- the part at the cursor: what stands before it, and its step
abbrev pub ShowsPart : List ℕ → ℕ → Graph → Frame → List ℕ → Cursor → Std.Option Code.Step → Type 0
ShowsPart words n back f layers c r = (m : Machine) (g : Graph) (k : ℕ) → Held m g words n back k → FramedBy m g k f
    → (p : Part) (l : List Part) → StandsAt m words n back f layers c (p ∷ l) → (p.before ≡ c.before) × Chosen c.state p.step r

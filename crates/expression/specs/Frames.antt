-- The frames of the walk and of claims, and the rounds that opened the claims, in one array.
use Rattle.std.specs.Prelude.{ℕ, ◌+◌, ◌<◌, ◌≡◌, ◌⊎◌, ◌↔◌, List, ◌++◌, get_or, Option, None, Some}
use Rattle.std.specs.Option.{IsSomeAnd}
use Rattle.std.proofs.Math.Option as Math
use Rattle.lists.specs.Tests.{◌among◌}
use Rattle.masks.specs.Mask.{◌∈◌}
use Rattle.orderings.specs.Steps.{loops, mixes, Label, letter, ω, back, mix, Step, Possible, needs}
use Rattle.orderings.specs.Systems.{InForce}
use Rattle.machine.specs.declared.Step as Code
use Rattle.machine.specs.declared.StepLabel.{StepLabel}
use Rattle.machine.specs.declared.StepLabel.TheVariants.{Letter, Omega, Back, Mix}
use Rattle.machine.specs.declared.Verdict.TheVariants.{NonEmpty}
use Rattle.machine.specs.declared.Phase.TheVariants.{Settled}
use Rattle.machine.specs.Machine.{Machine, open_claims}
use Rattle.machine.specs.Expression.{round_of}
use Rattle.rounds.specs.Arrays.{rounds_of}
use Rattle.sorted_keys.specs.Keys.{Rising}
use Rattle.search.specs.declared.Claims.{Claims}
use Rattle.search.specs.Graph.{Graph}
use Rattle.search.specs.Hops.{InnerClaims}
use Rattle.search.specs.Masked.{Initials, Finals}
use Rattle.tours.specs.declared.frames.Shape.{Shape}
use Rattle.tours.specs.declared.frames.Shape.TheVariants.{Whole, Tour, Pieces}
use Rattle.tours.specs.declared.frames.Frame.{Frame}
use Rattle.tours.specs.Frames.{Held, FramedBy}
use Rattle.tours.specs.Cursors.{LeadsTo, Chosen}

-- the loop of the set at place i stands at i, and its mix at 64 + i
abbrev pub Noted : Machine → List ℕ → Type 0
Noted m opened = opened ≡ rounds_of m loops ++ rounds_of m mixes

-- the round of a frame: that of its claim; for the walk, after all rounds
abbrev pub round_for : Machine → Shape → ℕ → ℕ
round_for m Whole P = 130
round_for m (Tour q) P = round_of m.openings (loops P)
round_for m Pieces P = round_of m.openings (mixes P)

-- the frame is about the machine, with its round
pub record Frames (m : Machine) (g : Graph) (k : ℕ) (f : Frame) : Type 0 where
  pub framed : FramedBy m g k f
  pub rounded : f.round ≡ round_for m f.shape f.set

-- a round before another one; 0 is none
abbrev pub Before : ℕ → ℕ → Type 0
Before round k = (0 < k) × (k < round)

-- the places below k whose rounds, from a place of the array on, are before the round
abbrev pub OpenedBefore : List ℕ → ℕ → ℕ → ℕ → ℕ → Type 0
OpenedBefore opened base k round r = (i : ℕ) → (i ∈ r) ↔ ((i < k) × Before round (get_or opened (base + i) 0))

-- the set at place i, as the graph turned round has it, with the claims about parts of it that were opened before the round
pub record SetFrame (b : Graph) (k : ℕ) (opened : List ℕ) (shape : Shape) (i round : ℕ) (r : Frame) : Type 0 where
  pub shape_is : r.shape ≡ shape
  pub set_is : r.set ≡ get_or b.sets i 0
  pub starts_are : (s : ℕ) → (s ∈ r.starts) ↔ ((s ∈ get_or b.rights i 0) × (s ∈ get_or b.sets i 0))
  pub ends_are : (s : ℕ) → (s ∈ r.ends) ↔ ((s ∈ get_or b.lefts i 0) × (s ∈ get_or b.sets i 0))
  pub before : Claims
  pub loops_before : OpenedBefore opened 0 k round before.loops
  pub mixes_before : OpenedBefore opened 64 k round before.mixes
  pub inner : InnerClaims b before (get_or b.sets i 0) r.force
  pub round_is : r.round ≡ round

-- the place of P among n sets in order
abbrev pub FindsSet : List ℕ → ℕ → ℕ → Option ℕ → Type 0
FindsSet sets n P r = Rising sets n → (i : ℕ) → i < n → get_or sets i 0 ≡ P → r ≡ Some i

-- of every machine that the arrays hold
abbrev pub OfHeld : Graph → ℕ → List ℕ → (Machine → Graph → Type 0) → Type 0
OfHeld b k opened T = (m : Machine) (g : Graph) (words : List ℕ) (n : ℕ) → Held m g words n b k → Noted m opened → T m g

-- of the walk
abbrev pub WalkFrame : ℕ → List ℕ → ℕ → ℕ → Frame → Type 0
WalkFrame k opened initials finals r = (b : Graph) → OfHeld b k opened (λ m g. m.phase ≡ Settled NonEmpty → Initials m.rows initials → Finals m.rows finals
    → Frames m g k r × (r.shape ≡ Whole))

-- a step of the machine, with its open claims
abbrev pub Goes : Machine → ℕ → Label → ℕ → Type 0
Goes m a l b = Possible m.rows a l b × InForce (λ c. c among open_claims m) (needs l)

-- where the step of a part at a leads to, if it has one
abbrev pub LeadsOn : ℕ → Option Code.Step → ℕ → Type 0
LeadsOn a step r = (o : Math.Option Step) → Chosen a o step → LeadsTo r o

-- what a step is written out as: a tour from where an omega step starts or a back step ends, or pieces
abbrev pub shape_of : ℕ → Label → ℕ → Shape
shape_of a (letter x) b = Whole
shape_of a (ω P) b = Tour a
shape_of a (back P) b = Tour b
shape_of a (mix P) b = Pieces

-- the claim about P that a shape writes out is open
abbrev pub OpenFor : Machine → Shape → ℕ → Type 0
OpenFor m Whole P = ⊥
OpenFor m (Tour q) P = (q ∈ P) × loops P among open_claims m
OpenFor m Pieces P = mixes P among open_claims m

-- of this claim, where it is open
abbrev pub LimitFrame : Graph → ℕ → List ℕ → Shape → ℕ → Option Frame → Type 0
LimitFrame b k opened shape P r = OfHeld b k opened (λ m g. OpenFor m shape P → IsSomeAnd r (λ f. Frames m g k f × (f.shape ≡ shape) × (f.set ≡ P)))

-- of the claim of a step from a; none where it has none
abbrev pub LabelFrame : Graph → ℕ → List ℕ → ℕ → StepLabel → ℕ → Option Frame → Type 0
LabelFrame b k opened a (Letter x) to r = r ≡ None
LabelFrame b k opened a (Omega P) to r = LimitFrame b k opened (Tour a) P r
LabelFrame b k opened a (Back P) to r = LimitFrame b k opened (Tour to) P r
LabelFrame b k opened a (Mix P) to r = LimitFrame b k opened Pieces P r

abbrev pub StepFrame : Graph → ℕ → List ℕ → ℕ → Option Code.Step → Option Frame → Type 0
StepFrame b k opened a None r = r ≡ None
StepFrame b k opened a (Some t) r = LabelFrame b k opened a t.label t.to r

-- it is about the claim at a place of the array: a tour of the set at that place, or the pieces of the one 64 places before
abbrev pub AtPlace : Graph → ℕ → Frame → Type 0
AtPlace g slot f = ((q : ℕ) × (slot < 64) × (f.shape ≡ Tour q) × (f.set ≡ get_or g.sets slot 0))
    ⊎ ((i : ℕ) × (slot ≡ 64 + i) × (f.shape ≡ Pieces) × (f.set ≡ get_or g.sets i 0))

-- of the claim at a place of the array, where it is open
abbrev pub PlaceFrame : Graph → ℕ → List ℕ → ℕ → Option Frame → Type 0
PlaceFrame b k opened slot r = OfHeld b k opened (λ m g. 0 < get_or opened slot 0 → IsSomeAnd r (λ f. Frames m g k f × AtPlace g slot f))

-- Parts: each step of each leg, and what stands before it; a leg without steps is one part, `e`.
use Rattle.std.specs.Prelude.{ℕ, List, [], ◌∷◌, ◌++◌, map, None, Some}
use Rattle.std.specs.Prelude as Std
use Rattle.std.proofs.Math.Option.{Option, none, some}
use Rattle.orderings.specs.Steps.{Step, Walk}
use Rattle.machine.specs.Machine.{Machine}
use Rattle.tours.specs.declared.frames.Shape.{Shape}
use Rattle.tours.specs.declared.frames.Shape.TheVariants.{Whole, Tour, Pieces}
use Rattle.tours.specs.declared.frames.Frame.{Frame}
use Rattle.tours.specs.Frames.{legs}

-- the byte before it, if one stands there; its step, none for `e`
pub record Part : Type 0 where
  pub before : Std.Option ℕ
  pub step : Option Step

abbrev pub part_of : Std.Option ℕ → Option Step → Part
part_of c o = record { before = c; step = o }

-- of a leg, with the byte before it; a dot stands before its other steps
abbrev pub leg_parts : Std.Option ℕ → Walk → List Part
leg_parts c [] = part_of c none ∷ []
leg_parts c (t ∷ w) = part_of c (some t) ∷ map (λ s. part_of (Some 46) (some s)) w

-- of legs, with the byte before the first, if there is one, and the byte before each of the others
abbrev pub parts_of : Std.Option ℕ → ℕ → List Walk → List Part
parts_of c sep [] = []
parts_of c sep (w ∷ ws) = leg_parts c w ++ parts_of (Some sep) sep ws

-- a comma stands between pieces
abbrev pub separator : Shape → ℕ
separator Whole = 46
separator (Tour q) = 46
separator Pieces = 44

abbrev pub parts : Machine → Frame → List Part
parts m f = parts_of None (separator f.shape) (legs m f.shape f.set)

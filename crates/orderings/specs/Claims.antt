-- Document 01, "Steps and claims": what a claim says, of the walks W that are at hand.
use Rattle.std.specs.Prelude.{ℕ, ◌⊎◌, ◌≢◌, List, []}
use Rattle.lists.specs.Tests.{◌among◌}
use Rattle.masks.specs.Mask.{◌∈◌}
use Rattle.rows.specs.declared.Row.{Row}
use Rattle.rows.specs.declared.Row.TheVariants.{LeftLimit, RightLimit}
use Rattle.orderings.specs.Steps.{Claim, loops, mixes, Struck, Walk, Leads, Inside, On}

-- a walk of one or more steps inside P leads from a to b
abbrev pub Through : (Walk → Type 0) → ℕ → ℕ → ℕ → Type 0
Through W P a b = (w : Walk) × W w × Leads a w b × Inside P w × (w ≢ [])

-- P loops: from any state of P to any, equal ones included
abbrev pub Loops : (Walk → Type 0) → ℕ → Type 0
Loops W P = (a b : ℕ) → a ∈ P → b ∈ P → Through W P a b

-- an entrance of P: a state e of P with row P → e
abbrev pub Entrance : List Row → ℕ → ℕ → Type 0
Entrance rows P e = (e ∈ P) × LeftLimit P e among rows

-- an exit of P: a state f of P with row f → P
abbrev pub Exit : List Row → ℕ → ℕ → Type 0
Exit rows P f = (f ∈ P) × RightLimit f P among rows

-- a piece of P: a walk of one or more steps inside P from an entrance to an exit
abbrev pub Piece : List Row → (Walk → Type 0) → ℕ → Type 0
Piece rows W P = (e : ℕ) × (f : ℕ) × Entrance rows P e × Exit rows P f × Through W P e f

-- s lies on a piece, ends included
abbrev pub OnPiece : List Row → (Walk → Type 0) → ℕ → ℕ → Type 0
OnPiece rows W P s = (k : Piece rows W P) × On s k.0 k.4.0

-- request C-16: a gap, a state s of P with both rows s → P and P → s, is a piece of no steps; request C-18: at a struck state there is none
abbrev pub Gap : List Row → ℕ → ℕ → Type 0
Gap rows P s = Entrance rows P s × Exit rows P s × ¬ Struck rows s

-- P mixes: every state of P lies on some piece, perhaps one of no steps, and at least one piece has a step
pub record Mixes (rows : List Row) (W : Walk → Type 0) (P : ℕ) : Type 0 where
  pub covered : (s : ℕ) → s ∈ P → OnPiece rows W P s ⊎ Gap rows P s
  pub stepped : Piece rows W P

abbrev pub Says : List Row → (Walk → Type 0) → Claim → Type 0
Says rows W (loops P) = Loops W P
Says rows W (mixes P) = Mixes rows W P

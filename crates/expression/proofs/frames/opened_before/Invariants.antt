-- `expression::frames::opened_before` meets its contract. The loop's invariant: the mask has the places below i that were opened before the round.
use Prim.Native.Nat.{ℕ, ◌+◌}
use mathlib.Core.List.{List}
use lib.ListN.{get_or}
use Rattle.masks.proofs.Marking.{Marked}
use Rattle.expression.specs.Frames.{Before}
use Rattle.expression.proofs.frames.opened_before.Given as goal

-- the place was opened before the round
abbrev pub Old : List ℕ → ℕ → ℕ → ℕ → Type 0
Old opened base round i = Before round (get_or opened (base + i) 0)

abbrev pub invariant-loop-i : goal.invariant-loop-i
invariant-loop-i l = Marked (Old l.opened l.base l.round) l.r l.i

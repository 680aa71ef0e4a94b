-- `rounds::open_mask` meets its contract. The loop's invariant: the mask has the places below i whose round is not 0.
use Prim.Native.Nat.{ℕ, ◌<◌}
use mathlib.Core.List.{List}
use lib.ListN.{get_or}
use Rattle.masks.proofs.Marking.{Marked}
use Rattle.rounds.proofs.open_mask.Given as goal

abbrev pub Opened : List ℕ → ℕ → Type 0
Opened rounds k = 0 < get_or rounds k 0

abbrev pub invariant-loop-i : goal.invariant-loop-i
invariant-loop-i l = Marked (Opened l.rounds) l.r l.i

-- `masks::transpose` meets its contract. The loop's invariant: the edges from the states below i are turned round.
use mathlib.Core.Path.{◌≡◌}
use lib.ListN.{length}
use Rattle.masks.proofs.Turning.{Sources}
use Rattle.masks.proofs.transpose.Given as goal

abbrev pub invariant-loop-i : goal.invariant-loop-i
invariant-loop-i l = (length l.back ≡ 64) × Sources l.succ l.back l.i

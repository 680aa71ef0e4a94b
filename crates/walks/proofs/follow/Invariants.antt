-- `walks::follow` meets its contract. The loop's invariant is `Taking`.
use Prim.Native.Nat.{◌<◌}
use mathlib.Core.Path.{◌≡◌}
use lib.ListN.{length}
use Rattle.walks.specs.Choices.{Way, SetsRise}
use Rattle.walks.proofs.Following.{Taking}
use Rattle.walks.proofs.follow.Given as goal

abbrev pub invariant-loop-i : goal.invariant-loop-i
invariant-loop-i l = (l.a < 64) × (length l.steps ≡ 64)
    × Taking (Way l.words l.count l.back l.force) (SetsRise l.back l.force) l.layers l.leg.start l.leg.steps l.steps l.a l.i

-- `walks::lay` meets its contract. The loop's invariant is `Laying`; each layer but the first adds a state to what is seen.
use Prim.Native.Nat.{ℕ, ◌-◌, ◌^◌, ◌<◌}
use mathlib.Core.Path.{◌≡◌}
use lib.Count.{ones}
use lib.ListN.{get_or, length}
use Rattle.masks.specs.Mask.{◌∈◌}
use Rattle.walks.specs.Layers.{Ahead}
use Rattle.walks.proofs.Layers.{Laying}
use Rattle.walks.proofs.lay.Given as goal

abbrev pub invariant-loop-force : goal.invariant-loop-force
invariant-loop-force l =
    (length l.layers ≡ length l.initial.layers) × (l.layer ≡ get_or l.layers l.k 0) × (l.seen < 2 ^ 64) × ((t : ℕ) → t ∈ l.seen → l.k < ones l.seen)
    × Laying (Ahead l.back l.force l.p) l.starts l.ends l.layers l.k l.seen

abbrev pub decreases-loop-force : goal.decreases-loop-force
decreases-loop-force l = 64 - l.k

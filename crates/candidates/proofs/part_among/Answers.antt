-- `part_among` meets its contract. The loop's invariant: the places left are among the places.
use Prim.Native.Nat.{ℕ}
use mathlib.Core.Path.{subst}
use native.Mathlib.Omega.{arith}
use Rattle.masks.specs.Mask.{◌∈◌}
use Rattle.masks.proofs.Passing.{begun}
use Rattle.candidates.proofs.part_among.Goals as goal

pub loop-i-init : goal.loop-i-init
loop-i-init c t h = subst (λ (r : ℕ). t ∈ r) (begun c.into_iter-i-iterator.ensures.into_iter_gives c.each-i-items.ensures) h

-- by hand, so that under a wrong test the fact that fails is seen
pub returns-then-is_subset : goal.returns-then-is_subset
returns-then-is_subset c = (
  omega arith,
  (c.in-Some.i, c.loop-i.invariant c.in-Some.i c.in-Some.ensures.steps.is, c.set_at-part.ensures, c.is_subset.ensures.to c.if-is_subset.true),
)

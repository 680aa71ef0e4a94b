-- `lacks::take_out` meets its contract. The loop stores at each state of `m` the mask there without the places.
use Prim.Native.Nat.{ℕ}
use lib.ListN.{get_or}
use Rattle.masks.specs.Mask.{◌∈◌}
use Rattle.masks.proofs.Storing.{Storing}
use Rattle.lacks.proofs.take_out.Given as goal

abbrev pub invariant-loop-s : goal.invariant-loop-s
invariant-loop-s l =
    Storing (λ q x. (i : ℕ) → i ∈ x → (i ∈ get_or l.initial.lack q 0) × ¬ (i ∈ l.places)) l.initial.lack l.m l.s-iterator.rest l.lack

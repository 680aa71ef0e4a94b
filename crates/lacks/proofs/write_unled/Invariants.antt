-- `lacks::write_unled` meets its contract. The loop stores the mask of each state.
use Prim.Native.Nat.{ℕ}
use Rattle.masks.specs.Mask.{◌∈◌}
use Rattle.masks.proofs.Storing.{Storing}
use Rattle.search.specs.Hops.{no_claims}
use Rattle.lacks.specs.Lacks.{Lacking}
use Rattle.lacks.proofs.write_unled.Given as goal

abbrev pub invariant-loop-s : goal.invariant-loop-s
invariant-loop-s l = Storing (λ q x. (i : ℕ) → i ∈ x → Lacking l.graph no_claims 0 i q) l.initial.lack l.states l.s-iterator.rest l.lack

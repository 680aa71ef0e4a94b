-- `all_idle` meets its contract. The loop's invariant: the sets below i are idle.
use Prim.Native.Nat.{ℕ, ◌<◌}
use Rattle.rounds.specs.Promises.{Idle}
use Rattle.rounds.proofs.all_idle.Given as goal

abbrev pub invariant-loop-i : goal.invariant-loop-i
invariant-loop-i l = (k : ℕ) → k < l.i → Idle l.graph k

-- `is_idle` meets its contract. The loop's invariant: what is left are states of the set that are no exits.
use Prim.Native.Nat.{ℕ}
use Rattle.std.specs.Iterator.Adapters.{take_source}
use Rattle.masks.specs.Mask.{◌∈◌}
use Rattle.rounds.proofs.Vain.{Lone}
use Rattle.rounds.proofs.is_idle.Given as goal

abbrev pub invariant-loop-s : goal.invariant-loop-s
invariant-loop-s l = (t : ℕ) → t ∈ (take_source l.s-iterator).rest → Lone l.graph l.i t

-- `texts::number_len` meets its contract: the digits of n are those of v and the k - 1 that were passed.
use Prim.Native.Nat.{◌+◌}
use mathlib.Core.Path.{◌≡◌}
use lib.ListN.{length}
use Rattle.machine.specs.Text.{number_text}
use Rattle.texts.proofs.number_len.Given as goal

abbrev pub invariant-loop-v : goal.invariant-loop-v
invariant-loop-v l = length (number_text l.n) + 1 ≡ l.k + length (number_text l.v)

abbrev pub decreases-loop-v : goal.decreases-loop-v
decreases-loop-v l = l.v

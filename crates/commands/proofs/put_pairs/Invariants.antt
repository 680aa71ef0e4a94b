-- `put_pairs` meets its contract: the digits written, and those of what is left.
use Prim.Native.Nat.{◌*◌}
use mathlib.Core.Path.{◌≡◌}
use mathlib.Core.List.{◌++◌}
use lib.ListN.{take, drop}
use Rattle.commands.specs.Digits.{encoded}
use Rattle.commands.proofs.put_pairs.Given as goal

abbrev pub invariant-loop-i : goal.invariant-loop-i
invariant-loop-i l = encoded l.bytes ≡ take (2 * l.i) l.text ++ encoded (drop l.i l.bytes)

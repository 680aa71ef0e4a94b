-- `decode` meets its contract: the bytes written, and those of what is left.
use Prim.Native.Nat.{◌*◌}
use mathlib.Core.Path.{◌≡◌}
use mathlib.Core.List.{◌++◌}
use lib.ListN.{take, drop}
use Rattle.commands.specs.Digits.{bytes}
use Rattle.commands.proofs.decode.Given as goal

abbrev pub invariant-loop-i : goal.invariant-loop-i
invariant-loop-i l = bytes l.text ≡ take l.i l.batch ++ bytes (drop (2 * l.i) l.text)

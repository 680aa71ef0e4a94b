-- `texts::put_in_turn` meets its contract: the i low bytes of a and b are left to write, before what is written.
use Prim.Native.Nat.{◌*◌}
use mathlib.Core.Path.{◌≡◌}
use mathlib.Core.List.{◌++◌}
use lib.ListN.{drop}
use Rattle.texts.specs.Digits.{in_turn}
use Rattle.texts.proofs.put_in_turn.Given as goal

abbrev pub invariant-loop-i : goal.invariant-loop-i
invariant-loop-i l = in_turn 8 l.first l.second ++ drop 16 l.initial.buf ≡ in_turn l.i l.a l.b ++ drop (2 * l.i) l.buf

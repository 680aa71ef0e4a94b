-- `texts::put_digits` meets its contract: the i low digits of v are left to write, before what is written.
use mathlib.Core.Path.{◌≡◌}
use mathlib.Core.List.{◌++◌}
use lib.ListN.{drop}
use Rattle.texts.specs.Digits.{low_digits}
use Rattle.texts.proofs.put_digits.Given as goal

abbrev pub invariant-loop-i : goal.invariant-loop-i
invariant-loop-i l = low_digits l.count l.n ++ drop l.count l.initial.buf ≡ low_digits l.i l.v ++ drop l.i l.buf

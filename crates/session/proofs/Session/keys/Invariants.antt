-- `keys` meets its contract. The invariant: the array holds the keys of the rows passed.
use mathlib.Core.Path.{◌≡◌}
use lib.ListN.{length}
use Rattle.session.specs.Standing.{first_rows}
use Rattle.row_table.specs.Arrays.{Keyed}
use Rattle.session.proofs.Session.keys.Given as goal

abbrev pub invariant-loop-i : goal.invariant-loop-i
invariant-loop-i l = (length l.keys ≡ 256) × Keyed (first_rows l.i l.self.rows) l.keys l.i

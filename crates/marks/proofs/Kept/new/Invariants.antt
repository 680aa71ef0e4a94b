-- `Kept::new` meets its contract. The invariant: of all rows of which the first n keys are, the arrays hold the keys passed, and then zeros.
use mathlib.Core.List.{List}
use Rattle.rows.specs.declared.Row.{Row}
use Rattle.rows.specs.Rows.{AllFit}
use Rattle.row_table.specs.Arrays.{Keyed}
use Rattle.marks.proofs.Packing.{packed}
use Rattle.marks.proofs.Kept.new.Given as goal

abbrev pub invariant-loop-i : goal.invariant-loop-i
invariant-loop-i l = (rows : List Row) → AllFit rows → Keyed rows l.rows.keys l.rows.count → packed rows l.high l.low l.i

-- `rows_of` meets its contract. The invariant: the array holds the rows of the keys passed, and then the filler.
use mathlib.Core.Path.{◌≡◌}
use mathlib.Core.List.{List}
use lib.ListN.{take}
use Rattle.rows.specs.declared.Row.{Row}
use Rattle.rows.specs.Rows.{AllFit}
use Rattle.row_table.specs.Arrays.{padded, Keyed}
use Rattle.session.specs.Record.{blank}
use Rattle.session.proofs.tables.rows_of.Given as goal

abbrev pub invariant-loop-i : goal.invariant-loop-i
invariant-loop-i l = (table : List Row) → AllFit table → Keyed table l.keys.keys l.keys.count → l.rows ≡ padded 256 blank (take l.i table)

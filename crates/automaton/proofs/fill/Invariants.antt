-- `fill` meets its contract. The loop's invariant: where the graph had the sets and nothing else, the masks are those of the rows before the key.
use mathlib.Core.List.{List}
use lib.ListN.{length, take}
use Rattle.rows.specs.declared.Row.{Row}
use Rattle.rows.specs.Rows.{AllFit}
use Rattle.search.specs.Graph.{Unindexed}
use Rattle.row_table.specs.Arrays.{Keyed}
use Rattle.automaton.specs.Passed.{SetsPassed}
use Rattle.automaton.specs.Promise.{HasSets}
use Rattle.automaton.proofs.fill.Given as goal

abbrev pub invariant-loop-key : goal.invariant-loop-key
invariant-loop-key l = HasSets l.held (length l.held) l.initial.graph → record {
  bare : Unindexed l.graph (length l.held);
  passed : (rows : List Row) → AllFit rows → Keyed rows l.keys.keys l.keys.count → SetsPassed l.held (take l.key-index rows) l.graph l.seen;
}

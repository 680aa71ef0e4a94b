-- The masks of a table that arrays hold.
use Prim.Native.Nat.{ℕ}
use mathlib.Core.List.{List}
use Rattle.sorted_keys.specs.declared.Key.{Key}
use Rattle.rows.specs.declared.Row.{Row}
use Rattle.machine.specs.WellFormed.{Table}
use Rattle.row_table.specs.Arrays.{SetsIn, Filed}
use Rattle.row_table.proofs.Sets.{sets_in_held}
use Rattle.search.specs.Graph.{graph_of}
use Rattle.automaton.specs.declared.Automaton.{Automaton}
use Rattle.automaton.specs.Promise.{Gives, GivesKeyed}
use Rattle.automaton.proofs.Giving.{graph_sets_in}
use Rattle.rounds.specs.Promises.{Given}

module _ {rows : List Row} (t : Table rows) {sets : List ℕ} {k : ℕ} {a : Automaton} where
  -- from its keys
  pub gives_filed : {keys : List Key} {n : ℕ} → Filed keys sets n k rows → GivesKeyed keys n sets k a → Gives rows sets k a
  gives_filed f g = g rows t.fit f.0 f.1.count (sets_in_held rows sets k f.1)

  -- as the rounds are given them
  pub given_rows : SetsIn rows sets k → Gives rows sets k a → Given rows (graph_of a.graph) a.initials a.finals k
  given_rows w g = record { table = t; sets_in = graph_sets_in rows sets k a g w; masked = g.masked; initial_iff = g.initial_iff; final_iff = g.final_iff }

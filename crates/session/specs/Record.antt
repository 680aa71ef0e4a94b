-- The whole record of a machine with its marks.
use Rattle.std.specs.Prelude.{◌≡◌, length}
use Rattle.rows.specs.declared.Row.{Row}
use Rattle.rows.specs.declared.Row.TheVariants.{Initial}
use Rattle.rows.specs.Rows.{standing_sets}
use Rattle.orderings.specs.Steps.{loops, mixes}
use Rattle.machine.specs.Marks.{Marked, MarkedFormed}
use Rattle.row_table.specs.Arrays.{padded}
use Rattle.rounds.specs.Arrays.{rounds_of}
use Rattle.marks.specs.Record.{marks_of}
use Rattle.session.specs.declared.Session.{Session}

-- what an unused place of the row array holds
abbrev pub blank : Row
blank = Initial 0

unfoldable pub record_of : Marked → Session
record_of x =
    record {
      rows = padded 256 blank x.now.rows;
      row_count = length x.now.rows;
      sets = padded 64 0 (standing_sets x.now.rows);
      set_count = length (standing_sets x.now.rows);
      loop_rounds = rounds_of x.now loops;
      mix_rounds = rounds_of x.now mixes;
      phase = x.now.phase;
      rounds = x.now.rounds;
      marks = marks_of x.marks;
    }

-- the session is the record of a machine with marks that calls make
pub record Represents (x : Marked) (s : Session) : Type 0 where
  pub formed : MarkedFormed x
  pub whole : s ≡ record_of x

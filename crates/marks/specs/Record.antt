-- The marks of a machine in a record.
use Rattle.std.specs.Prelude.{ℕ, ◌+◌, ◌*◌, List, [], ◌∷◌, map, length}
use Rattle.rows.specs.Keys.{high, low}
use Rattle.machine.specs.Machine.{most_rows, Machine, fresh}
use Rattle.machine.specs.Marks.{most_marks, Mark}
use Rattle.row_table.specs.Arrays.{padded}
use Rattle.marks.specs.declared.Kept.{Kept}
use Rattle.marks.specs.declared.Mark.{Mark as Entry}
use Rattle.marks.specs.declared.Marks.{Marks}

-- the bytes of a name as one number, the last of them most significant
abbrev pub name_number : List ℕ → ℕ
name_number [] = 0
name_number (b ∷ l) = b + 256 * name_number l

-- what a mark keeps of a machine: the keys of its rows, and then zeros, its phase and its count of rounds; sets and openings follow from these
unfoldable pub kept_of : Machine → Kept
kept_of m =
    record {
      high = padded most_rows 0 (map high m.rows);
      low = padded most_rows 0 (map low m.rows);
      row_count = length m.rows;
      phase = m.phase;
      rounds = m.rounds;
    }

-- the number of its name, and what is kept under it
abbrev pub mark_of : Mark → Entry
mark_of k = record { name = name_number k.name; kept = kept_of k.kept }

-- the marks, and how many there are; a place that is not used holds what a fresh machine's mark would keep
unfoldable pub marks_of : List Mark → Marks
marks_of l =
    record { marks = padded most_marks (record { name = 0; kept = kept_of fresh }) (map mark_of l); count = length l }

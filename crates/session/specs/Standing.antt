-- What the inner functions make of a record, as its arrays stand.
use Rattle.std.specs.Prelude.{ℕ, ◌≡◌, List, ◌∷◌, length, take, replicate, Ok}
use Rattle.rows.specs.declared.Row.{Row}
use Rattle.rows.specs.Rows.{AllFit, standing_sets}
use Rattle.machine.specs.declared.Phase.{Phase}
use Rattle.machine.specs.declared.Success.TheVariants.{Done}
use Rattle.machine.specs.Machine.{Machine, open_with}
use Rattle.machine.specs.Calls.{Answer, close, round, run}
use Rattle.machine.specs.WellFormed.{Table, WellFormed}
use Rattle.machine.specs.Marks.{Marked, fresh_marked}
use Rattle.row_table.specs.declared.RowKeys.{RowKeys}
use Rattle.row_table.specs.declared.RowSets.{RowSets}
use Rattle.row_table.specs.Arrays.{padded, Filed}
use Rattle.automaton.specs.declared.Automaton.{Automaton}
use Rattle.automaton.specs.Promise.{Gives, GivesLetters, automaton_of}
use Rattle.rounds.specs.declared.Progress.{Progress}
use Rattle.session.specs.declared.Session.{Session}
use Rattle.session.specs.declared.Reply.{Reply}
use Rattle.marks.specs.declared.Kept.{Kept}
use Rattle.marks.specs.Record.{kept_of}
use Rattle.session.specs.Record.{blank, record_of, Represents}

-- the first n rows of an array
unfoldable pub first_rows : ℕ → List Row → List Row
first_rows n l = take n l

-- the rows that stand
abbrev pub standing : Session → List Row
standing s = first_rows s.row_count s.rows

abbrev pub reply : Session → Answer → Reply
reply s a = record { session = s; answer = a }

-- the record with another table
abbrev pub with_table : Session → List Row → Session
with_table s rows =
    record {
      rows = padded 256 blank rows;
      row_count = length rows;
      sets = padded 64 0 (standing_sets rows);
      set_count = length (standing_sets rows);
      loop_rounds = s.loop_rounds;
      mix_rounds = s.mix_rounds;
      phase = s.phase;
      rounds = s.rounds;
      marks = s.marks;
    }

-- the rounds of the claims, the phase and the count of rounds
abbrev pub rounds_in : Session → Progress
rounds_in s = record { loop_rounds = s.loop_rounds; mix_rounds = s.mix_rounds; phase = s.phase; rounds = s.rounds }

-- the record with others
abbrev pub with_rounds : Session → Progress → Session
with_rounds s r =
    record {
      rows = s.rows;
      row_count = s.row_count;
      sets = s.sets;
      set_count = s.set_count;
      loop_rounds = r.loop_rounds;
      mix_rounds = r.mix_rounds;
      phase = r.phase;
      rounds = r.rounds;
      marks = s.marks;
    }

-- the record has the table that arrays of keys and of sets hold
abbrev pub HoldsTable : Session → RowKeys → RowSets → Session → Type 0
HoldsTable s keys sets r = (rows : List Row) → Table rows → Filed keys.keys sets.sets keys.count sets.count rows → r ≡ with_table s rows

-- the masks of the rows of the machine that the session represents
abbrev pub Reads : Session → Automaton → Type 0
Reads s r = (x : Marked) → Represents x s → Gives x.now.rows s.sets s.set_count r

-- the letter steps, initial and final states of the rows that stand
abbrev pub LettersOf : Session → List ℕ → ℕ → ℕ → Type 0
LettersOf s graph initials finals = AllFit (standing s) → GivesLetters (standing s) (automaton_of graph initials finals)

-- ---- marks

-- a record with the marks of s
abbrev pub with_marks : Session → Session → Session
with_marks s t =
    record {
      rows = t.rows;
      row_count = t.row_count;
      sets = t.sets;
      set_count = t.set_count;
      loop_rounds = t.loop_rounds;
      mix_rounds = t.mix_rounds;
      phase = t.phase;
      rounds = t.rounds;
      marks = s.marks;
    }

-- the machine as it is now becomes another
abbrev pub with_now : Marked → Machine → Marked
with_now x m = record { now = m; marks = x.marks }

-- what a mark keeps of the machine that the session represents
abbrev pub Contents : Session → Kept → Type 0
Contents s r = (x : Marked) → Represents x s → r ≡ kept_of x.now

-- open with no rows, and the marks of s
abbrev pub emptied : Session → Session
emptied s = with_marks s (record_of fresh_marked)

-- the machine is closed, and does rounds until it is settled, k at most
abbrev pub WorkedOn : Session → ℕ → Reply → Type 0
WorkedOn s k r = (x : Marked) → Represents x s → r ≡ reply (record_of (with_now x (run (open_with x.now.rows) (close ∷ replicate k round)))) (Ok Done)

-- the machine with these rows, in the phase after so many rounds
abbrev pub ReworkedTo : Session → Phase → ℕ → Reply → Type 0
ReworkedTo s phase k r = (x : Marked) → Represents x s → (m : Machine) → WellFormed m → x.now.rows ≡ m.rows → m.phase ≡ phase → m.rounds ≡ k
    → r ≡ reply (record_of (with_now x m)) (Ok Done)

-- the rows of the machine that is kept, open, with the marks of s
abbrev pub Reloads : Session → Kept → Session → Type 0
Reloads s kept r = (x : Marked) → Represents x s → (m : Machine) → WellFormed m → kept ≡ kept_of m → Represents (with_now x (open_with m.rows)) r

-- the machine that is kept, with the marks of s
abbrev pub BringsBack : Session → Kept → Reply → Type 0
BringsBack s kept r = (x : Marked) → Represents x s → (m : Machine) → WellFormed m → kept ≡ kept_of m → r ≡ reply (record_of (with_now x m)) (Ok Done)

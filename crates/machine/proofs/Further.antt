-- Further sheets, computed: the order of openings (`openings`), each place of the order of walks (`kinds_first`, `values_first`, `targets`,
-- `starts_first`), struck states (`struck_walks`), refusals (`refused_lines`, `phases`), verdicts by rising size (`verdicts`), and marks (`names`, `marks`,
-- `returns`, `marks_anew`).
use Prim.Native.Nat.{ℕ}
use mathlib.Core.Path.{◌≡◌, refl}
use mathlib.Core.Bool.{true, false}
use mathlib.Core.List.{List, [], ◌∷◌}
use native.Mathlib.Decide.{ℕ_discrete}
use Rattle.masks.specs.Mask.{member}
use Rattle.rows.specs.declared.Row.{Row}
use Rattle.rows.specs.declared.Row.TheVariants.{Initial, Final, Successor, LeftLimit, RightLimit, Strike}
use Rattle.rows.specs.Rows.{row_bytes, batch_of, standing_sets, same_row}
use Rattle.rows.specs.Reading.{set_at, row_at, row_cause, read_row}
use Rattle.rows.specs.Batch.{on_turn, on_read, feed_from, feed}
use Rattle.orderings.specs.Steps.{members}
use Rattle.orderings.specs.Decide.{reach, holds?, accepts?}
use Rattle.orderings.specs.Rising.{finds?, found, rising?}
use Rattle.machine.specs.declared.Verdict.TheVariants.{NonEmpty, Empty}
use Rattle.machine.specs.Machine.{fresh, load_row, withdraw_row, closed, opened_next, next_round}
use Rattle.machine.specs.Search.{walk_of, least, shortest}
use Rattle.machine.specs.Text.{text, hex, decimal}
use Rattle.machine.specs.Sheet.{sheet}
use Rattle.machine.specs.Calls.{Call, load, withdraw, close, round, reopen, verdict, print, save, Outcome, done, wrote, decided, refused, verdict_of, call_in, call, run}
use Rattle.machine.specs.Program.{after_load, batch_verdict, program}
use Rattle.machine.specs.Marks.{name?, Marked, fresh_marked, MarkedCall, on, mark, return_to, marked_call}

abbrev on_rows : List Row → List ℕ
on_rows rows = program (batch_of rows)

-- a sheet, byte by byte
pub sheet_in_bytes : on_rows (Initial 10 ∷ Final 63 ∷ Successor 10 255 63 ∷ []) ≡ 118 ∷ 101 ∷ 114 ∷ 100 ∷ 105 ∷ 99 ∷ 116 ∷ 32 ∷ 110 ∷ 111 ∷ 110 ∷ 101 ∷ 109 ∷ 112 ∷ 116 ∷ 121 ∷ 32 ∷ 114 ∷ 111 ∷ 117 ∷ 110 ∷ 100 ∷ 115 ∷ 32 ∷ 48 ∷ 10 ∷ 115 ∷ 116 ∷ 97 ∷ 114 ∷ 116 ∷ 32 ∷ 49 ∷ 48 ∷ 10 ∷ 115 ∷ 116 ∷ 101 ∷ 112 ∷ 32 ∷ 108 ∷ 101 ∷ 116 ∷ 116 ∷ 101 ∷ 114 ∷ 32 ∷ 50 ∷ 53 ∷ 53 ∷ 32 ∷ 116 ∷ 111 ∷ 32 ∷ 54 ∷ 51 ∷ 10 ∷ []
unfolding ℕ_discrete member row_bytes standing_sets same_row set_at row_at row_cause read_row on_turn on_read feed_from feed members reach holds? accepts? load_row closed opened_next next_round walk_of least shortest hex decimal sheet call_in after_load program
sheet_in_bytes = refl

-- by round, then set, then loop before mix; sets compare as numbers, with bit 63 too
pub openings : on_rows (Initial 0 ∷ Final 5 ∷ Successor 0 7 0 ∷ Successor 1 7 1 ∷ Successor 63 7 63 ∷ LeftLimit 9223372036854775808 63 ∷ RightLimit 0 1 ∷ LeftLimit 1 0 ∷ LeftLimit 2 1 ∷ [])
    ≡ text "verdict empty rounds 2\nopen 1 loop 0000000000000001\nopen 1 mix 0000000000000001\nopen 1 loop 0000000000000002\nopen 1 loop 8000000000000000\n"
unfolding ℕ_discrete member row_bytes standing_sets same_row set_at row_at row_cause read_row on_turn on_read feed_from feed members reach holds? accepts? load_row closed opened_next next_round walk_of least shortest hex decimal sheet call_in after_load program
openings = refl

-- the round before the set
pub openings_by_round : on_rows (Initial 0 ∷ Final 2 ∷ Successor 0 7 0 ∷ Successor 1 7 0 ∷ LeftLimit 1 1 ∷ LeftLimit 3 2 ∷ Successor 5 7 5 ∷ LeftLimit 32 6 ∷ [])
    ≡ text "verdict nonempty rounds 2\nopen 1 loop 0000000000000001\nopen 1 loop 0000000000000020\nopen 2 loop 0000000000000003\nstart 0\nstep omega 0000000000000003 to 2\n"
unfolding ℕ_discrete member row_bytes standing_sets same_row set_at row_at row_cause read_row on_turn on_read feed_from feed members reach holds? accepts? load_row closed opened_next next_round walk_of least shortest hex decimal sheet call_in after_load program
openings_by_round = refl

-- what each table below shares: the sets {0}, {1} and {2} loop and mix
abbrev three : List Row
three = Successor 0 7 0 ∷ Successor 1 7 1 ∷ Successor 2 7 2 ∷ []

-- omega before back before mix
pub kinds : (on_rows (Initial 0 ∷ Final 1 ∷ RightLimit 0 4 ∷ LeftLimit 4 1 ∷ RightLimit 2 4 ∷ LeftLimit 4 2 ∷ RightLimit 0 2 ∷ LeftLimit 1 1 ∷ three)
    ≡ text "verdict nonempty rounds 1\nopen 1 loop 0000000000000001\nopen 1 loop 0000000000000002\nopen 1 loop 0000000000000004\nopen 1 mix 0000000000000004\nstart 0\nstep omega 0000000000000001 to 1\n")
    × (on_rows (Initial 0 ∷ Final 1 ∷ RightLimit 0 4 ∷ LeftLimit 4 1 ∷ RightLimit 2 4 ∷ LeftLimit 4 2 ∷ RightLimit 0 2 ∷ three)
    ≡ text "verdict nonempty rounds 1\nopen 1 loop 0000000000000002\nopen 1 loop 0000000000000004\nopen 1 mix 0000000000000004\nstart 0\nstep back 0000000000000002 to 1\n")
unfolding ℕ_discrete member row_bytes standing_sets same_row set_at row_at row_cause read_row on_turn on_read feed_from feed members reach holds? accepts? load_row closed opened_next next_round walk_of least shortest hex decimal sheet call_in after_load program
kinds = (refl, refl)

-- lower start; letter before omega, lower letter, lower target, lower set
pub ties : (on_rows (Initial 1 ∷ Initial 0 ∷ Final 2 ∷ Successor 0 7 0 ∷ LeftLimit 3 2 ∷ Successor 0 7 1 ∷ Successor 1 7 0 ∷ []) ≡ text "verdict nonempty rounds 1\nopen 1 loop 0000000000000003\nstart 0\nstep omega 0000000000000003 to 2\n")
    × (on_rows (Initial 0 ∷ Final 3 ∷ Successor 0 7 0 ∷ LeftLimit 1 1 ∷ Successor 0 9 1 ∷ Successor 0 4 2 ∷ Successor 0 4 1 ∷ Successor 1 7 1 ∷ LeftLimit 2 3 ∷ Successor 2 7 2 ∷ LeftLimit 4 3 ∷ [])
    ≡ text "verdict nonempty rounds 1\nopen 1 loop 0000000000000001\nopen 1 loop 0000000000000002\nopen 1 loop 0000000000000004\nstart 0\nstep letter 4 to 1\nstep omega 0000000000000002 to 3\n")
    × (on_rows (Initial 0 ∷ Final 3 ∷ Successor 0 7 0 ∷ Successor 0 7 1 ∷ Successor 1 7 0 ∷ LeftLimit 3 3 ∷ LeftLimit 1 3 ∷ [])
    ≡ text "verdict nonempty rounds 1\nopen 1 loop 0000000000000001\nopen 1 loop 0000000000000003\nstart 0\nstep omega 0000000000000001 to 3\n")
unfolding ℕ_discrete member row_bytes standing_sets same_row set_at row_at row_cause read_row on_turn on_read feed_from feed members reach holds? accepts? load_row closed opened_next next_round walk_of least shortest hex decimal sheet call_in after_load program
ties = (refl, refl, refl)

-- the kind before set or letter and before target, though these are higher
pub kinds_first : (on_rows (Initial 0 ∷ Final 3 ∷ Successor 0 200 2 ∷ Successor 0 7 0 ∷ LeftLimit 1 1 ∷ Successor 1 7 1 ∷ LeftLimit 2 3 ∷ Successor 2 7 2 ∷ LeftLimit 4 3 ∷ [])
    ≡ text "verdict nonempty rounds 1\nopen 1 loop 0000000000000001\nopen 1 loop 0000000000000002\nopen 1 loop 0000000000000004\nstart 0\nstep letter 200 to 2\nstep omega 0000000000000004 to 3\n")
    × (on_rows (Initial 0 ∷ Final 1 ∷ Final 2 ∷ Successor 0 7 3 ∷ Successor 3 7 0 ∷ LeftLimit 9 2 ∷ Successor 1 7 1 ∷ RightLimit 0 2 ∷ [])
    ≡ text "verdict nonempty rounds 1\nopen 1 loop 0000000000000002\nopen 1 loop 0000000000000009\nstart 0\nstep omega 0000000000000009 to 2\n")
    × (on_rows (Initial 0 ∷ Final 1 ∷ Final 3 ∷ Successor 2 7 2 ∷ LeftLimit 4 2 ∷ RightLimit 2 4 ∷ RightLimit 0 4 ∷ LeftLimit 4 1 ∷ Successor 3 7 3 ∷ RightLimit 0 8 ∷ [])
    ≡ text "verdict nonempty rounds 1\nopen 1 loop 0000000000000004\nopen 1 mix 0000000000000004\nopen 1 loop 0000000000000008\nstart 0\nstep back 0000000000000008 to 3\n")
unfolding ℕ_discrete member row_bytes standing_sets same_row set_at row_at row_cause read_row on_turn on_read feed_from feed members reach holds? accepts? load_row closed opened_next next_round walk_of least shortest hex decimal sheet call_in after_load program
kinds_first = (refl, refl, refl)

-- the letter or set before the target, though that is higher
pub values_first : (on_rows (Initial 0 ∷ Final 3 ∷ Successor 0 4 2 ∷ Successor 0 9 1 ∷ Successor 1 7 3 ∷ Successor 2 7 3 ∷ [])
    ≡ text "verdict nonempty rounds 0\nstart 0\nstep letter 4 to 2\nstep letter 7 to 3\n")
    × (on_rows (Initial 0 ∷ Final 1 ∷ Final 2 ∷ Successor 0 7 0 ∷ Successor 0 7 3 ∷ Successor 3 7 0 ∷ LeftLimit 1 2 ∷ LeftLimit 9 1 ∷ [])
    ≡ text "verdict nonempty rounds 1\nopen 1 loop 0000000000000001\nopen 1 loop 0000000000000009\nstart 0\nstep omega 0000000000000001 to 2\n")
    × (on_rows (Initial 3 ∷ Final 0 ∷ Final 1 ∷ Successor 1 7 1 ∷ Successor 0 7 2 ∷ Successor 2 7 0 ∷ RightLimit 3 2 ∷ RightLimit 3 5 ∷ [])
    ≡ text "verdict nonempty rounds 1\nopen 1 loop 0000000000000002\nopen 1 loop 0000000000000005\nstart 3\nstep back 0000000000000002 to 1\n")
    × (on_rows (Initial 0 ∷ Final 4 ∷ Final 5 ∷ Successor 2 7 2 ∷ LeftLimit 4 2 ∷ RightLimit 2 4 ∷ RightLimit 0 4 ∷ LeftLimit 4 5 ∷ Successor 3 7 3 ∷ LeftLimit 8 3 ∷ RightLimit 3 8 ∷ RightLimit 0 8 ∷ LeftLimit 8 4 ∷ [])
    ≡ text "verdict nonempty rounds 1\nopen 1 loop 0000000000000004\nopen 1 mix 0000000000000004\nopen 1 loop 0000000000000008\nopen 1 mix 0000000000000008\nstart 0\nstep mix 0000000000000004 to 5\n")
unfolding ℕ_discrete member row_bytes standing_sets same_row set_at row_at row_cause read_row on_turn on_read feed_from feed members reach holds? accepts? load_row closed opened_next next_round walk_of least shortest hex decimal sheet call_in after_load program
values_first = (refl, refl, refl, refl)

-- then the lower target
pub targets : (on_rows (Initial 0 ∷ Final 1 ∷ Final 2 ∷ Successor 0 7 0 ∷ LeftLimit 1 2 ∷ LeftLimit 1 1 ∷ [])
    ≡ text "verdict nonempty rounds 1\nopen 1 loop 0000000000000001\nstart 0\nstep omega 0000000000000001 to 1\n")
    × (on_rows (Initial 3 ∷ Final 0 ∷ Final 1 ∷ Successor 0 7 1 ∷ Successor 1 7 0 ∷ RightLimit 3 3 ∷ [])
    ≡ text "verdict nonempty rounds 1\nopen 1 loop 0000000000000003\nstart 3\nstep back 0000000000000003 to 0\n")
    × (on_rows (Initial 0 ∷ Final 4 ∷ Final 5 ∷ Successor 2 7 2 ∷ LeftLimit 4 2 ∷ RightLimit 2 4 ∷ RightLimit 0 4 ∷ LeftLimit 4 5 ∷ LeftLimit 4 4 ∷ [])
    ≡ text "verdict nonempty rounds 1\nopen 1 loop 0000000000000004\nopen 1 mix 0000000000000004\nstart 0\nstep mix 0000000000000004 to 4\n")
unfolding ℕ_discrete member row_bytes standing_sets same_row set_at row_at row_cause read_row on_turn on_read feed_from feed members reach holds? accepts? load_row closed opened_next next_round walk_of least shortest hex decimal sheet call_in after_load program
targets = (refl, refl, refl)

-- letters above 127 and sets above 2^63 are higher
pub unsigned : (on_rows (Initial 0 ∷ Final 1 ∷ Successor 0 200 1 ∷ Successor 0 97 1 ∷ [])
    ≡ text "verdict nonempty rounds 0\nstart 0\nstep letter 97 to 1\n")
    × (on_rows (Initial 0 ∷ Final 1 ∷ Successor 0 7 0 ∷ Successor 0 7 63 ∷ Successor 63 7 0 ∷ LeftLimit 9223372036854775809 1 ∷ LeftLimit 1 1 ∷ [])
    ≡ text "verdict nonempty rounds 1\nopen 1 loop 0000000000000001\nopen 1 loop 8000000000000001\nstart 0\nstep omega 0000000000000001 to 1\n")
    × (on_rows (Initial 3 ∷ Final 0 ∷ Successor 0 7 0 ∷ Successor 0 7 63 ∷ Successor 63 7 0 ∷ RightLimit 3 9223372036854775809 ∷ RightLimit 3 1 ∷ [])
    ≡ text "verdict nonempty rounds 1\nopen 1 loop 0000000000000001\nopen 1 loop 8000000000000001\nstart 3\nstep back 0000000000000001 to 0\n")
    × (on_rows (Initial 0 ∷ Final 1 ∷ Successor 2 7 2 ∷ LeftLimit 4 2 ∷ RightLimit 2 4 ∷ RightLimit 0 4 ∷ LeftLimit 4 1 ∷ Successor 63 7 63 ∷ LeftLimit 9223372036854775808 63 ∷ RightLimit 63 9223372036854775808 ∷ RightLimit 0 9223372036854775808 ∷ LeftLimit 9223372036854775808 1 ∷ [])
    ≡ text "verdict nonempty rounds 1\nopen 1 loop 0000000000000004\nopen 1 mix 0000000000000004\nopen 1 loop 8000000000000000\nopen 1 mix 8000000000000000\nstart 0\nstep mix 0000000000000004 to 1\n")
unfolding ℕ_discrete member row_bytes standing_sets same_row set_at row_at row_cause read_row on_turn on_read feed_from feed members reach holds? accepts? load_row closed opened_next next_round walk_of least shortest hex decimal sheet call_in after_load program
unsigned = (refl, refl, refl, refl)

-- the lower start before any step, whatever its kind
pub starts_first : (on_rows (Initial 0 ∷ Initial 1 ∷ Final 2 ∷ Successor 0 9 2 ∷ Successor 1 4 2 ∷ [])
    ≡ text "verdict nonempty rounds 0\nstart 0\nstep letter 9 to 2\n")
    × (on_rows (Initial 0 ∷ Initial 1 ∷ Final 4 ∷ Successor 0 7 3 ∷ Successor 3 7 0 ∷ LeftLimit 9 4 ∷ Successor 1 7 1 ∷ LeftLimit 2 4 ∷ [])
    ≡ text "verdict nonempty rounds 1\nopen 1 loop 0000000000000002\nopen 1 loop 0000000000000009\nstart 0\nstep omega 0000000000000009 to 4\n")
    × (on_rows (Initial 0 ∷ Initial 3 ∷ Final 1 ∷ Successor 1 7 1 ∷ RightLimit 0 2 ∷ Successor 3 7 3 ∷ LeftLimit 8 1 ∷ [])
    ≡ text "verdict nonempty rounds 1\nopen 1 loop 0000000000000002\nopen 1 loop 0000000000000008\nstart 0\nstep back 0000000000000002 to 1\n")
    × (on_rows (Initial 0 ∷ Initial 3 ∷ Final 1 ∷ Successor 2 7 2 ∷ LeftLimit 4 2 ∷ RightLimit 2 4 ∷ RightLimit 0 4 ∷ LeftLimit 4 1 ∷ Successor 3 7 3 ∷ LeftLimit 8 1 ∷ [])
    ≡ text "verdict nonempty rounds 1\nopen 1 loop 0000000000000004\nopen 1 mix 0000000000000004\nopen 1 loop 0000000000000008\nstart 0\nstep mix 0000000000000004 to 1\n")
unfolding ℕ_discrete member row_bytes standing_sets same_row set_at row_at row_cause read_row on_turn on_read feed_from feed members reach holds? accepts? load_row closed opened_next next_round walk_of least shortest hex decimal sheet call_in after_load program
starts_first = (refl, refl, refl, refl)

-- at the first different step, whatever the later ones are; a shorter walk before all
pub steps_in_order : (on_rows (Initial 0 ∷ Final 3 ∷ Successor 0 4 2 ∷ Successor 2 9 3 ∷ Successor 0 5 1 ∷ Successor 1 7 3 ∷ [])
    ≡ text "verdict nonempty rounds 0\nstart 0\nstep letter 4 to 2\nstep letter 9 to 3\n")
    × (on_rows (Initial 0 ∷ Initial 1 ∷ Final 3 ∷ Successor 0 4 2 ∷ Successor 2 4 3 ∷ Successor 1 9 3 ∷ [])
    ≡ text "verdict nonempty rounds 0\nstart 1\nstep letter 9 to 3\n")
unfolding ℕ_discrete member row_bytes standing_sets same_row set_at row_at row_cause read_row on_turn on_read feed_from feed members reach holds? accepts? load_row closed opened_next next_round walk_of least shortest hex decimal sheet call_in after_load program
steps_in_order = (refl, refl)

-- a back step from a state of its own set saves two letter steps
pub back_from_inside : on_rows (Initial 0 ∷ Final 6 ∷ Successor 0 7 1 ∷ Successor 1 7 2 ∷ Successor 2 7 0 ∷ RightLimit 0 7 ∷ Successor 2 7 5 ∷ Successor 5 7 5 ∷ LeftLimit 32 6 ∷ [])
    ≡ text "verdict nonempty rounds 1\nopen 1 loop 0000000000000007\nopen 1 loop 0000000000000020\nstart 0\nstep back 0000000000000007 to 2\nstep letter 7 to 5\nstep omega 0000000000000020 to 6\n"
unfolding ℕ_discrete member row_bytes standing_sets same_row set_at row_at row_cause read_row on_turn on_read feed_from feed members reach holds? accepts? load_row closed opened_next next_round walk_of least shortest hex decimal sheet call_in after_load program
back_from_inside = refl

-- request C-18: a walk passes no struck state, though its letter comes first and its set is listed
pub struck_walks : (on_rows (Initial 0 ∷ Final 1 ∷ Final 2 ∷ Successor 0 3 1 ∷ Successor 0 7 2 ∷ Strike 1 ∷ []) ≡ text "verdict nonempty rounds 0\nstart 0\nstep letter 7 to 2\n")
    × (on_rows (Initial 0 ∷ Final 1 ∷ Final 2 ∷ Successor 0 7 0 ∷ LeftLimit 1 1 ∷ LeftLimit 1 2 ∷ Strike 1 ∷ [])
    ≡ text "verdict nonempty rounds 1\nopen 1 loop 0000000000000001\nstart 0\nstep omega 0000000000000001 to 2\n")
    × (on_rows (Initial 0 ∷ Final 1 ∷ Successor 0 7 0 ∷ LeftLimit 1 1 ∷ Strike 1 ∷ []) ≡ text "verdict empty rounds 2\nopen 1 loop 0000000000000001\n")
unfolding ℕ_discrete member row_bytes standing_sets same_row set_at row_at row_cause read_row on_turn on_read feed_from feed members reach holds? accepts? load_row closed opened_next next_round walk_of least shortest hex decimal sheet call_in after_load program
struck_walks = (refl, refl, refl)

-- causes 2 to 5 at the place of the row, the lowest number of the first row that fails
pub refused_lines : (program (1 ∷ 0 ∷ 7 ∷ 0 ∷ []) ≡ text "refused 2 at 2\n")
    × (program (1 ∷ 0 ∷ 6 ∷ []) ≡ text "refused 3 at 2\n")
    × (program (1 ∷ 0 ∷ 3 ∷ 64 ∷ 7 ∷ []) ≡ text "refused 3 at 2\n")
    × (program (1 ∷ 64 ∷ 0 ∷ []) ≡ text "refused 4 at 0\n")
    × (program (4 ∷ 0 ∷ 0 ∷ 0 ∷ 0 ∷ 0 ∷ 0 ∷ 0 ∷ 0 ∷ 64 ∷ []) ≡ text "refused 4 at 0\n")
    × (program (5 ∷ 63 ∷ 0 ∷ 0 ∷ 0 ∷ 0 ∷ 0 ∷ 0 ∷ 0 ∷ 0 ∷ []) ≡ text "refused 5 at 0\n")
unfolding ℕ_discrete member row_bytes standing_sets same_row set_at row_at row_cause read_row on_turn on_read feed_from feed members reach holds? accepts? load_row closed opened_next next_round walk_of least shortest hex decimal sheet call_in after_load program
refused_lines = (refl, refl, refl, refl, refl, refl)

abbrev answer_after : List Call → Call → Outcome
answer_after cs c = (call (run fresh cs) c).answer

-- causes 1 and 8 to 12, and the phase before the rows and before the buffer's length
pub calls : (answer_after (close ∷ []) (load (6 ∷ [])) ≡ refused 1 0)
    × (answer_after (load (1 ∷ 0 ∷ []) ∷ []) (withdraw (1 ∷ 0 ∷ 1 ∷ 0 ∷ [])) ≡ refused 8 2)
    × (answer_after [] (print 0) ≡ refused 9 0)
    × (answer_after (close ∷ round ∷ []) round ≡ refused 10 0)
    × (answer_after (close ∷ []) (print 0) ≡ refused 11 0)
    × (answer_after (close ∷ round ∷ []) (print 22) ≡ refused 12 0)
    × (answer_after (close ∷ round ∷ []) (print 23) ≡ wrote (text "verdict empty rounds 1\n"))
    × (answer_after (load (2 ∷ 5 ∷ 1 ∷ 3 ∷ []) ∷ []) (save 4) ≡ wrote (1 ∷ 3 ∷ 2 ∷ 5 ∷ []))
    × (answer_after (load (2 ∷ 5 ∷ 1 ∷ 3 ∷ []) ∷ withdraw (2 ∷ 5 ∷ []) ∷ close ∷ reopen ∷ []) (save 9) ≡ wrote (1 ∷ 3 ∷ []))
    × (answer_after (load (6 ∷ 0 ∷ 5 ∷ 1 ∷ 0 ∷ 0 ∷ 0 ∷ 0 ∷ 0 ∷ 0 ∷ 0 ∷ 1 ∷ 6 ∷ 0 ∷ []) ∷ []) (save 12) ≡ wrote (5 ∷ 1 ∷ 0 ∷ 0 ∷ 0 ∷ 0 ∷ 0 ∷ 0 ∷ 0 ∷ 1 ∷ 6 ∷ 0 ∷ []))
    × (answer_after (load (6 ∷ 0 ∷ []) ∷ withdraw (6 ∷ 0 ∷ []) ∷ []) (withdraw (6 ∷ 0 ∷ [])) ≡ refused 8 0)
unfolding ℕ_discrete member row_bytes standing_sets same_row set_at row_at row_cause read_row on_turn on_read feed_from feed members reach holds? accepts? load_row withdraw_row closed opened_next next_round walk_of least shortest hex decimal sheet call_in
calls = (refl, refl, refl, refl, refl, refl, refl, refl, refl, refl, refl)

-- each call in each phase: open, running, settled
pub phases : (answer_after [] (load []) ≡ done)
    × (answer_after (close ∷ []) (load []) ≡ refused 1 0)
    × (answer_after (close ∷ round ∷ []) (load []) ≡ refused 1 0)
    × (answer_after [] (withdraw []) ≡ done)
    × (answer_after (close ∷ []) (withdraw []) ≡ refused 1 0)
    × (answer_after (close ∷ round ∷ []) (withdraw []) ≡ refused 1 0)
    × (answer_after [] close ≡ done)
    × (answer_after (close ∷ []) close ≡ refused 1 0)
    × (answer_after (close ∷ round ∷ []) close ≡ refused 1 0)
    × (answer_after [] round ≡ refused 9 0)
    × (answer_after (close ∷ []) round ≡ done)
    × (answer_after (close ∷ round ∷ []) round ≡ refused 10 0)
    × (answer_after [] reopen ≡ refused 9 0)
    × (answer_after (close ∷ []) reopen ≡ done)
    × (answer_after (close ∷ round ∷ []) reopen ≡ done)
    × (answer_after [] (print 23) ≡ refused 9 0)
    × (answer_after (close ∷ []) (print 23) ≡ refused 11 0)
    × (answer_after (close ∷ round ∷ []) (print 23) ≡ wrote (text "verdict empty rounds 1\n"))
    × (answer_after (load (1 ∷ 3 ∷ []) ∷ []) (save 1) ≡ refused 12 0)
    × (answer_after (load (1 ∷ 3 ∷ []) ∷ []) (save 2) ≡ wrote (1 ∷ 3 ∷ []))
    × (answer_after (load (1 ∷ 3 ∷ []) ∷ close ∷ []) (save 2) ≡ wrote (1 ∷ 3 ∷ []))
    × (answer_after (load (1 ∷ 3 ∷ []) ∷ close ∷ round ∷ []) (save 2) ≡ wrote (1 ∷ 3 ∷ []))
unfolding ℕ_discrete member row_bytes standing_sets same_row set_at row_at row_cause read_row on_turn on_read feed_from feed members reach holds? accepts? load_row withdraw_row closed opened_next next_round walk_of least shortest hex decimal sheet call_in
phases = (refl, refl, refl, refl, refl, refl, refl, refl, refl, refl, refl, refl, refl, refl, refl, refl, refl, refl, refl, refl, refl, refl)

-- request C-22: a verdict in each phase, of the rows that stand, after which the machine goes on; a loop that a smaller set's gives, a mix, a set that does
-- not loop, and a struck state; a batch, and one that is refused
pub verdicts : (answer_after [] verdict ≡ decided Empty)
    × (answer_after (close ∷ []) verdict ≡ decided Empty)
    × (answer_after (close ∷ round ∷ []) verdict ≡ decided Empty)
    × (answer_after (load (1 ∷ 0 ∷ 2 ∷ 0 ∷ []) ∷ []) verdict ≡ decided NonEmpty)
    × (answer_after (close ∷ verdict ∷ []) round ≡ done)
    × (verdict_of (Initial 0 ∷ Final 2 ∷ Successor 0 7 0 ∷ Successor 1 7 0 ∷ LeftLimit 1 1 ∷ LeftLimit 3 2 ∷ []) ≡ NonEmpty)
    × (verdict_of (Initial 0 ∷ Final 1 ∷ Successor 1 97 0 ∷ LeftLimit 3 1 ∷ RightLimit 0 3 ∷ []) ≡ NonEmpty)
    × (verdict_of (Initial 0 ∷ Final 3 ∷ Successor 0 7 2 ∷ Successor 2 7 0 ∷ Successor 1 7 0 ∷ LeftLimit 5 1 ∷ LeftLimit 3 3 ∷ []) ≡ Empty)
    × (verdict_of (Initial 0 ∷ Final 1 ∷ Successor 0 7 0 ∷ LeftLimit 1 1 ∷ Strike 1 ∷ []) ≡ Empty)
    × (batch_verdict (1 ∷ 0 ∷ 2 ∷ 0 ∷ []) ≡ decided NonEmpty)
    × (batch_verdict (1 ∷ 0 ∷ 0 ∷ []) ≡ refused 2 2)
unfolding ℕ_discrete member row_bytes standing_sets same_row set_at row_at row_cause read_row on_turn on_read feed_from feed members reach holds? accepts? finds? found rising? load_row closed opened_next next_round verdict_of call_in after_load
verdicts = (refl, refl, refl, refl, refl, refl, refl, refl, refl, refl, refl)

-- request C-11: names of 0, 1, 8 and 9 bytes, the bytes beside a and z, and capitals
pub names : (name? [] ≡ false)
    × (name? (text "a") ≡ true)
    × (name? (text "z") ≡ true)
    × (name? (text "abcdwxyz") ≡ true)
    × (name? (text "abcdwxyza") ≡ false)
    × (name? (text "`") ≡ false)
    × (name? (text "{") ≡ false)
    × (name? (text "aAa") ≡ false)
    × (name? (text "a a") ≡ false)
unfolding name?
names = (refl, refl, refl, refl, refl, refl, refl, refl, refl)

-- what the calls of a list answer
abbrev answers : Marked → List MarkedCall → List Outcome
answers x [] = []
answers x (c ∷ cs) = (marked_call x c).answer ∷ answers (marked_call x c).machine cs

-- four names and no fifth, the same name anew at four; 14 before 15 and 16; no other call is needed between
pub marks : answers fresh_marked
    (return_to (text "a") ∷ mark (text "a") ∷ mark (text "b") ∷ mark (text "c") ∷ mark (text "d") ∷ mark (text "e") ∷ mark (text "a") ∷ mark (text "A") ∷ return_to (text "e") ∷ return_to [] ∷ return_to (text "d") ∷ [])
    ≡ refused 15 0 ∷ done ∷ done ∷ done ∷ done ∷ refused 16 0 ∷ done ∷ refused 14 0 ∷ refused 15 0 ∷ refused 14 0 ∷ done ∷ []
unfolding name? marked_call
marks = refl

-- what is marked when open, running and settled is back from every phase, with its rows, its rounds and its openings; a sheet then is that of these rows
pub returns : answers fresh_marked
    (mark (text "o") ∷ on (load (1 ∷ 0 ∷ 2 ∷ 0 ∷ [])) ∷ on close ∷ mark (text "s") ∷ return_to (text "o") ∷ on (save 4) ∷ on close ∷ mark (text "r") ∷ return_to (text "s") ∷ on (print 99)
    ∷ return_to (text "r") ∷ on (print 99) ∷ on round ∷ on (print 99) ∷ return_to (text "s") ∷ on (save 4) ∷ return_to (text "o") ∷ on (print 99)
    ∷ on (load (batch_of (Successor 0 7 0 ∷ LeftLimit 1 1 ∷ []))) ∷ on close ∷ on round ∷ on round ∷ mark (text "e") ∷ on (print 99) ∷ return_to (text "s") ∷ return_to (text "e") ∷ on (print 99) ∷ [])
    ≡ done ∷ done ∷ done ∷ done ∷ done ∷ wrote [] ∷ done ∷ done ∷ done ∷ wrote (text "verdict nonempty rounds 0\nstart 0\n")
    ∷ done ∷ refused 11 0 ∷ done ∷ wrote (text "verdict empty rounds 1\n") ∷ done ∷ wrote (1 ∷ 0 ∷ 2 ∷ 0 ∷ []) ∷ done ∷ refused 9 0
    ∷ done ∷ done ∷ done ∷ done ∷ done ∷ wrote (text "verdict empty rounds 2\nopen 1 loop 0000000000000001\n") ∷ done ∷ done ∷ wrote (text "verdict empty rounds 2\nopen 1 loop 0000000000000001\n") ∷ []
unfolding ℕ_discrete member row_bytes standing_sets same_row set_at row_at row_cause read_row on_turn on_read feed_from feed members reach holds? accepts? load_row withdraw_row closed opened_next next_round walk_of least shortest hex decimal sheet call_in name? marked_call
returns = refl

-- the same name marks anew: what was kept under it is gone, and other names keep theirs
pub marks_anew : answers fresh_marked
    (mark (text "b") ∷ mark (text "a") ∷ on (load (1 ∷ 3 ∷ [])) ∷ mark (text "a") ∷ on (load (2 ∷ 3 ∷ [])) ∷ return_to (text "a") ∷ on (save 9) ∷ return_to (text "b") ∷ on (save 9) ∷ [])
    ≡ done ∷ done ∷ done ∷ done ∷ done ∷ done ∷ wrote (1 ∷ 3 ∷ []) ∷ done ∷ wrote [] ∷ []
unfolding ℕ_discrete member row_bytes standing_sets same_row set_at row_at row_cause read_row on_turn on_read feed_from feed load_row call_in name? marked_call
marks_anew = refl

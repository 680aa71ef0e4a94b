-- Document 01, "Sheets to check": cases A to K, computed from the definitions; behind them the case of request C-16.
use Prim.Native.Nat.{ℕ}
use mathlib.Core.Path.{◌≡◌, refl}
use mathlib.Core.List.{List, [], ◌∷◌}
use native.Mathlib.Decide.{ℕ_discrete}
use Rattle.masks.specs.Mask.{member}
use Rattle.rows.specs.declared.Row.{Row}
use Rattle.rows.specs.declared.Row.TheVariants.{Initial, Final, Successor, LeftLimit, RightLimit}
use Rattle.rows.specs.Rows.{row_bytes, batch_of, standing_sets, same_row}
use Rattle.rows.specs.Reading.{set_at, row_at, row_cause, read_row}
use Rattle.rows.specs.Batch.{on_turn, on_read, feed_from, feed}
use Rattle.orderings.specs.Steps.{members}
use Rattle.orderings.specs.Decide.{reach, holds?, accepts?}
use Rattle.machine.specs.Machine.{load_row, closed, opened_next, next_round}
use Rattle.machine.specs.Search.{walk_of, least, shortest}
use Rattle.machine.specs.Text.{text, hex, decimal}
use Rattle.machine.specs.Sheet.{sheet}
use Rattle.machine.specs.Calls.{call_in}
use Rattle.machine.specs.Program.{after_load, program}

abbrev A : List ℕ
A = 0x01 ∷ 0x00 ∷ 0x02 ∷ 0x01 ∷ 0x03 ∷ 0x01 ∷ 0x61 ∷ 0x00 ∷ 0x04 ∷ 0x00 ∷ 0x00 ∷ 0x00 ∷ 0x00 ∷ 0x00 ∷ 0x00 ∷ 0x00 ∷ 0x03 ∷ 0x01 ∷ 0x05 ∷ 0x00 ∷ 0x00 ∷ 0x00 ∷ 0x00 ∷ 0x00 ∷ 0x00 ∷ 0x00 ∷ 0x00 ∷ 0x03 ∷ []

abbrev on_rows : List Row → List ℕ
on_rows rows = program (batch_of rows)

pub cases : (program A ≡ text "verdict nonempty rounds 1\nopen 1 mix 0000000000000003\nstart 0\nstep mix 0000000000000003 to 1\n")
    × (on_rows (Initial 0 ∷ Final 1 ∷ Successor 1 0x61 0 ∷ LeftLimit 3 1 ∷ []) ≡ text "verdict empty rounds 1\n")
    × (on_rows (Initial 0 ∷ Final 1 ∷ Successor 0 7 0 ∷ LeftLimit 1 1 ∷ []) ≡ text "verdict nonempty rounds 1\nopen 1 loop 0000000000000001\nstart 0\nstep omega 0000000000000001 to 1\n")
    × (on_rows (Initial 0 ∷ Final 2 ∷ Successor 0 7 0 ∷ Successor 1 7 0 ∷ LeftLimit 1 1 ∷ LeftLimit 3 2 ∷ [])
    ≡ text "verdict nonempty rounds 2\nopen 1 loop 0000000000000001\nopen 2 loop 0000000000000003\nstart 0\nstep omega 0000000000000003 to 2\n")
    × (on_rows (Initial 0 ∷ Final 0 ∷ []) ≡ text "verdict nonempty rounds 0\nstart 0\n")
    × (on_rows [] ≡ text "verdict empty rounds 1\n")
    × (on_rows (Initial 0 ∷ Final 1 ∷ LeftLimit 1 1 ∷ []) ≡ text "verdict empty rounds 1\n")
    × (on_rows (Initial 1 ∷ Final 0 ∷ Successor 0 7 0 ∷ RightLimit 1 1 ∷ []) ≡ text "verdict nonempty rounds 1\nopen 1 loop 0000000000000001\nstart 1\nstep back 0000000000000001 to 0\n")
    × (on_rows (Initial 0 ∷ Final 2 ∷ Successor 0 7 1 ∷ Successor 1 7 0 ∷ LeftLimit 1 2 ∷ []) ≡ text "verdict empty rounds 1\n")
    × (on_rows (Initial 0 ∷ Final 3 ∷ Successor 0 7 2 ∷ Successor 2 7 0 ∷ Successor 1 7 0 ∷ LeftLimit 5 1 ∷ LeftLimit 3 3 ∷ []) ≡ text "verdict empty rounds 2\nopen 1 loop 0000000000000005\n")
    × (on_rows (Initial 0 ∷ Final 1 ∷ RightLimit 0 1 ∷ LeftLimit 1 0 ∷ LeftLimit 1 1 ∷ []) ≡ text "verdict empty rounds 1\n")
    × (on_rows (Initial 0 ∷ Final 1 ∷ Successor 0 7 0 ∷ LeftLimit 5 0 ∷ LeftLimit 5 1 ∷ RightLimit 0 5 ∷ LeftLimit 5 2 ∷ RightLimit 2 5 ∷ [])
    ≡ text "verdict nonempty rounds 1\nopen 1 mix 0000000000000005\nstart 0\nstep mix 0000000000000005 to 1\n")
unfolding ℕ_discrete member row_bytes standing_sets same_row set_at row_at row_cause read_row on_turn on_read feed_from feed members reach holds? accepts? load_row closed opened_next next_round walk_of least shortest hex decimal sheet call_in after_load program
cases = (refl, refl, refl, refl, refl, refl, refl, refl, refl, refl, refl, refl)

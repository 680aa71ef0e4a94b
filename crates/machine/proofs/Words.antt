-- Request C-12: expressions, computed: of the cases and of the request's sentences, one by one (`case_words`, `letters`, `tours`, `rounds`, `pieces`, `nested`), the
-- numbers that refuse one (`refused_words`), and of batches (`batch_words`).
use mathlib.Core.Path.{◌≡◌, refl}
use mathlib.Core.List.{List, [], ◌∷◌}
use native.Mathlib.Decide.{ℕ_discrete}
use Rattle.masks.specs.Mask.{member}
use Rattle.rows.specs.declared.Row.{Row}
use Rattle.rows.specs.declared.Row.TheVariants.{Initial, Final, Successor, LeftLimit, RightLimit}
use Rattle.rows.specs.Rows.{row_bytes, standing_sets, same_row}
use Rattle.rows.specs.Reading.{set_at, row_at, row_cause, read_row}
use Rattle.rows.specs.Batch.{on_turn, on_read, feed_from, feed}
use Rattle.orderings.specs.Steps.{members}
use Rattle.orderings.specs.Decide.{reach, holds?, accepts?}
use Rattle.machine.specs.Machine.{open_with, fresh, load_row, closed, opened_next, next_round}
use Rattle.machine.specs.Search.{walk_of, least, shortest}
use Rattle.machine.specs.Text.{text, decimal}
use Rattle.machine.specs.Word.{round_trip}
use Rattle.machine.specs.Expression.{walk_by, least_by, nearest, piece, tour, earlier, part, expression_of}
use Rattle.machine.specs.Calls.{close, expression, Outcome, wrote, refused, call_in, call, run, settle}
use Rattle.machine.specs.Program.{after_load, batch_expression}

-- what the call answers on rows that are settled
abbrev word : List Row → Outcome
word rows = (call (run (open_with rows) settle) (expression 99)).answer

-- cases A, C, D with two letters, E, H, and that of request C-16
pub case_words : (word (Initial 0 ∷ Final 1 ∷ Successor 1 97 0 ∷ LeftLimit 3 1 ∷ RightLimit 0 3 ∷ []) ≡ wrote (text "sh(97,97)"))
    × (word (Initial 0 ∷ Final 1 ∷ Successor 0 7 0 ∷ LeftLimit 1 1 ∷ []) ≡ wrote (text "(7)w"))
    × (word (Initial 0 ∷ Final 2 ∷ Successor 0 7 0 ∷ Successor 1 8 0 ∷ LeftLimit 1 1 ∷ LeftLimit 3 2 ∷ []) ≡ wrote (text "((7)w.8)w"))
    × (word (Initial 0 ∷ Final 0 ∷ []) ≡ wrote (text "e"))
    × (word (Initial 1 ∷ Final 0 ∷ Successor 0 7 0 ∷ RightLimit 1 1 ∷ []) ≡ wrote (text "(7)v"))
    × (word (Initial 0 ∷ Final 1 ∷ Successor 0 7 0 ∷ LeftLimit 5 0 ∷ LeftLimit 5 1 ∷ RightLimit 0 5 ∷ LeftLimit 5 2 ∷ RightLimit 2 5 ∷ []) ≡ wrote (text "sh(7,e)"))
unfolding ℕ_discrete member row_bytes standing_sets same_row members reach holds? accepts? closed opened_next next_round walk_of least shortest decimal walk_by least_by nearest piece round_trip tour earlier part expression_of call_in
case_words = (refl, refl, refl, refl, refl, refl)

-- letters are decimal, parts joined by dots
pub letters : word (Initial 0 ∷ Final 2 ∷ Successor 0 255 1 ∷ Successor 1 0 2 ∷ []) ≡ wrote (text "255.0")
unfolding ℕ_discrete member row_bytes standing_sets same_row members reach holds? accepts? closed opened_next next_round walk_of least shortest decimal walk_by least_by nearest piece round_trip tour earlier part expression_of call_in
letters = refl

-- from where an omega step starts and where a back step ends, rising to the highest state, on from the lowest, and back; the lowest letter of two; inside the
-- set, where a step from 0 to 1 with 3 in its content would be fewer
pub tours : (word (Initial 1 ∷ Final 3 ∷ Successor 0 1 1 ∷ Successor 0 2 2 ∷ Successor 1 10 0 ∷ Successor 1 12 2 ∷ Successor 2 20 0 ∷ Successor 2 21 1 ∷ LeftLimit 7 3 ∷ []) ≡ wrote (text "(12.20.1)w"))
    × (word (Initial 0 ∷ Final 4 ∷ Successor 0 5 1 ∷ Successor 1 6 2 ∷ Successor 2 7 0 ∷ Successor 2 8 3 ∷ Successor 3 9 3 ∷ RightLimit 0 7 ∷ LeftLimit 8 4 ∷ []) ≡ wrote (text "(7.5.6)v.8.(9)w"))
    × (word (Initial 1 ∷ Final 2 ∷ Successor 0 5 1 ∷ Successor 1 6 0 ∷ LeftLimit 3 2 ∷ []) ≡ wrote (text "(6.5)w"))
    × (word (Initial 2 ∷ Final 3 ∷ Successor 0 5 1 ∷ Successor 1 6 0 ∷ Successor 1 9 3 ∷ RightLimit 2 3 ∷ []) ≡ wrote (text "(6.5)v.9"))
    × (word (Initial 0 ∷ Final 2 ∷ Successor 0 9 1 ∷ Successor 0 4 1 ∷ Successor 1 6 0 ∷ LeftLimit 3 2 ∷ []) ≡ wrote (text "(4.6)w"))
    × (word (Initial 0 ∷ Final 4 ∷ Successor 0 5 2 ∷ Successor 2 6 2 ∷ Successor 1 7 0 ∷ Successor 0 1 3 ∷ Successor 3 1 0 ∷ LeftLimit 4 1 ∷ LeftLimit 9 1 ∷ LeftLimit 7 4 ∷ []) ≡ wrote (text "(5.(6)w.7.5.(6)w.7)w"))
unfolding ℕ_discrete member row_bytes standing_sets same_row members reach holds? accepts? closed opened_next next_round walk_of least shortest decimal walk_by least_by nearest piece round_trip tour earlier part expression_of call_in
tours = (refl, refl, refl, refl, refl, refl)

-- with claims opened before that claim: {0} and {0,1,2} loop in one round, {0,1,2,3}, and {5,6}, in the next
pub rounds : (word (Initial 0 ∷ Final 3 ∷ Successor 0 5 2 ∷ Successor 2 6 1 ∷ Successor 1 7 0 ∷ Successor 0 9 0 ∷ LeftLimit 1 1 ∷ LeftLimit 7 3 ∷ []) ≡ wrote (text "(5.6.7.5.6.7)w"))
    × (word (Initial 3 ∷ Final 4 ∷ Successor 0 5 2 ∷ Successor 2 6 1 ∷ Successor 1 7 0 ∷ Successor 0 9 0 ∷ Successor 3 8 0 ∷ LeftLimit 1 1 ∷ LeftLimit 7 3 ∷ LeftLimit 15 4 ∷ []) ≡ wrote (text "(8.(9)w.7.5.(6.7.5.6.7.5)w)w"))
    × (word (Initial 2 ∷ Final 4 ∷ Successor 0 5 2 ∷ Successor 2 6 1 ∷ Successor 1 7 0 ∷ Successor 0 9 0 ∷ Successor 5 1 5 ∷ Successor 6 2 5 ∷ LeftLimit 1 1 ∷ LeftLimit 7 5 ∷ LeftLimit 32 6 ∷ LeftLimit 96 4 ∷ []) ≡ wrote (text "(6.7.5.6.7.5)w.((1)w.2)w"))
    × (word (Initial 2 ∷ Final 0 ∷ Successor 0 7 0 ∷ Successor 0 8 1 ∷ RightLimit 1 1 ∷ RightLimit 2 3 ∷ []) ≡ wrote (text "(8.(7)v)v"))
unfolding ℕ_discrete member row_bytes standing_sets same_row members reach holds? accepts? closed opened_next next_round walk_of least shortest decimal walk_by least_by nearest piece round_trip tour earlier part expression_of call_in
rounds = (refl, refl, refl, refl)

-- one for each state, rising: the state at an end of a step and not merely in a content, fewest steps, then the lower start; at a gap one with a step, else `e`
pub pieces : (word (Initial 3 ∷ Final 4 ∷ Successor 0 5 1 ∷ Successor 1 6 0 ∷ LeftLimit 3 2 ∷ RightLimit 3 7 ∷ LeftLimit 7 4 ∷ LeftLimit 7 0 ∷ RightLimit 2 7 ∷ []) ≡ wrote (text "sh((5.6)w,5.(6.5)w,(5.6)w)"))
    × (word (Initial 3 ∷ Final 4 ∷ Successor 0 9 2 ∷ Successor 1 4 2 ∷ RightLimit 3 7 ∷ LeftLimit 7 4 ∷ LeftLimit 7 0 ∷ LeftLimit 7 1 ∷ RightLimit 2 7 ∷ []) ≡ wrote (text "sh(9,4,9)"))
    × (word (Initial 3 ∷ Final 4 ∷ Successor 0 5 1 ∷ Successor 1 4 2 ∷ RightLimit 3 7 ∷ LeftLimit 7 4 ∷ LeftLimit 7 0 ∷ LeftLimit 7 1 ∷ RightLimit 2 7 ∷ []) ≡ wrote (text "sh(5.4,4,4)"))
    × (word (Initial 0 ∷ Final 3 ∷ Successor 1 98 0 ∷ Successor 2 98 0 ∷ Successor 3 97 3 ∷ LeftLimit 9 0 ∷ LeftLimit 9 1 ∷ LeftLimit 9 2 ∷ LeftLimit 9 3 ∷ RightLimit 0 9 ∷ RightLimit 2 9 ∷ RightLimit 3 9 ∷ []) ≡ wrote (text "sh(e,97)"))
    × (word (Initial 2 ∷ Final 3 ∷ Successor 0 97 0 ∷ Successor 1 98 0 ∷ Successor 1 98 1 ∷ Successor 3 97 0 ∷ LeftLimit 2 1 ∷ LeftLimit 3 0 ∷ LeftLimit 3 2 ∷ LeftLimit 3 3 ∷ RightLimit 0 2 ∷ RightLimit 0 3 ∷ RightLimit 1 2 ∷ RightLimit 2 2 ∷ RightLimit 2 3 ∷ []) ≡ wrote (text "sh(97,(98)v.98)"))
unfolding ℕ_discrete member row_bytes standing_sets same_row members reach holds? accepts? closed opened_next next_round walk_of least shortest decimal walk_by least_by nearest piece round_trip tour earlier part expression_of call_in
pieces = (refl, refl, refl, refl, refl)

-- tours within tours; a set that loops by its own mix of an earlier round
pub nested : (word (Initial 4 ∷ Final 2 ∷ Successor 0 0 3 ∷ Successor 0 97 4 ∷ Successor 3 97 6 ∷ Successor 4 0 0 ∷ LeftLimit 25 3 ∷ LeftLimit 89 2 ∷ RightLimit 3 17 ∷ RightLimit 3 25 ∷ RightLimit 6 25 ∷ []) ≡ wrote (text "((0.0.(0.97)v)w.97.(0.(0.97)v.0)v.0.(0.97)v)w"))
    × (word (Initial 1 ∷ Final 4 ∷ Successor 1 97 0 ∷ Successor 2 6 3 ∷ Successor 3 8 3 ∷ LeftLimit 3 1 ∷ RightLimit 0 3 ∷ LeftLimit 3 2 ∷ LeftLimit 8 2 ∷ LeftLimit 12 1 ∷ LeftLimit 15 4 ∷ []) ≡ wrote (text "((97.sh(97,97))w.6.((8)w.6)w.97.(sh(97,97).97)w)w"))
unfolding ℕ_discrete member row_bytes standing_sets same_row members reach holds? accepts? closed opened_next next_round walk_of least shortest decimal walk_by least_by nearest piece round_trip tour earlier part expression_of call_in
nested = (refl, refl)

-- 9 when open, 11 when running, 17 where the verdict is empty, before the buffer's length; 12 where a byte is missing, and the exact length is accepted
pub refused_words : ((call fresh (expression 0)).answer ≡ refused 9 0)
    × ((call fresh (expression 99)).answer ≡ refused 9 0)
    × ((call (run fresh (close ∷ [])) (expression 0)).answer ≡ refused 11 0)
    × ((call (run fresh (close ∷ [])) (expression 99)).answer ≡ refused 11 0)
    × ((call (run fresh settle) (expression 0)).answer ≡ refused 17 0)
    × ((call (run fresh settle) (expression 99)).answer ≡ refused 17 0)
    × ((call (run (open_with (Initial 0 ∷ Final 1 ∷ Successor 0 7 0 ∷ LeftLimit 1 1 ∷ [])) settle) (expression 3)).answer ≡ refused 12 0)
    × ((call (run (open_with (Initial 0 ∷ Final 1 ∷ Successor 0 7 0 ∷ LeftLimit 1 1 ∷ [])) settle) (expression 4)).answer ≡ wrote (text "(7)w"))
unfolding ℕ_discrete member row_bytes standing_sets same_row members reach holds? accepts? closed opened_next next_round walk_of least shortest decimal walk_by least_by nearest piece round_trip tour earlier part expression_of call_in
refused_words = (refl, refl, refl, refl, refl, refl, refl, refl)

-- one batch: the exact buffer and one byte less, an empty verdict, a load that is refused, whatever the buffer
pub batch_words : (batch_expression (1 ∷ 0 ∷ 2 ∷ 1 ∷ 3 ∷ 0 ∷ 7 ∷ 1 ∷ []) 1 ≡ wrote (text "7"))
    × (batch_expression (1 ∷ 0 ∷ 2 ∷ 0 ∷ []) 0 ≡ refused 12 0)
    × (batch_expression (1 ∷ 0 ∷ []) 99 ≡ refused 17 0)
    × (batch_expression (1 ∷ 0 ∷ []) 0 ≡ refused 17 0)
    × (batch_expression (1 ∷ 0 ∷ 0 ∷ []) 99 ≡ refused 2 2)
    × (batch_expression (1 ∷ 0 ∷ 0 ∷ []) 0 ≡ refused 2 2)
unfolding ℕ_discrete member row_bytes standing_sets same_row set_at row_at row_cause read_row on_turn on_read feed_from feed members reach holds? accepts? load_row closed opened_next next_round walk_of least shortest decimal walk_by least_by nearest piece round_trip tour earlier part expression_of call_in after_load
batch_words = (refl, refl, refl, refl, refl, refl)

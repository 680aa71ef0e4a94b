-- `rows::check_state` meets its contract: the tests of kinds 1, 2 and 6 in their order.
use mathlib.Core.Path.{◌≡◌}
use mathlib.Core.List.{[], ◌∷◌}
use lib.ListN.{get_or}
use borrow.Author.Tests.{lt-ltb, le-ltb}
use Rattle.std.proofs.lemmas.Result.{err_from_is_err_and}
use Rattle.rows.specs.Reading.{row_cause}
use Rattle.rows.proofs.Reading.{tests_cause, state_tests, last_state}
use Rattle.rows.proofs.check_state.Goals.{Start}
use Rattle.rows.proofs.check_state.Goals as goal

tests : (s : Start) → let l = s.args.rest.now in row_cause (get_or l 0 0) l ≡ tests_cause 2 (1 ∷ []) [] l
tests s = state_tests _ _ s.requires.0 s.requires.1

pub returns-in_err-check_width : goal.returns-in_err-check_width
returns-in_err-check_width c =
    let p = err_from_is_err_and c.from_residual.result c.from_residual.ensures.1 in
    let e = c.in_err-check_width.ensures in
    rw (p.1, p.2, e.0, tests (goal.at.returns-in_err-check_width c).Start, lt-ltb _ _ e.1)

pub returns : goal.returns
returns c = rw (tests (goal.at.returns c).Start, le-ltb _ _ c.in_ok-check_width.ensures) (last_state _ _ c.check_low.ensures)

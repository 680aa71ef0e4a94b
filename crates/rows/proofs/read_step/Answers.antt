-- `rows::read_step` meets its contract: a row without a cause is that of its kind.
use Prim.Native.Nat.{◌≤◌}
use native.Mathlib.Omega.{arith}
use lib.ListN.{length}
use Rattle.std.proofs.lemmas.Result.{err_from_is_err_and}
use Rattle.rows.specs.Reading.{row_at}
use Rattle.rows.proofs.Reading.{cause_refuses, cause_none, cause_sound}
use Rattle.rows.proofs.read_step.Goals.{In_ok-check_step}
use Rattle.rows.proofs.read_step.Goals as goal

long : (c : In_ok-check_step) → 4 ≤ length c.args.rest.now
long c = omega (arith, (cause_sound c.args.rest.now tt 3 c.requires.1 c.in_ok-check_step.ensures).0.whole)

pub returns-in_err-check_step : goal.returns-in_err-check_step
returns-in_err-check_step c =
    let p = err_from_is_err_and c.from_residual.result c.from_residual.ensures.1 in
    rw (p.1, p.2) (cause_refuses c.args.rest.now tt c.requires.0 c.in_err-check_step.ensures)

pub bounds-rest-1 : goal.bounds-rest-1
bounds-rest-1 c = omega (arith, long (goal.at.bounds-rest-1 c).In_ok-check_step)

pub bounds-rest-2 : goal.bounds-rest-2
bounds-rest-2 c = omega (arith, long (goal.at.bounds-rest-2 c).In_ok-check_step)

pub bounds-rest-3 : goal.bounds-rest-3
bounds-rest-3 c = omega (arith, long (goal.at.bounds-rest-3 c).In_ok-check_step)

pub returns : goal.returns
unfolding row_at
returns c = cause_none c.args.rest.now tt 3 c.requires c.in_ok-check_step.ensures

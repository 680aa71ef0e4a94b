-- `rows::read_state` meets its contract: a row without a cause is that of its kind.
use Prim.Native.Nat.{ℕ}
use mathlib.Core.Path.{◌≡◌, refl}
use native.Mathlib.Omega.{arith}
use Rattle.std.proofs.Common.{Ok}
use Rattle.std.proofs.lemmas.Result.{err_from_is_err_and}
use Rattle.rows.specs.Reading.{row_at, read_row}
use Rattle.rows.proofs.Reading.{third_kind, cause_refuses, cause_none, cause_sound}
use Rattle.rows.proofs.read_state.Goals.{In_ok-check_state}
use Rattle.rows.proofs.read_state.Goals as goal

clean : (c : In_ok-check_state) → let a = c.args in Ok (row_at a.kind a.rest.now, 2) ≡ read_row a.rest.now
clean c = let p = c.requires in
    rw p.2 at (cause_none c.args.rest.now tt c.args.kind p.0 c.in_ok-check_state.ensures)

pub check_state-requires : goal.check_state-requires
check_state-requires c = let p = c.requires in rw p.0.1 (p.1, p.2)

pub returns-in_err-check_state : goal.returns-in_err-check_state
returns-in_err-check_state c =
    let p = err_from_is_err_and c.from_residual.result c.from_residual.ensures.1 in
    rw (p.1, p.2) (cause_refuses c.args.rest.now tt c.requires.0.0 c.in_err-check_state.ensures)

pub bounds-rest-1 : goal.bounds-rest-1
bounds-rest-1 c = let p = c.requires in
    omega (arith, p.2, (cause_sound c.args.rest.now tt c.args.kind p.0.1 c.in_ok-check_state.ensures).0.whole)

pub returns-in-1 : goal.returns-in-1
unfolding row_at
returns-in-1 c = rw c.in-1.is at (clean (goal.at.returns-in-1 c).In_ok-check_state)

pub returns-in-2 : goal.returns-in-2
unfolding row_at
returns-in-2 c = rw c.in-2.is at (clean (goal.at.returns-in-2 c).In_ok-check_state)

pub returns-in_default : goal.returns-in_default
unfolding row_at
returns-in_default c =
    let e = third_kind c.args.kind c.requires.1 c.requires.2 c.in_default.in_default-own.rest.0.1 c.in_default.in_default-own.rest.1 in
    rw e at (clean (goal.at.returns-in_default c).In_ok-check_state)

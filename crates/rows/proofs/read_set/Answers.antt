-- `rows::read_set` meets its contract: the tests of kinds 4 and 5 in their order, at the places of the kind.
use Prim.Native.Nat.{◌≤◌}
use mathlib.Core.Path.{sym, ◌∙◌}
use native.Mathlib.Omega.{arith}
use lib.ListN.{length, get_or}
use borrow.Author.Tests.{lt-ltb, le-ltb, eq-eqb, ne_eqb}
use Rattle.std.proofs.lemmas.Result.{err_from_is_err_and}
use Rattle.rows.specs.Reading.{set_at}
use Rattle.rows.proofs.Reading.{Limit, limit_of}
use Rattle.rows.proofs.read_set.Goals.{Start, In_ok-check_width}
use Rattle.rows.proofs.read_set.Goals as goal

limit : (s : Start) → let a = s.args in Limit a.rest.now a.state_place a.set_place (get_or a.rest.now 0 0)
limit s = limit_of _ _ _ _ s.requires

long : (c : In_ok-check_width) → 10 ≤ length c.args.rest.now
long c = c.in_ok-check_width.ensures

pub returns-in_err-check_width : goal.returns-in_err-check_width
returns-in_err-check_width c =
    let p = err_from_is_err_and c.from_residual.result c.from_residual.ensures.1 in
    let e = c.in_err-check_width.ensures in
    rw (p.1, p.2, e.0, (limit (goal.at.returns-in_err-check_width c).Start).tests, lt-ltb _ _ e.1)

pub bounds-rest-state_place : goal.bounds-rest-state_place
bounds-rest-state_place c = omega (arith, (limit (goal.at.bounds-rest-state_place c).Start).places, long (goal.at.bounds-rest-state_place c).In_ok-check_width)

pub returns-in_err-check_low : goal.returns-in_err-check_low
returns-in_err-check_low c =
    let p = err_from_is_err_and c.from_residual-in_err-check_low.result c.from_residual-in_err-check_low.ensures.1 in
    let e = c.in_err-check_low.ensures in
    rw (p.1, p.2, e.0, (limit (goal.at.returns-in_err-check_low c).Start).tests, le-ltb _ _ c.in_ok-check_width.ensures, lt-ltb _ _ e.1)

pub set_at-requires : goal.set_at-requires
set_at-requires c = omega (arith, (limit (goal.at.set_at-requires c).Start).places, long (goal.at.set_at-requires c).In_ok-check_width)

pub returns-in-0 : goal.returns-in-0
returns-in-0 c =
    let z = eq-eqb (set_at c.args.rest.now c.args.set_place) 0 (sym c.set_at.ensures ∙ c.in-0.is) in
    rw ((limit (goal.at.returns-in-0 c).Start).tests, le-ltb _ _ c.in_ok-check_width.ensures, le-ltb _ _ c.in_ok-check_low.ensures, z)

pub returns-in_default : goal.returns-in_default
returns-in_default c =
    let n = ne_eqb (set_at c.args.rest.now c.args.set_place) 0 (λ z. omega arith) in
    rw ((limit (goal.at.returns-in_default c).Start).tests, le-ltb _ _ c.in_ok-check_width.ensures, le-ltb _ _ c.in_ok-check_low.ensures, n, c.set_at.ensures)

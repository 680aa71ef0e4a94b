-- `rows::read_limit` meets its contract: a row without a cause is that of its kind.
use Prim.Native.Nat.{◌≤◌}
use mathlib.Core.Path.{◌≡◌}
use native.Mathlib.Omega.{arith}
use lib.ListN.{length}
use Rattle.std.proofs.Common.{Ok}
use Rattle.std.proofs.lemmas.Result.{err_from_is_err_and}
use Rattle.rows.specs.Reading.{set_at, row_at, read_row}
use Rattle.rows.proofs.Reading.{Limit, limit_of, Sound, cause_refuses, cause_none, cause_sound}
use Rattle.rows.proofs.read_limit.Goals.{Start, In_ok-set}
use Rattle.rows.proofs.read_limit.Goals as goal

limit : (s : Start) → let a = s.args in Limit a.rest.now a.state_place a.set_place a.kind
limit s = limit_of _ _ _ _ s.requires.1

-- the bytes of the row are there, and they are read
told : (c : In_ok-set) → let a = c.args in Sound a.kind a.rest.now × (c.in_ok-set.set ≡ set_at a.rest.now a.set_place)
told c = cause_sound c.args.rest.now _ c.args.kind c.requires.0.1 c.in_ok-set.ensures

long : (c : In_ok-set) → 10 ≤ length c.args.rest.now
long c = omega (arith, (limit_of c.args.rest.now _ _ _ c.requires.1).wide, (told c).0.whole)

clean : (c : In_ok-set) → let a = c.args in Ok (row_at a.kind a.rest.now, 10) ≡ read_row a.rest.now
clean c = rw (limit_of c.args.rest.now _ _ _ c.requires.1).wide at (cause_none c.args.rest.now _ c.args.kind c.requires.0 c.in_ok-set.ensures)

pub read_set-requires : goal.read_set-requires
read_set-requires c = rw c.requires.0.1 c.requires.1

pub returns-in_err-set : goal.returns-in_err-set
returns-in_err-set c =
    let p = err_from_is_err_and c.from_residual.result c.from_residual.ensures.1 in
    rw (p.1, p.2) (cause_refuses c.args.rest.now _ c.requires.0.0 c.in_err-set.ensures)

pub bounds-rest-state_place : goal.bounds-rest-state_place
bounds-rest-state_place c = omega (arith, (limit (goal.at.bounds-rest-state_place c).Start).places, long (goal.at.bounds-rest-state_place c).In_ok-set)

pub bounds-rest-state_place-in_default : goal.bounds-rest-state_place-in_default
bounds-rest-state_place-in_default c =
    omega (arith, (limit (goal.at.bounds-rest-state_place-in_default c).Start).places, long (goal.at.bounds-rest-state_place-in_default c).In_ok-set)

pub returns-in-4 : goal.returns-in-4
returns-in-4 c = rw ((told (goal.at.returns-in-4 c).In_ok-set).1, ← (limit (goal.at.returns-in-4 c).Start).left c.in-4.is) (clean (goal.at.returns-in-4 c).In_ok-set)

pub returns-in_default : goal.returns-in_default
returns-in_default c = let k : c.args.kind ≡ 5 = omega (arith, c.requires.1, c.in_default.in_default-own.rest) in
    rw ((told (goal.at.returns-in_default c).In_ok-set).1, ← (limit (goal.at.returns-in_default c).Start).right k) (clean (goal.at.returns-in_default c).In_ok-set)

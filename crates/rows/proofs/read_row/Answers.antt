-- `rows::read_row` meets its contract: each kind by its reader; no other kind is known.
use Prim.Native.Nat.{◌<◌}
use mathlib.Core.Path.{refl, sym}
use native.Mathlib.Omega.{arith}
use lib.ListN.{length}
use Rattle.std.proofs.lemmas.Result.{err_from_is_err_and}
use Rattle.rows.proofs.Reading.{read_none, read_unknown}
use Rattle.rows.proofs.read_row.Goals.{In_ok-check_width}
use Rattle.rows.proofs.read_row.Goals as goal

-- some byte is there
some_byte : (c : In_ok-check_width) → 0 < length c.args.rest.now
some_byte c = c.in_ok-check_width.ensures

pub returns-in_err-check_width : goal.returns-in_err-check_width
returns-in_err-check_width c =
    let p = err_from_is_err_and c.from_residual.result c.from_residual.ensures.1 in
    let e = c.in_err-check_width.ensures in
    rw (p.1, p.2, e.0) (sym (read_none _ (omega (arith, e.1))))

pub returns-in-0 : goal.returns-in-0
returns-in-0 c = sym (read_unknown 0 _ (some_byte (goal.at.returns-in-0 c).In_ok-check_width, c.in-0.in-0-own.keys7) (λ h. omega (arith, h)))

pub returns-in-0-2 : goal.returns-in-0-2
returns-in-0-2 c =
    let r = c.in-0.in-0-own.rest in
    sym (read_unknown _ _ (some_byte (goal.at.returns-in-0-2 c).In_ok-check_width, refl)
    (λ h. omega (arith, h, r.0.0.0.0.0.0.1, r.0.0.0.0.0.1, r.0.0.0.0.1, r.0.0.0.1, r.0.0.1, r.0.1)))

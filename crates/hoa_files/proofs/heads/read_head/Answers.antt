-- `read_head` meets its contract: the first line, then that of the count.
use mathlib.Core.Path.{◌≡◌}
use mathlib.Core.Logic.{⊎_elim, inl, inr}
use native.Mathlib.Omega.{arith}
use Rattle.std.proofs.lemmas.Result.{err_from_is_err_and}
use Rattle.hoa_files.proofs.Starting.{from_place}
use Rattle.hoa_files.proofs.HeadRead.{head_first, no_count, count_outside}
use Rattle.hoa_files.proofs.heads.read_head.Goals as goal

pub returns-in_err-at : goal.returns-in_err-at
returns-in_err-at c =
    let t = c.in_err-at.ensures in
    let p = err_from_is_err_and c.from_residual.result c.from_residual.ensures.1 in
    rw (p.1, p.2, t.0) (head_first c.args.file.now t.1)

pub returns-in_default : goal.returns-in_default
returns-in_default c =
    let t = c.in_ok-at.ensures in
    let e : c.in_ok-at.at ≡ 8 = omega (arith, t.1) in
    rw e (no_count t.0 (rw (from_place c.args.file.now c.in_ok-at.at, e) at c.numbered.ensures) c.in_default.is)

pub returns-then-states-eq0 : goal.returns-then-states-eq0
returns-then-states-eq0 c =
    let t = c.in_ok-at.ensures in
    let e : c.in_ok-at.at ≡ 8 = omega (arith, t.1) in
    rw e (count_outside t.0 (rw (from_place c.args.file.now c.in_ok-at.at, e) at c.numbered.ensures) c.in-Some.states c.in-Some.is
    (⊎_elim (λ z. inl z) (λ k. inr k.1) c.then-states-eq0.either))

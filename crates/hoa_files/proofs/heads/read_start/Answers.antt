-- `read_start` meets its contract: the line of the start, then the four that are the same in every file.
use native.Mathlib.Omega.{arith}
use Rattle.std.proofs.lemmas.Result.{err_from_is_err_and}
use Rattle.hoa_files.proofs.Starting.{from_place}
use Rattle.hoa_files.proofs.HeadRead.{no_start, start_beyond, fixed_missing, head_taken}
use Rattle.hoa_files.proofs.heads.read_start.Goals.{After-numbered}
use Rattle.hoa_files.proofs.heads.read_start.Goals as goal

pub returns-in_default : goal.returns-in_default
returns-in_default c = no_start c.requires (rw (from_place c.args.file.now c.args.at) at c.numbered.ensures) c.in_default.is

pub returns-then-states-start : goal.returns-then-states-start
returns-then-states-start c = start_beyond c.requires (rw (from_place c.args.file.now c.args.at) at c.numbered.ensures) c.in-Some.start c.in-Some.is (omega arith)

pub returns-in_err-length : goal.returns-in_err-length
returns-in_err-length c =
    let f = rw (from_place c.args.file.now c.args.at) at c.numbered.ensures in
    let t = c.in_err-length.ensures in
    let p = err_from_is_err_and c.from_residual.result c.from_residual.ensures.1 in
    rw (p.1, p.2, t.2) (fixed_missing c.requires f c.in-Some.start c.in-Some.is (omega arith) t.0 t.1)

pub returns : goal.returns
returns c =
    let f = rw (from_place c.args.file.now c.args.at) at c.numbered.ensures in
    let t = c.in_ok-length.ensures in
    rw t.1 (head_taken c.requires f c.in-Some.start c.in-Some.is (omega arith) t.0)

-- `convert` meets its contract, by what the file tells.
use Rattle.std.proofs.lemmas.Result.{err_from_is_err_and}
use Rattle.hoa_files.proofs.Converting.{converts_read, converts_refused}
use Rattle.hoa_files.proofs.convert.Goals as goal

pub returns-in_err-automaton : goal.returns-in_err-automaton
returns-in_err-automaton c =
    let p = err_from_is_err_and c.from_residual.result c.from_residual.ensures.1 in
    rw (p.1, p.2) (converts_refused _ _ _ c.in_err-automaton.ensures)

pub returns : goal.returns
returns c = converts_read _ _ _ _ _ c.in_ok-automaton.ensures c.write.ensures

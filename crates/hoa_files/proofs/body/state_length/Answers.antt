-- `state_length` meets its contract: the number of the state is found, or another or none.
use Rattle.hoa_files.proofs.LineTexts.{state_missing, other_found}
use Rattle.hoa_files.proofs.body.state_length.Goals as goal

pub returns-in_err-line : goal.returns-in_err-line
returns-in_err-line c = rw c.from_residual.ensures (state_missing _ _ _ c.requires.0 c.numbered.ensures c.in_err-line.was)

pub returns-else-line-state : goal.returns-else-line-state
returns-else-line-state c = other_found _ _ _ c.requires.0 c.numbered.ensures _ c.in_ok-line.was c.if-line-state.false

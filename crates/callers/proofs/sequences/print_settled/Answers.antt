-- `print_settled` meets its contract.
use Rattle.callers.proofs.Handed.{prints_after}
use Rattle.callers.proofs.sequences.print_settled.Goals as goal

pub returns : goal.returns
returns c = search prints_after

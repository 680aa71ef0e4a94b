-- `express_settled` meets its contract.
use Rattle.callers.proofs.Expressions.{expresses_after}
use Rattle.callers.proofs.sequences.express_settled.Goals as goal

pub returns : goal.returns
returns c = search expresses_after

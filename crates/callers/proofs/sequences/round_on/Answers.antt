-- `round_on` meets its contract.
use Rattle.callers.proofs.Handed.{round_on}
use Rattle.callers.proofs.sequences.round_on.Goals as goal

pub returns : goal.returns
returns c cs h = round_on cs _ h c.call_round.result c.call_round.ensures

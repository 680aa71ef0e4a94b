-- `reopen_closed` meets its contract.
use Rattle.session.proofs.Phases.{reopen_done}
use Rattle.session.proofs.Session.reopen_closed.Goals as goal

pub returns : goal.returns
returns c = search reopen_done

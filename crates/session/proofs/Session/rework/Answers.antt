-- `rework` meets its contract, by the phase.
use Rattle.session.proofs.Marked.{reworked_open, reworked_running, reworked_settled}
use Rattle.session.proofs.Session.rework.Goals as goal

pub returns-in-Open : goal.returns-in-Open
returns-in-Open c = rw c.done.ensures (reworked_open c.args.self c.requires.0 c.args.rounds c.in-Open.is)

pub returns-in-Running : goal.returns-in-Running
returns-in-Running c = search reworked_running

pub returns-in-Settled : goal.returns-in-Settled
returns-in-Settled c = search reworked_settled

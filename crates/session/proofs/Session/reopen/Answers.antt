-- `reopen` meets its contract, by what the record is.
use Rattle.machine.specs.Causes.{reopening}
use Rattle.machine.proofs.Phases.{open_refuses}
use Rattle.session.proofs.Gate.{away, refused_in, closed_running, closed_settled}
use Rattle.session.proofs.Session.reopen.Goals as goal

pub reopen_closed-requires : goal.reopen_closed-requires
reopen_closed-requires c = closed_running c.args.self c.in-Ok-Running.ensures c.in-Ok-Running.field-0-is

pub reopen_closed-requires-in-Ok-Settled : goal.reopen_closed-requires-in-Ok-Settled
reopen_closed-requires-in-Ok-Settled c = closed_settled c.args.self c.in-Ok-Settled.ensures c.in-Ok-Settled.field-0-is

pub returns-in-Err : goal.returns-in-Err
returns-in-Err c = away c.args.self c.in-Err.ensures c.refuse-in-Err.ensures

pub returns-in-Ok-Open : goal.returns-in-Ok-Open
returns-in-Ok-Open c = refused_in c.args.self c.in-Ok-Open.ensures c.in-Ok-Open.field-0-is c.refuse.ensures (open_refuses reopening)

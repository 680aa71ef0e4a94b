-- `round` meets its contract, by what the record is.
use Rattle.machine.specs.Causes.{rounding}
use Rattle.machine.proofs.Phases.{open_refuses, settled_refuses}
use Rattle.session.proofs.Gate.{known, away, refused_in}
use Rattle.session.proofs.Session.round.Goals as goal

pub round_running-requires : goal.round_running-requires
round_running-requires c = known c.args.self c.in-Ok-Running.ensures c.in-Ok-Running.field-0-is

pub returns-in-Err : goal.returns-in-Err
returns-in-Err c = away c.args.self c.in-Err.ensures c.refuse-in-Err.ensures

pub returns-in-Ok-Open : goal.returns-in-Ok-Open
returns-in-Ok-Open c = refused_in c.args.self c.in-Ok-Open.ensures c.in-Ok-Open.field-0-is c.refuse.ensures (open_refuses rounding)

pub returns-in-Ok-Settled : goal.returns-in-Ok-Settled
returns-in-Ok-Settled c = refused_in c.args.self c.in-Ok-Settled.ensures c.in-Ok-Settled.field-0-is c.refuse-in-Ok-Settled.ensures (settled_refuses _)

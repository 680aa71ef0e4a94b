-- `withdraw` meets its contract, by what the record is.
use Rattle.machine.specs.Causes.{running, settled, withdrawing}
use Rattle.machine.proofs.Phases.{not_open_refuses}
use Rattle.session.proofs.Gate.{known, away, refused_in}
use Rattle.session.proofs.Session.withdraw.Goals as goal

pub withdraw_open-requires : goal.withdraw_open-requires
withdraw_open-requires c = known c.args.self c.in-Ok-Open.ensures c.in-Ok-Open.field-0-is

pub returns-in-Err : goal.returns-in-Err
returns-in-Err c = away c.args.self c.in-Err.ensures c.refuse-in-Err.ensures

pub returns-in-Ok-Running : goal.returns-in-Ok-Running
returns-in-Ok-Running c = refused_in c.args.self c.in-Ok-Running.ensures c.in-Ok-Running.field-0-is c.refuse.ensures (not_open_refuses (withdrawing c.args.batch.now) running)

pub returns-in-Ok-Settled : goal.returns-in-Ok-Settled
returns-in-Ok-Settled c = refused_in c.args.self c.in-Ok-Settled.ensures c.in-Ok-Settled.field-0-is c.refuse-in-Ok-Settled.ensures (not_open_refuses (withdrawing c.args.batch.now) (settled _))

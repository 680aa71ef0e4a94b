-- `print` meets its contract, by what the record is.
use lib.ListN.{length}
use Rattle.machine.specs.Causes.{printing, to_print}
use Rattle.machine.proofs.Phases.{open_refuses, running_refuses}
use Rattle.session.proofs.Gate.{known, away, refused_in}
use Rattle.session.proofs.Session.print.Goals as goal

pub print_settled-requires : goal.print_settled-requires
print_settled-requires c = known c.args.self c.in-Ok-Settled.ensures c.in-Ok-Settled.field-0-is

pub returns-in-Err : goal.returns-in-Err
returns-in-Err c = away c.args.self c.in-Err.ensures c.refuse-in-Err.ensures

pub returns-in-Ok-Open : goal.returns-in-Ok-Open
returns-in-Ok-Open c = refused_in c.args.self c.in-Ok-Open.ensures c.in-Ok-Open.field-0-is c.refuse.ensures (open_refuses (printing (length c.args.buffer.now)))

pub returns-in-Ok-Running : goal.returns-in-Ok-Running
returns-in-Ok-Running c = refused_in c.args.self c.in-Ok-Running.ensures c.in-Ok-Running.field-0-is c.refuse-in-Ok-Running.ensures (running_refuses (to_print (length c.args.buffer.now)))

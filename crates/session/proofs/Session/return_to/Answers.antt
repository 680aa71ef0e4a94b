-- `return_to` meets its contract, by what the record is.
use Rattle.session.proofs.Gate.{away}
use Rattle.session.proofs.Session.return_to.Goals as goal

pub returns-in-Err : goal.returns-in-Err
returns-in-Err c = away c.args.self c.in-Err.ensures c.refuse.ensures

-- `express_settled` meets its contract, by the verdict.
use Rattle.session.proofs.Gate.{settled_as}
use Rattle.session.proofs.Written.{expresses_nothing}
use Rattle.session.proofs.Session.express_settled.Goals as goal

pub express_walk-requires : goal.express_walk-requires
express_walk-requires c = settled_as c.args.self c.args.v c.requires c.in-NonEmpty.is

pub returns-in-Empty : goal.returns-in-Empty
returns-in-Empty c = expresses_nothing c.args.self c.args.v c.requires c.in-Empty.is c.refuse.ensures

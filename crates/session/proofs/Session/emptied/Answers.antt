-- `emptied` meets its contract.
use mathlib.Core.Path.{ap}
use Rattle.session.specs.declared.Session.{Session}
use Rattle.session.specs.Standing.{with_marks}
use Rattle.session.proofs.Session.emptied.Goals as goal

pub returns : goal.returns
returns c = ap (λ (t : Session). with_marks c.args.self.now t) c.fresh.ensures

-- `close_open` meets its contract.
use mathlib.Core.Path.{refl}
use Rattle.session.proofs.Phases.{close_done}
use Rattle.session.proofs.Session.close_open.Goals as goal

pub returns : goal.returns
returns c =
    close_done _ _ _ _ (c.put_letters-ends.ensures refl) c.close.result c.done_with.ensures c.requires c.close.ensures

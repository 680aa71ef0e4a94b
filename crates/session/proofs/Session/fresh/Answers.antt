-- `fresh` meets its contract: the arrays hold nothing but fillers.
use mathlib.Core.Path.{refl}
use Rattle.rows.specs.Rows.{standing_sets}
use Rattle.session.specs.Record.{record_of}
use Rattle.session.proofs.Session.fresh.Goals as goal

pub returns : goal.returns
unfolding record_of standing_sets
returns c = rw c.none.ensures refl

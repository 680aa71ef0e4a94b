-- `rows::check_width` meets its contract: fewer bytes are cut short.
use mathlib.Core.Path.{refl}
use Rattle.rows.proofs.check_width.Goals as goal

pub returns-then-rest-width : goal.returns-then-rest-width
returns-then-rest-width c = (refl, c.if-rest-width.true)

-- `rows::check_low` meets its contract: a number above 63 is a high state.
use mathlib.Core.Path.{refl}
use Rattle.rows.proofs.check_low.Goals as goal

pub returns-then-state-gt-LAST_STATE : goal.returns-then-state-gt-LAST_STATE
returns-then-state-gt-LAST_STATE c = (refl, c.if-state-gt-LAST_STATE.true)

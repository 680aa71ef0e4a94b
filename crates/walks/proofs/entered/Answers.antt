-- `walks::entered` meets its contract.
use mathlib.Core.Path.{◌∙◌}
use Rattle.masks.proofs.Member.{in_none, not_both}
use Rattle.walks.proofs.entered.Goals as goal

pub returns-else-has : goal.returns-else-has
returns-else-has c = λ t. ((λ h. absurd (in_none t h)), λ h. absurd (not_both (c.has.ensures ∙ h.0) c.if-has.false))

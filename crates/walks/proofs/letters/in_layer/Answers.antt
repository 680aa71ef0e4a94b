-- `walks::in_layer` meets its contract.
use mathlib.Core.Path.{sym, ◌∙◌}
use mathlib.Core.Logic.{⊎_elim}
use native.Mathlib.Omega.{arith}
use Rattle.std.proofs.lemmas.Bool.{le-ltb}
use Rattle.masks.specs.Mask.{member}
use Rattle.masks.proofs.Member.{true_or_false, member_lt}
use Rattle.walks.proofs.letters.in_layer.Goals as goal

pub returns-else-t-lt-NO_STATE : goal.returns-else-t-lt-NO_STATE
returns-else-t-lt-NO_STATE c = le-ltb c.args.t 64 c.if-t-lt-NO_STATE.false ∙ sym (⊎_elim (λ h. absurd (omega (arith, member_lt c.args.t c.args.layer h))) (λ e. e) (true_or_false (member c.args.t c.args.layer)))

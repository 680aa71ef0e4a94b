-- `digits` meets its contract: what is left decides.
use mathlib.Core.Path.{◌∙◌}
use native.Mathlib.Numerals.{add-one}
use native.Mathlib.Omega.{arith}
use Rattle.commands.proofs.Values.{digits_more}
use Rattle.commands.proofs.digits.Goals as goal

pub loop-c-preserved : goal.loop-c-preserved
loop-c-preserved c = rw add-one (c.loop-c.invariant ∙ digits_more c.args.base c.args.text.now c.loop-c.c-index (omega arith) (omega arith))

-- `name_number` meets its contract: the bytes are the name's, and then zeros.
use mathlib.Core.Path.{◌∙◌}
use native.Mathlib.Omega.{arith}
use Rattle.marks.proofs.Naming.{number_read}
use Rattle.marks.proofs.name_number.Goals as goal

pub returns : goal.returns
returns c = rw c.copy_from_slice.ensures.after at c.from_le_bytes.ensures ∙ number_read c.args.name.now (omega arith)

-- `none` meets its contract.
use mathlib.Core.Path.{refl}
use Rattle.marks.specs.Record.{kept_of, marks_of}
use Rattle.marks.proofs.Marks.none.Goals as goal

pub returns : goal.returns
unfolding kept_of marks_of
returns c = refl

-- `last_walk` meets its contract: the arrays stand for the rows and the open claims of the machine.
use mathlib.Core.Path.{refl}
use Rattle.whole_sheet.proofs.Printing.{finds}
use Rattle.whole_sheet.proofs.last_walk.Goals as goal

pub returns-in-Empty : goal.returns-in-Empty
returns-in-Empty c = rw c.in-Empty.is (λ m formed letters given kept. refl)

pub returns-in-NonEmpty : goal.returns-in-NonEmpty
returns-in-NonEmpty c = let a = c.args in
    rw c.in-NonEmpty.is (finds a.words.now a.count a.set_count a.graph.now c.back.result.now a.points a.progress.now (record { loops = c.open_mask.result; mixes = c.open_mask-in-NonEmpty.result }) c.first_walk.result
    c.back.ensures c.open_mask.ensures c.open_mask-in-NonEmpty.ensures c.first_walk.ensures)

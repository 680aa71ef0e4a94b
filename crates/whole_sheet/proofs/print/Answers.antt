-- `print` meets its contract: the sheet has the walk that was found.
use Rattle.whole_sheet.proofs.Printing.{prints}
use Rattle.whole_sheet.proofs.print.Goals as goal

pub returns : goal.returns
returns c = let a = c.args in
    prints a.verdict a.words.now a.count a.set_count a.graph.now a.points a.progress.now a.buffer.now c.tell.new.buffer c.tell.result c.last_walk-found.result c.told_walk-told.result c.last_walk-found.ensures c.told_walk-told.ensures
    (rw (← c.as_ref-walk.ensures.value, ← c.forth.ensures, ← c.sets.ensures.are) c.tell.ensures)

-- `Sheet::put` meets its contract: the walk, if there is one, follows the verdict and the openings.
use mathlib.Core.List.{◌++◌}
use Rattle.machine.specs.Sheet.{verdict_line}
use Rattle.sheet_parts.specs.Lines.{openings_text}
use Rattle.whole_sheet.proofs.SheetWritten.put.Goals as goal

pub returns-in-Some : goal.returns-in-Some
returns-in-Some c = let s = c.args.self.now in let o = s.openings in
    rw c.in-Some.is (c.put_at.ensures.follows (verdict_line s.verdict o.progress.now.rounds ++ openings_text o.progress.now o.sets.now o.set_count) c.args.buf.now (rw c.line.ensures.text at c.put-at.ensures))

-- `Sheet::line` meets its contract: the line of this verdict, by hand, so that that of another does not fit.
use Prim.Native.Nat.{ℕ}
use mathlib.Core.Path.{◌≡◌, refl}
use Rattle.machine.specs.declared.Verdict.{Verdict}
use Rattle.machine.specs.Sheet.{verdict_line}
use Rattle.sheet_lines.specs.declared.Line.TheVariants as Line
use Rattle.sheet_lines.specs.Lines.{line_text}
use Rattle.whole_sheet.proofs.Sheet.line.Goals as goal

line_is : (v : Verdict) (k : ℕ) → line_text (Line.Verdict v k) ≡ verdict_line v k
line_is v k = refl

pub returns-clause-text : goal.returns-clause-text
returns-clause-text c = let s = c.args.self.now in line_is s.verdict s.openings.progress.now.rounds

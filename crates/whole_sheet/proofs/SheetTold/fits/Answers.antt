-- `Sheet::fits` meets its contract: a buffer of 6,400 bytes is long enough, any other is measured; where there is no room for the longest openings,
-- they are too.
use Prim.Native.Nat.{◌+◌, ◌≤◌}
use mathlib.Core.Path.{◌≡◌, ap, ◌∙◌}
use native.Mathlib.Omega.{arith}
use lib.ListN.{length}
use Rattle.std.specs.Option.{option_copied}
use Rattle.lists.proofs.Deciding.{iff_decides, leb_decides, says_yes}
use Rattle.machine.specs.Sheet.{verdict_line}
use Rattle.whole_sheet.proofs.Measuring.{verdict_short, openings_short, sheet_length, sheet_few}
use Rattle.whole_sheet.proofs.SheetTold.fits.Goals.{After-walk_len}
use Rattle.whole_sheet.proofs.SheetTold.fits.Goals as goal

-- the line of the verdict
line_is : (w : After-walk_len) → let s = w.args.self.now in (w.len.result ≡ length (verdict_line s.verdict s.openings.progress.now.rounds)) × (w.len.result ≤ 28)
line_is w = let s = w.args.self.now in
    let e : w.len.result ≡ length (verdict_line s.verdict s.openings.progress.now.rounds) = w.len.ensures ∙ ap length w.line-line.ensures.text in
    (e, omega (arith, e, verdict_short s.verdict s.openings.progress.now.rounds w.line-line.ensures.byte))

pub returns-then-size-ge-LONGEST_SHEET : goal.returns-then-size-ge-LONGEST_SHEET
returns-then-size-ge-LONGEST_SHEET c =
    let s = c.args.self.now in
    let o = s.openings in
    says_yes (omega (arith, sheet_few o.progress.now o.sets.now o.set_count s.verdict (option_copied s.walk) o.few c.line-line.ensures.byte, c.if-size-ge-LONGEST_SHEET.true))

pub overflow_add-others : goal.overflow_add-others
overflow_add-others c = omega (arith, line_is (goal.at.overflow_add-others c).After-walk_len, c.walk_len.ensures.1)

pub overflow_add-others-2 : goal.overflow_add-others-2
overflow_add-others-2 c = omega (arith, line_is (goal.at.overflow_add-others-2 c).After-walk_len, c.walk_len.ensures.1)

pub overflow_add-result : goal.overflow_add-result
overflow_add-result c = omega (arith, line_is (goal.at.overflow_add-result c).After-walk_len, c.walk_len.ensures.1, c.len-else-others-size.ensures.1)

pub returns-then-others-size : goal.returns-then-others-size
returns-then-others-size c =
    let s = c.args.self.now in
    let o = s.openings in
    iff_decides {A = 3968 + (c.len.result + c.walk_len.result) ≤ c.args.size}
    (λ room. omega (arith, room, (line_is (goal.at.returns-then-others-size c).After-walk_len).0, c.walk_len.ensures.0, sheet_length o.progress.now o.sets.now o.set_count s.verdict (option_copied s.walk), openings_short o.progress.now o.sets.now o.set_count o.few c.line-line.ensures.byte))
    (λ room. c.if-others-size.true) (leb_decides (3968 + (c.len.result + c.walk_len.result)) c.args.size)

pub returns-else-others-size : goal.returns-else-others-size
returns-else-others-size c =
    let s = c.args.self.now in
    let o = s.openings in
    let e = sheet_length o.progress.now o.sets.now o.set_count s.verdict (option_copied s.walk) in
    let l = (line_is (goal.at.returns-else-others-size c).After-walk_len).0 in
    iff_decides (λ room. omega (arith, room, l, c.walk_len.ensures.0, c.len-else-others-size.ensures.0, e)) (λ room. omega (arith, room, l, c.walk_len.ensures.0, c.len-else-others-size.ensures.0, e))
    (leb_decides (c.len-else-others-size.result + (c.len.result + c.walk_len.result)) c.args.size)

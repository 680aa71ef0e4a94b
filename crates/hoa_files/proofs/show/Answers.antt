-- `show` meets its contract: by the length of the input, and by the answer of the call.
use Prim.Native.Nat.{◌≤◌}
use mathlib.Core.Path.{ap}
use lib.ListN.{length}
use native.Mathlib.Omega.{arith}
use Rattle.machine.specs.Program.{refusal_line}
use Rattle.texts.proofs.Digits.{refusal_short}
use Rattle.hoa_files.specs.Promise.{too_long}
use Rattle.hoa_files.proofs.Outputs.{ConvertAnswers, call_answers, never_done, never_decided, shows_wrote, cause_within, refused_keeps, shows_refused}
use Rattle.hoa_files.proofs.show.Goals.{After-convert}
use Rattle.hoa_files.proofs.show.Goals as goal

-- what the call answers
answers : (k : After-convert) → let a = k.args in ConvertAnswers a.input.now a.out.now k.convert.new.batch k.convert.result
answers k = call_answers k.args.input.now k.args.out.now k.convert.new.batch k.convert.result k.requires k.convert.ensures

pub returns-then-input-gt-LONGEST_FILE : goal.returns-then-input-gt-LONGEST_FILE
returns-then-input-gt-LONGEST_FILE c = (_, too_long (omega arith), c.put.ensures)

pub put-requires-in-Err : goal.put-requires-in-Err
put-requires-in-Err c =
    let r = c.in-Err.field-0 in
    let k = refused_keeps r (answers (goal.at.put-requires-in-Err c).After-convert) c.in-Err.is in
    let h : 778 ≤ length c.args.out.now = c.requires in
    let w : r.place ≤ length c.args.input.now = cause_within k.0 in
    let short : length (refusal_line c.from.result r.place) ≤ 53 = refusal_short c.from.result r.place (omega arith) (omega arith) in
    let g : length (refusal_line c.from.result r.place) ≤ length c.convert.new.batch = omega (arith, ap length k.1) in
    g

pub returns-in-Ok-Wrote : goal.returns-in-Ok-Wrote
returns-in-Ok-Wrote c = shows_wrote c.in-Ok-Wrote.n (omega arith) (answers (goal.at.returns-in-Ok-Wrote c).After-convert) (cc c.in-Ok-Wrote.field-0-is)

pub returns-in-Ok-Done : goal.returns-in-Ok-Done
returns-in-Ok-Done c = absurd (never_done (answers (goal.at.returns-in-Ok-Done c).After-convert) (cc c.in-Ok-Done.field-0-is))

pub returns-in-Ok-Decided : goal.returns-in-Ok-Decided
returns-in-Ok-Decided c = absurd (never_decided c.in-Ok-Decided.field-0-0 (answers (goal.at.returns-in-Ok-Decided c).After-convert) (cc c.in-Ok-Decided.field-0-is))

pub returns-in-Err : goal.returns-in-Err
returns-in-Err c =
    let w = rw c.from.ensures at c.put-in-Err.ensures in
    shows_refused c.in-Err.field-0 _ (omega arith) (answers (goal.at.returns-in-Err c).After-convert) c.in-Err.is w

-- `Line::put` meets its contract, by the verdict.
use Rattle.sheet_lines.proofs.LineWritten.put.Goals as goal

pub returns-in-Verdict-Empty-default : goal.returns-in-Verdict-Empty-default
returns-in-Verdict-Empty-default c =
    let v = c.in-Verdict-Empty-default in
    let e = rw v.is at v.field-0-is in
    rw (v.is, e) c.put_one-in-Verdict-Empty-default.ensures

-- `Line::len` meets its contract: the lengths of the parts are summed, where a claim has a set.
use native.Mathlib.Omega.{arith}
use Rattle.machine.specs.Text.{text}
use Rattle.texts.proofs.Digits.{two_length}
use Rattle.sheet_lines.proofs.Line.len.Goals as goal

pub returns-in-Opening-default-Loops : goal.returns-in-Opening-default-Loops
returns-in-Opening-default-Loops c =
    let o = c.in-Opening-default-Loops in
    let e = rw o.is at o.field-1-is in
    rw (o.is, e) (omega (arith, two_length (text "open ") (text " loop ") o.k o.field-1-0))

pub returns-in-Opening-default-Mixes : goal.returns-in-Opening-default-Mixes
returns-in-Opening-default-Mixes c =
    let o = c.in-Opening-default-Mixes in
    let e = rw o.is at o.field-1-is in
    rw (o.is, e) (omega (arith, two_length (text "open ") (text " mix ") o.k o.field-1-0))

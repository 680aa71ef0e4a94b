-- `state_line` meets its contract: a plain line has another number, or neither it nor a marked one stands.
use mathlib.Core.Path.{refl}
use Rattle.hoa_files.proofs.LineTexts.{plain_other, neither_found}
use Rattle.hoa_files.proofs.body.state_line.Goals as goal

pub returns-in-Some : goal.returns-in-Some
returns-in-Some c = (refl, plain_other _ _ c.requires c.numbered.ensures c.in-Some.plain c.in-Some.is c.if-plain-next.false)

pub returns : goal.returns
returns c = (refl, neither_found _ _ c.requires c.numbered.ensures c.in_default.is c.in_default-state_length.ensures)

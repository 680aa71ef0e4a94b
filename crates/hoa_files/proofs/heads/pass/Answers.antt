-- `pass` meets its contract: the line stands at the place, or does not.
use mathlib.Core.Path.{refl}
use Rattle.hoa_files.proofs.Starting.{begin_room, stripped_from, not_stripped_from}
use Rattle.hoa_files.proofs.heads.pass.Goals as goal

pub returns-in-Some : goal.returns-in-Some
returns-in-Some c =
    let a = c.args in
    let w = stripped_from a.file.now a.at _ _ _ c.strip_prefix.ensures.cases c.in-Some.is in
    ((_, w), refl, begin_room a.file.now a.line.now a.at c.requires (_, w))

pub returns-in-None : goal.returns-in-None
returns-in-None c =
    let a = c.args in
    (refl, λ p. not_stripped_from a.file.now a.at a.line.now _ c.strip_prefix.ensures.cases c.in-None.is p.0 p.1)

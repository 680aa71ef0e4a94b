-- `state_or_end` meets its contract: the next state, or the end where none is left.
use mathlib.Core.Path.{refl}
use native.Mathlib.Omega.{arith}
use Rattle.machine.specs.Sheet.{line}
use Rattle.hoa_files.specs.Automata.{end_line}
use Rattle.hoa_files.proofs.Starting.{not_stripped}
use Rattle.hoa_files.proofs.LineTexts.{state_comes, end_missing}
use Rattle.hoa_files.proofs.body.state_or_end.Goals as goal

pub returns-then-count-states : goal.returns-then-count-states
returns-then-count-states c = let a = c.args in state_comes a.rest.now a.states a.count (omega arith) c.state_line.result c.state_line.ensures

pub returns-in-None : goal.returns-in-None
returns-in-None c =
    let a = c.args in
    (refl, end_missing a.rest.now a.states a.count (omega arith) (λ p. not_stripped a.rest.now (line end_line) _ c.strip_prefix.ensures.cases c.in-None.is p.0 p.1))

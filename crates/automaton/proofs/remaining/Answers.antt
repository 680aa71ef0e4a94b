-- `remaining` meets its contract.
use Rattle.automaton.proofs.Striking.{remains_none, remains_some}
use Rattle.automaton.proofs.remaining.Goals as goal

pub returns-then-goes : goal.returns-then-goes
returns-then-goes c = remains_none _ _ c.if-goes.true

pub returns : goal.returns
returns c = remains_some _ _ _ c.if-goes.false c.difference.ensures

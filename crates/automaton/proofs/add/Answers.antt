-- `add` meets its contract.
use Rattle.automaton.proofs.Adding.{added, not_added}
use Rattle.automaton.proofs.add.Goals as goal

pub returns-then-s-lt-NO_STATE : goal.returns-then-s-lt-NO_STATE
returns-then-s-lt-NO_STATE c = added _ _ _ c.if-s-lt-NO_STATE.true c.with.ensures

pub returns : goal.returns
returns c = not_added _ _ c.if-s-lt-NO_STATE.false

-- `expression::lengths::plus_before` meets its contract.
use Rattle.expression.proofs.lengths.plus_before.Goals as goal

pub returns-in-Some : goal.returns-in-Some
returns-in-Some c = rw c.in-Some.is c.plus.ensures

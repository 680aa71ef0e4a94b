-- `judge` meets its contract.
use Rattle.rounds.proofs.judge.Goals as goal

pub returns-then-accepted : goal.returns-then-accepted
returns-then-accepted c = rw c.if-accepted.true

pub returns-then-vain : goal.returns-then-vain
returns-then-vain c = rw (c.if-accepted.false, c.if-vain.true)

-- `put` meets its contract.
use Rattle.automaton.proofs.Adding.{put_at, not_put}
use Rattle.automaton.proofs.put.Goals as goal

pub returns-then-at-lt-PLACES : goal.returns-then-at-lt-PLACES
returns-then-at-lt-PLACES c = let a = c.args in
    put_at a.graph.now a.base a.at a.s c.add.result c.requires c.if-at-lt-PLACES.true c.add.ensures

pub returns-else-at-lt-PLACES : goal.returns-else-at-lt-PLACES
returns-else-at-lt-PLACES c = not_put c.args.graph.now _ _ _ c.if-at-lt-PLACES.false

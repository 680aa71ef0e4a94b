-- `all_idle` meets its contract. The loop's invariant: the sets below i are idle.
use borrow.Author.Count.{below_more}
use borrow.Author.Rules.{rules}
use Rattle.rounds.specs.Promises.{Idle}
use Rattle.rounds.proofs.all_idle.Goals as goal

pub loop-i-preserved : goal.loop-i-preserved
loop-i-preserved c = below_more (Idle c.args.graph.now) c.loop-i.i c.loop-i.invariant (c.is_idle.ensures (search rules))

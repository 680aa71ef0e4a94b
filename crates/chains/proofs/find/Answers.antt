-- `find` meets its contract: no place that is passed has the word that is sought.
use Rattle.chains.proofs.Passing.{passed_from, passed_more, passed_end}
use Rattle.chains.proofs.find.Goals as goal

pub loop-at-init : goal.loop-at-init
loop-at-init c = passed_from c.into_iter-at-iterator.ensures.into_iter_gives c.each-at-items.ensures

pub loop-at-preserved : goal.loop-at-preserved
loop-at-preserved c = passed_more c.in-Some.ensures.steps c.loop-at.invariant (λ i n. n) c.if-words-at.false

pub returns : goal.returns
returns c = passed_end c.in-None.ensures.steps.0 c.loop-at.invariant

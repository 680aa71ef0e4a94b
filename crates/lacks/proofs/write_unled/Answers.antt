-- `lacks::write_unled` meets its contract. The loop stores the mask of each state.
use Rattle.masks.proofs.Passing.{begun}
use Rattle.masks.proofs.Storing.{storing_from, storing_more}
use Rattle.lacks.proofs.Taking.{letters_lack, letters_written}
use Rattle.lacks.proofs.write_unled.Goals as goal

pub loop-s-init : goal.loop-s-init
loop-s-init c = storing_from (begun c.into_iter-s-iterator.ensures.into_iter_gives c.each-s-items.ensures)

pub loop-s-preserved : goal.loop-s-preserved
loop-s-preserved c =
    let q = c.in-Some.s in
    let without = rw (c.forth-forth.ensures, c.letters_at.ensures) at c.unled.ensures in
    storing_more c.loop-s.lack c.unled.result c.in-Some.ensures.steps c.loop-s.invariant
    (λ i h. let x = without i h in letters_lack c.back-back.ensures i q x.0 x.1)

pub returns : goal.returns
returns c = letters_written c.args.graph.now c.args.states c.in-None.ensures.steps.0 c.loop-s.invariant

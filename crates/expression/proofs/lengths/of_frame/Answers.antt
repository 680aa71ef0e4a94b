-- `expression::lengths::of_frame` meets its contract. The loop's invariant: the parts before the cursor are measured. The measure is the most parts
-- that may be left.
use mathlib.Core.Path.{refl}
use Rattle.expression.proofs.Summing.{sum_start, sum_more, sum_end}
use Rattle.expression.proofs.lengths.of_frame.Goals as goal

pub loop-next-init : goal.loop-next-init
loop-next-init c = let a = c.args in
    sum_start a.letters.now.words.now a.letters.now.count a.back.now a.set_count a.bytes.now a.frame a.most _ c.begin-next.result c.begin-next.ensures

pub loop-next-preserved : goal.loop-next-preserved
loop-next-preserved c =
    let a = c.args in
    let l = c.loop-next in
    sum_more a.letters.now.words.now a.letters.now.count a.back.now a.set_count a.bytes.now a.frame a.most l.layers c.in-Some.cursor l.length c.plus_before-length.result c.plus_step-length.result
    c.step_at-step.result c.target-to.result _ c.advance-next.result (rw c.in-Some.is at l.invariant)
    (rw c.parts-parts.ensures at (c.step_at-step.ensures.shows a.frame refl)) c.plus_before-length.ensures c.plus_step-length.ensures c.target-to.ensures.leads c.advance-next.ensures.advances

pub returns : goal.returns
returns c =
    let a = c.args in
    let l = c.loop-next in
    sum_end a.letters.now.words.now a.letters.now.count a.back.now a.set_count a.bytes.now a.frame a.most l.layers l.length (rw c.in_default.is at l.invariant)

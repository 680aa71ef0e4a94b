-- `put` meets its contract: a part is opened, the text of its claim's frame is written within it, and it is closed.
use mathlib.Core.Path.{refl, ◌∙◌}
use Rattle.expression.proofs.Going.{going_more, going_end, InnerPut, inner_none, inner_skip, inner_put}
use Rattle.expression.proofs.writing.+put.Goals.{in-Some-of_step+then-within-frame, in-Some-of_step+else-within-frame, in_default-of_step}
use Rattle.expression.proofs.writing.+put.Goals as goal

pub loop-next-preserved : goal.loop-next-preserved
loop-next-preserved t c =
    let a = c.args in
    let W = a.letters.now.words.now in
    let n = a.letters.now.count in
    let l = c.loop-next in
    let o = c.open_at-at in
    let v = c.match-of_step in
    let d = c.close_at-at in
    -- what the frame's claim has written within the part
    let i : InnerPut W n a.back.now a.set_count a.opened.now a.frame c.of_step.result o.new.buf v.buf o.result v.at = elim v.branch [
      | in-Some-of_step+then-within-frame w ↦ rw (w.buf-is, w.at-is, w.in-Some-of_step.is) (inner_put W n a.back.now a.set_count a.opened.now a.frame o.new.buf o.result w.in-Some-of_step.within w.put-at.new.buf w.put-at.result
          (o.ensures.within l.invariant.0) w.put-at.ensures.sized w.put-at.ensures.within w.put-at.ensures.puts)
      | in-Some-of_step+else-within-frame w ↦ rw (w.buf-is, w.at-is, w.in-Some-of_step.is) (inner_skip W n a.back.now a.set_count a.opened.now a.frame o.new.buf o.result w.in-Some-of_step.within w.if-within-frame.false)
      | in_default-of_step w ↦ rw (w.buf-is, w.at-is, w.in_default-of_step.is) (inner_none W n a.back.now a.set_count a.opened.now a.frame o.new.buf o.result)
    ] in (
      d.ensures.within (i.within (o.ensures.within l.invariant.0)),
      d.ensures.length_is ∙ (i.length_is ∙ (o.ensures.length_is ∙ l.invariant.1)),
      going_more W n a.back.now a.set_count a.opened.now a.frame a.buf.now l.layers c.in-Some.cursor l.buf l.at (rw c.in-Some.is at l.invariant.2) l.invariant.1
          c.step_at-step.result (rw c.parts-parts.ensures at (c.step_at-step.ensures.shows a.frame refl)) o.new.buf o.result o.ensures
          c.of_step.result (rw c.parts-parts.ensures at c.of_step.ensures) v.buf v.at i d.new.buf d.result d.ensures
          c.target-to.result c.target-to.ensures.leads c.advance-next.new.layers c.advance-next.result c.advance-next.ensures.advances,
    )

pub returns-clause-puts : goal.returns-clause-puts
returns-clause-puts t c =
    let a = c.args in
    let l = c.loop-next in
    going_end a.letters.now.words.now a.letters.now.count a.back.now a.set_count a.opened.now a.frame a.buf.now l.layers l.buf l.at (rw c.in_default.is at l.invariant.2)

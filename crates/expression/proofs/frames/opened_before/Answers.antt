-- `expression::frames::opened_before` meets its contract. The loop's invariant: the mask has the places below i that were opened before the round.
use native.Mathlib.Omega.{arith}
use Rattle.masks.proofs.Marking.{marked_start, marked_more, marked_past, marked_end}
use Rattle.expression.proofs.frames.opened_before.Invariants.{Old}
use Rattle.expression.proofs.frames.opened_before.Goals.{then-k-gt0+then-k-round, else-k-gt0, else-k-gt0-via-then-k-gt0+else-k-round, else-k-gt0-via-else-k-gt0}
use Rattle.expression.proofs.frames.opened_before.Goals as goal

pub loop-i-init : goal.loop-i-init
loop-i-init c = marked_start (Old c.args.opened.now c.args.base c.args.round)

pub loop-i-preserved : goal.loop-i-preserved
loop-i-preserved c =
    let P = Old c.args.opened.now c.args.base c.args.round in
    let r = c.loop-i.r in
    let i = c.loop-i.i in
    elim c.if-k-gt0.branch [
      | then-k-gt0+then-k-round w ↦ rw w.r-is (marked_more P r i w.with-r.result c.loop-i.invariant (w.if-k-gt0.true, w.if-k-round.true) w.with-r.ensures)
      | else-k-gt0 w ↦ rw w.r-is (marked_past P r i c.loop-i.invariant (λ h. elim w.else-k-gt0.branch [
        | else-k-gt0-via-then-k-gt0+else-k-round w' ↦ omega (arith, h.1, w'.if-k-round.false)
        | else-k-gt0-via-else-k-gt0 w' ↦ omega (arith, h.0, w'.if-k-gt0.false)
      ]))
    ]

pub returns : goal.returns
returns c =
    let a = c.args in
    marked_end (Old a.opened.now a.base a.round) c.loop-i.r c.loop-i.i a.set_count c.loop-i.invariant (omega arith) (omega arith)

-- `Limits::put` meets its contract: the rows of the sets passed are written.
use Prim.Native.Nat.{◌^◌, ◌<◌}
use mathlib.Core.Path.{◌≡◌, ◌∙◌}
use native.Mathlib.Omega.{arith}
use Rattle.lists.proofs.Deciding.{alike}
use Rattle.masks.proofs.Member.{shifted}
use Rattle.texts.proofs.Parts.{part_start, part_room, part_next}
use Rattle.buchi_rows.specs.Writing.{meet?, limit_row, limit_rows}
use Rattle.buchi_rows.proofs.Kept.{meet_decides, kept_row, kept_past}
use Rattle.buchi_rows.proofs.LimitsWritten.put.Goals as goal
use Rattle.buchi_rows.proofs.LimitsWritten.put.Goals.{then-meets, else-meets}

pub loop-low-init : goal.loop-low-init
unfolding limit_rows
loop-low-init c = part_start _ c.args.buf.now

pub put_at-next-requires : goal.put_at-next-requires
put_at-next-requires c =
    let a = c.args.self.now.0 in
    let e : meet? c.loop-low.low a.marked ≡ c.meets.result = alike (meet_decides _ _) c.meets.ensures (λ x. x) (λ x. x) in
    let l : c.loop-low.low < 2 ^ a.states = omega (arith, c.loop-low-test.true, shifted a.states (omega (arith, a.at_most_six))) in
    part_room c.loop-low.invariant _ _ (kept_row limit_row _ c.loop-low.low (2 ^ a.states) l (e ∙ c.if-meets.true)) c.requires

pub loop-low-preserved : goal.loop-low-preserved
loop-low-preserved c =
    let a = c.args.self.now.0 in
    let e : meet? c.loop-low.low a.marked ≡ c.meets.result = alike (meet_decides _ _) c.meets.ensures (λ x. x) (λ x. x) in
    let l : c.loop-low.low < 2 ^ a.states = omega (arith, c.loop-low-test.true, shifted a.states (omega (arith, a.at_most_six))) in
    elim c.if-meets.branch [
      | then-meets w ↦ rw (w.buf-is, w.next-is) (part_next c.loop-low.invariant _ _ (kept_row limit_row _ c.loop-low.low (2 ^ a.states) l (e ∙ w.if-meets.true)) w.put_at-next.ensures)
      | else-meets w ↦ rw (w.buf-is, w.next-is) (rw (kept_past limit_row (λ P. meet? P a.marked) c.loop-low.low (2 ^ a.states) l (e ∙ w.if-meets.false)) at c.loop-low.invariant)
    ]

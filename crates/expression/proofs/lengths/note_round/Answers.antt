-- `expression::lengths::note_round` meets its contract. The loop's invariant: the lengths at places below the slot are noted.
use Prim.Native.Nat.{◌<◌}
use mathlib.Core.Path.{◌∙◌}
use native.Mathlib.Omega.{arith}
use lib.ListN.{length-set}
use Rattle.expression.proofs.Noting.{note_more, note_past}
use Rattle.expression.proofs.lengths.note_round.Goals.{then-opened-slot, else-opened-slot}
use Rattle.expression.proofs.lengths.note_round.Goals as goal

pub loop-slot-preserved : goal.loop-slot-preserved
loop-slot-preserved c =
    let a = c.args in
    let W = a.letters.now.words.now in
    let n = a.letters.now.count in
    let bytes = c.loop-slot.bytes in
    let slot = c.loop-slot.slot in
    let inv = c.loop-slot.invariant in
    let low : slot < 128 = omega arith in
    elim c.if-opened-slot.branch [
      | then-opened-slot w ↦ (
        rw w.bytes-is (length-set bytes slot w.of_slot.result ∙ inv.0),
        rw w.bytes-is (note_more W n a.back.now a.set_count a.opened.now a.round a.most a.bytes.now slot bytes w.of_slot.result inv.1 inv.0 low c.requires.1 w.if-opened-slot.true w.of_slot.ensures),
      )
      | else-opened-slot w ↦ (
        rw w.bytes-is inv.0,
        rw w.bytes-is (note_past W n a.back.now a.set_count a.opened.now a.round a.most a.bytes.now slot bytes inv.1 w.if-opened-slot.false),
      )
    ]

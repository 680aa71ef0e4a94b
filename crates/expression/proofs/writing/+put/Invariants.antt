-- `put` meets its contract. It calls itself with frames of earlier rounds: the measure is the frame's round. The loop's invariant: of every
-- machine at hand, the parts before the cursor are written.
use Prim.Native.Nat.{◌≤◌}
use mathlib.Core.Path.{◌≡◌}
use lib.ListN.{length}
use Rattle.tours.specs.Cursors.{size_of}
use Rattle.expression.proofs.Going.{Going}
use Rattle.expression.proofs.writing.+put.Given as goal

abbrev pub decreases-put : goal.decreases-put
decreases-put l = l.frame.round

abbrev pub invariant-loop-next : goal.invariant-loop-next
invariant-loop-next l =
    (l.at ≤ length l.buf) × (length l.buf ≡ length l.initial.buf)
    × Going l.letters.words.now l.letters.count l.back l.set_count l.opened l.frame l.initial.buf l.layers l.next l.buf l.at

abbrev pub decreases-loop-next : goal.decreases-loop-next
decreases-loop-next l = size_of l.next

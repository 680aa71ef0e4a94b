-- `expression::lengths::of_frame` meets its contract. The loop's invariant: the parts before the cursor are measured. The measure is the most parts
-- that may be left.
use Rattle.tours.specs.Cursors.{size_of}
use Rattle.expression.proofs.Summing.{Sums}
use Rattle.expression.proofs.lengths.of_frame.Given as goal

abbrev pub invariant-loop-next : goal.invariant-loop-next
invariant-loop-next l = Sums l.letters.words.now l.letters.count l.back l.set_count l.bytes l.frame l.most l.layers l.next l.length

abbrev pub decreases-loop-next : goal.decreases-loop-next
decreases-loop-next l = size_of l.next

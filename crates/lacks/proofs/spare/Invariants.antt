-- `lacks::spare` meets its contract. The loop takes one place after another out of the masks at the entrances of its set.
use Rattle.lacks.proofs.Taking.{Sparing}
use Rattle.lacks.proofs.spare.Given as goal

abbrev pub invariant-loop-i : goal.invariant-loop-i
invariant-loop-i l = Sparing l.graph l.pieces l.i-iterator.rest l.initial.lack l.lack

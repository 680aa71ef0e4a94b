-- `lacks::some_has` meets its contract. The loop's invariant: the mask has the places of the masks that are passed.
use Rattle.lacks.proofs.Taking.{United}
use Rattle.lacks.proofs.some_has.Given as goal

abbrev pub invariant-loop-places : goal.invariant-loop-places
invariant-loop-places l = United l.lack l.r l.places-index

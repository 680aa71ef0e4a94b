-- `lacks::above` meets its contract. The loop's invariant: the mask has the places whose sets have the states of p that are passed.
use Rattle.lacks.proofs.Raising.{Raised}
use Rattle.lacks.proofs.above.Given as goal

abbrev pub invariant-loop-s : goal.invariant-loop-s
invariant-loop-s l = Raised l.graph.sets l.places l.p l.s-iterator.rest l.r

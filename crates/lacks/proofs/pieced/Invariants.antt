-- `lacks::pieced` meets its contract. The loop's invariant: the mask has the places below i of sets with entrance and exit.
use Rattle.lacks.specs.Lacks.{PiecedBelow}
use Rattle.lacks.proofs.pieced.Given as goal

abbrev pub invariant-loop-i : goal.invariant-loop-i
invariant-loop-i l = PiecedBelow l.graph l.i l.r

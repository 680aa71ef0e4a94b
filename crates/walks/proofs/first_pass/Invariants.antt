-- `walks::first_pass` meets its contract. The loop's invariant: no place that is passed has a step.
use Rattle.masks.proofs.Gathering.{Gathered}
use Rattle.walks.proofs.Choices.{Enters}
use Rattle.walks.proofs.first_pass.Given as goal

abbrev pub invariant-loop-i : goal.invariant-loop-i
invariant-loop-i g l = Gathered (Enters l.sets l.here l.there l.places l.a l.layer) l.places l.i-iterator.rest 0

-- `masks::add_source` meets its contract. The loop stores at each place of `m` the mask there with the source.
use Rattle.masks.proofs.Storing.{Storing}
use Rattle.masks.proofs.Turning.{WithSource}
use Rattle.masks.proofs.add_source.Given as goal

abbrev pub invariant-loop-s : goal.invariant-loop-s
invariant-loop-s l = Storing (WithSource l.initial.back l.m l.i) l.initial.back l.m l.s-iterator.rest l.back

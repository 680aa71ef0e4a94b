-- `struck_sets` meets its contract. The loop's invariant: the places are those of the first i sets that have a struck state.
use Rattle.automaton.specs.Striking.{StruckSets}
use Rattle.automaton.proofs.struck_sets.Given as goal

abbrev pub invariant-loop-i : goal.invariant-loop-i
invariant-loop-i l = StruckSets l.graph l.i l.struck l.places

-- `run_rounds` meets its contract. The loop's invariant: what is lacking is so with the claims in force, and of any rows that the automaton may be
-- of, the arrays are those of the machine after as many rounds, and what the next one opens is awaited at the places.
use mathlib.Core.List.{List}
use Rattle.rows.specs.declared.Row.{Row}
use Rattle.machine.specs.declared.Phase.TheVariants.{Running}
use Rattle.search.specs.Hops.{Reached}
use Rattle.lacks.specs.Lacks.{PiecedBelow}
use Rattle.candidates.specs.Promises.{Awaited}
use Rattle.rounds.specs.Promises.{Given}
use Rattle.rounds.proofs.Settled.{Stage, Tracked}
use Rattle.rounds.proofs.run_rounds.Given as goal

abbrev pub invariant-loop-done : goal.invariant-loop-done
invariant-loop-done l =
    PiecedBelow l.graph l.set_count l.trial.pieces × Tracked l.graph l.set_count l.trial l.lacks
    × Reached l.graph l.trial.force l.ends.initials l.seen
    × ((rows : List Row) → Given rows l.graph l.ends.initials l.ends.finals l.set_count
    → Stage rows l.graph l.set_count l.trial.force l.loop_rounds l.mix_rounds Running l.done × Awaited l.graph l.trial.force l.set_count l.trial.places)

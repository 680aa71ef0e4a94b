-- `leave_out` meets its contract. The loop's invariant: struck states are left out of the first i masks.
use Rattle.automaton.specs.Striking.{LeavesOut}
use Rattle.automaton.proofs.leave_out.Given as goal

abbrev pub invariant-loop-i : goal.invariant-loop-i
invariant-loop-i l = LeavesOut l.initial.graph l.base l.i l.gone l.struck l.graph

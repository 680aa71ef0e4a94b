-- `rounds_until` meets its contract. The loop's invariant: after calls that left the machine not open, k rounds were done.
use mathlib.Core.List.{List}
use Rattle.machine.specs.Causes.{NotOpen}
use Rattle.machine.specs.Marks.{MarkedCall}
use Rattle.machine.specs.Statements.{after_calls}
use Rattle.callers.specs.Handed.{HandedBack}
use Rattle.callers.proofs.Handed.{Rounding}
use Rattle.callers.proofs.sequences.rounds_until.Given as goal

abbrev pub invariant-loop-done : goal.invariant-loop-done
invariant-loop-done l = (cs : List MarkedCall) → HandedBack cs l.initial.s → NotOpen (after_calls cs).phase → Rounding cs l._done l.s

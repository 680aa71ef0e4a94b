-- `note` meets its contract. The loop stores the round at each place that opened.
use mathlib.Core.Path.{◌≡◌}
use Rattle.masks.proofs.Storing.{Storing}
use Rattle.rounds.proofs.note.Given as goal

abbrev pub invariant-loop-i : goal.invariant-loop-i
invariant-loop-i l = Storing (λ j x. x ≡ l.round) l.initial.rounds l.opened l.i-iterator.rest l.rounds

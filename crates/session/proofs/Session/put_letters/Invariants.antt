-- `put_letters` meets its contract. The invariant: the letter steps of the rows passed are in the graph.
use mathlib.Core.Path.{◌≡◌}
use lib.ListN.{replicate, take}
use Rattle.automaton.specs.Passed.{LettersPassed}
use Rattle.session.proofs.Session.put_letters.Given as goal

abbrev pub invariant-loop-row : goal.invariant-loop-row
invariant-loop-row l = l.initial.graph ≡ replicate 448 0 → LettersPassed (take l.row-index l.row-items) l.graph l.seen

-- `find` meets its contract: no place that is passed has the word that is sought.
use lib.ListN.{get_or}
use mathlib.Core.Logic.{◌≢◌}
use Rattle.chains.proofs.Passing.{Passed}
use Rattle.chains.proofs.find.Given as goal

abbrev pub invariant-loop-at : goal.invariant-loop-at
invariant-loop-at l = Passed (λ i. get_or l.words i 0 ≢ l.x) l.next l.first l.at-iterator

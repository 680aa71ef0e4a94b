-- `Letters::first_letter` meets its contract. The loop's invariant is `Looked`.
use lib.ListN.{get_or}
use Rattle.walks.proofs.Chained.{Looked}
use Rattle.walks.proofs.letters.Letters.first_letter.Given as goal

abbrev pub invariant-loop-at : goal.invariant-loop-at
invariant-loop-at l = Looked l.self.words.now l.self.next l.a l.layer (get_or l.self.first l.a 0) l.self.count l.at-iterator l.best

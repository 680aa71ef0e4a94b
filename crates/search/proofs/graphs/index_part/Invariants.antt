-- `search::graphs::index_part` meets its contract: the places below i are entered.
use Rattle.search.proofs.Incidence.{Indexing}
use Rattle.search.proofs.graphs.index_part.Given as goal

abbrev pub invariant-loop-i : goal.invariant-loop-i
invariant-loop-i l = Indexing l.initial.graph l.from l.by l.i l.graph

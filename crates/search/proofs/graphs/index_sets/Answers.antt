-- `search::graphs::index_sets` meets its contract, either way.
use Rattle.search.proofs.graphs.index_sets.Goals as goal

pub returns-else-n-lt-MANY_SETS : goal.returns-else-n-lt-MANY_SETS
returns-else-n-lt-MANY_SETS c = c.turn_part.ensures c.args.n

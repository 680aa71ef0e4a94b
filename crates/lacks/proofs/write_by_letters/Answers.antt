-- `lacks::write_by_letters` meets its contract.
use Rattle.lacks.proofs.Taking.{letters_spared}
use Rattle.lacks.proofs.write_by_letters.Goals as goal

pub returns : goal.returns
returns c = letters_spared c.args.graph.now (cc) c.write_unled.ensures c.spare.ensures

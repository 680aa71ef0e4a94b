-- `BuchiMasks::put` meets its contract: the parts follow one another.
use Rattle.buchi_rows.proofs.Kept.{masked_parts}
use Rattle.buchi_rows.proofs.BuchiMasksWritten.put.Goals as goal

pub put-requires : goal.put-requires
put-requires c = let a = c.args.self.now in rw (masked_parts a.states a.start a.marked a.edges) at c.requires

pub returns : goal.returns
returns c = let a = c.args.self.now in rw (masked_parts a.states a.start a.marked a.edges) c.put.ensures

-- `write` meets its contract, with a buffer that has room for any batch, with one that is too short, and with one that is long enough.
use native.Mathlib.Omega.{arith}
use Rattle.buchi_rows.proofs.Kept.{masked_short}
use Rattle.buchi_rows.proofs.write.Goals as goal

pub put-requires : goal.put-requires
put-requires c = let a = c.args.automaton.now in omega (arith, masked_short a.states a.start a.marked a.edges a.at_most_six, c.if-batch-ge-LONGEST.true)

pub put-length-requires : goal.put-length-requires
put-length-requires c = let a = c.args.automaton.now in masked_short a.states a.start a.marked a.edges a.at_most_six

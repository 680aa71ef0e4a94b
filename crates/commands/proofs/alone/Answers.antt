-- `alone` meets its contract: what a word asks for that is found the same as one of the table.
use Rattle.commands.specs.Meaning.{words}
use Rattle.commands.specs.Table.{alone_as}
use Rattle.commands.proofs.Words.{alone_is}
use Rattle.commands.proofs.alone.Goals as goal

pub returns-then-eq-9 : goal.returns-then-eq-9
unfolding words alone_as
returns-then-eq-9 c = let e = alone_is c.args.word.now _ _ c.eq-else-eq-8.result c.as_slice-else-eq-8.ensures c.eq-else-eq-8.ensures c.if-eq-9.true in e

pub returns-then-eq-10 : goal.returns-then-eq-10
unfolding words alone_as
returns-then-eq-10 c = let e = alone_is c.args.word.now _ _ c.eq-else-eq-9.result c.as_slice-else-eq-9.ensures c.eq-else-eq-9.ensures c.if-eq-10.true in e

pub returns-then-eq-11 : goal.returns-then-eq-11
unfolding words alone_as
returns-then-eq-11 c = let e = alone_is c.args.word.now _ _ c.eq-else-eq-10.result c.as_slice-else-eq-10.ensures c.eq-else-eq-10.ensures c.if-eq-11.true in e

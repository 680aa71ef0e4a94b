-- `texts::digit_byte` meets its contract.
use borrow.Author.Tests.{lt-ltb}
use Rattle.texts.proofs.digit_byte.Goals as goal

pub returns : goal.returns
returns c = rw (lt-ltb c.args.d 10 c.requires)

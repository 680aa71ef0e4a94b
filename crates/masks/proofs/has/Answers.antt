-- `masks::has` meets its contract.
use Rattle.masks.proofs.Member.{has_test}
use Rattle.masks.proofs.has.Goals as goal

pub returns : goal.returns
returns c = has_test c.args.m c.args.s c.requires

-- `masks::intersection` meets its contract.
use Rattle.masks.proofs.Member.{member_and}
use Rattle.masks.proofs.intersection.Goals as goal

pub returns : goal.returns
returns c t = member_and t c.args.a c.args.b

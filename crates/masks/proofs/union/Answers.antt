-- `masks::union` meets its contract.
use Rattle.masks.proofs.Member.{member_or}
use Rattle.masks.proofs.union.Goals as goal

pub returns : goal.returns
returns c t = member_or t c.args.a c.args.b

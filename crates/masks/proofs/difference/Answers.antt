-- `masks::difference` meets its contract.
use Rattle.masks.proofs.Member.{member_difference}
use Rattle.masks.proofs.difference.Goals as goal

pub returns : goal.returns
returns c t = member_difference t c.args.a c.args.b c.ranges.b.fits

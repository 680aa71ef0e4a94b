-- `masks::lowest` meets its contract.
use native.Mathlib.Omega.{arith}
use Rattle.masks.proofs.Count.{lowest_is}
use Rattle.masks.proofs.Member.{member_lt}
use Rattle.masks.proofs.lowest.Goals as goal

pub overflow_cast-result : goal.overflow_cast-result
overflow_cast-result c = omega (arith, member_lt _ c.args.m (lowest_is c.args.m c.requires c.ranges.m.fits).0)

pub returns : goal.returns
returns c = let both = lowest_is c.args.m c.requires c.ranges.m.fits in record { is = both.0; least = both.1 }

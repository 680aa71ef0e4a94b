-- `masks::size` meets its contract.
use mathlib.Core.Path.{refl}
use native.Mathlib.Omega.{arith}
use lib.Count.{ones-le}
use Rattle.masks.proofs.size.Goals as goal

pub overflow_cast-result : goal.overflow_cast-result
overflow_cast-result c = omega (arith, ones-le 64 c.args.m c.ranges.m.fits)

pub returns : goal.returns
returns c = record { is = refl; most = ones-le 64 c.args.m c.ranges.m.fits }

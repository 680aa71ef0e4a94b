-- `masks::high_mask` meets its contract.
use Rattle.masks.proofs.Blocks.{high_mask}
use Rattle.masks.proofs.Widths.{width_small}
use Rattle.masks.proofs.high_mask.Goals as goal

pub overflow_shr-result : goal.overflow_shr-result
overflow_shr-result c = (width_small c.requires.0).1

pub returns : goal.returns
returns c = let a = c.args in high_mask a.low a.high a.lower a.b c.requires.0 c.requires.1 c.ranges.lower.fits

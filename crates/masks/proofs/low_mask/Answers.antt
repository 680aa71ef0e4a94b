-- `masks::low_mask` meets its contract.
use Rattle.masks.proofs.Blocks.{low_mask}
use Rattle.masks.proofs.Widths.{width_small}
use Rattle.masks.proofs.low_mask.Goals as goal

pub overflow_shl-result : goal.overflow_shl-result
overflow_shl-result c = (width_small c.requires.0).1

pub returns : goal.returns
returns c = let a = c.args in low_mask a.low a.high a.lower a.b c.requires.0 c.requires.1

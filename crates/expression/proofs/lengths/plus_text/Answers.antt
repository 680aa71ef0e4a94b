-- `expression::lengths::plus_text` meets its contract.
use Rattle.expression.proofs.lengths.plus_text.Goals as goal

pub returns : goal.returns
returns c x y h k = let e = rw c.in_ok-text.was at k in rw e.0 at (c.plus.ensures x h)

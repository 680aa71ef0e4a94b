-- `tours::legs::whole` meets its contract.
use Rattle.tours.proofs.Laid.{whole_down}
use Rattle.tours.proofs.legs.whole.Goals as goal

pub returns : goal.returns
returns c m g words n k held framed = whole_down held framed _ c.zero_or_more.result c.zero_or_more.ensures.laid

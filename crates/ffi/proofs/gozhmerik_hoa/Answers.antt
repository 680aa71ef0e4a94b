-- `gozhmerik_hoa` meets its contract: the answer is that of the conversion.
use Rattle.ffi.proofs.Calling.{called_hoa}
use Rattle.ffi.proofs.gozhmerik_hoa.Goals as goal

pub returns : goal.returns
returns c = search called_hoa

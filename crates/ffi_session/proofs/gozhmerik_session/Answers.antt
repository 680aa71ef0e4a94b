-- `gozhmerik_session` meets its contract: the answer is that of the calls.
use Rattle.ffi_session.proofs.Calling.{called_session}
use Rattle.ffi_session.proofs.gozhmerik_session.Goals as goal

pub returns : goal.returns
returns c = search called_session

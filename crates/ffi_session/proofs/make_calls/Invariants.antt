-- `make_calls` meets its contract. The loop's invariant: the calls of the bytes before the place were made.
use Rattle.ffi_session.proofs.Calling.{Making}
use Rattle.ffi_session.proofs.make_calls.Given as goal

abbrev pub invariant-loop-byte : goal.invariant-loop-byte
invariant-loop-byte l = Making l.batch l.calls l.initial.buffer l.byte-index l.reply l.buffer

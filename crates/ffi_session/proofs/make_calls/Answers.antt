-- `make_calls` meets its contract. The loop's invariant: the calls of the bytes before the place were made.
use Prim.Native.Nat.{◌≤◌, ◌<◌}
use native.Mathlib.Omega.{arith}
use lib.ListN.{length}
use Rattle.ffi_session.proofs.Calling.{making_start, making_more, making_end}
use Rattle.ffi_session.proofs.make_calls.Goals as goal

pub loop-byte-init : goal.loop-byte-init
loop-byte-init c = let s = c.args in
    making_start s.batch.now s.calls.now s.buffer.now c.fresh.result c.fresh.ensures

pub loop-byte-preserved : goal.loop-byte-preserved
loop-byte-preserved c =
    let s = c.args in
    let l : c.loop-byte.byte-index < length s.calls.now = omega arith in
    making_more s.batch.now s.calls.now s.buffer.now l c.loop-byte.invariant c.make_call-reply.auto.buffer c.make_call-reply.ensures

pub shape_of-buffer : goal.shape_of-buffer
shape_of-buffer c = c.loop-byte.invariant.same

pub returns : goal.returns
returns c =
    let s = c.args in
    let l : length s.calls.now ≤ c.loop-byte.byte-index = omega arith in
    making_end s.batch.now s.calls.now s.buffer.now l c.loop-byte.invariant

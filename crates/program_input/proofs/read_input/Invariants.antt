-- `read_input` meets its contract: each piece goes behind the bytes that were read.
use Rattle.std.proofs.Common.{◌-◌, ◌≤◌, length}
use Rattle.program_input.proofs.read_input.Given as goal

abbrev pub invariant-loop-at : goal.invariant-loop-at
invariant-loop-at g l = l.at ≤ length l.buffer

abbrev pub decreases-loop-at : goal.decreases-loop-at
decreases-loop-at g l = length l.initial.buffer - l.at

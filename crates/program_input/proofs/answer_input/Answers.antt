-- `answer_input` meets its contract: what is handed on was read, and the buffer sees longer input.
use native.Mathlib.Omega.{arith}
use Rattle.program_input.proofs.answer_input.Goals as goal

pub read_input-requires : goal.read_input-requires
read_input-requires g c = omega (arith, c.requires.room)

pub slice_bounds-answer-end : goal.slice_bounds-answer-end
slice_bounds-answer-end g c = omega (arith, c.in-Ok.ensures)

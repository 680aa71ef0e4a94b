-- `same` meets its contract: the texts are the same up to the place.
use Rattle.std.proofs.Common.{◌≡◌, length, take}
use Rattle.program_output.proofs.same.Given as goal

abbrev pub invariant-loop-i : goal.invariant-loop-i
invariant-loop-i l = record { as_long : length l.a ≡ length l.b; same : take l.i l.a ≡ take l.i l.b }

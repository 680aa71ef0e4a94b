-- `masks::exchange_blocks` meets its contract: the masks below g are done.
use Prim.Native.Nat.{◌*◌, ◌%◌}
use mathlib.Core.Path.{◌≡◌}
use Rattle.masks.proofs.Blocks.{Blocked}
use Rattle.masks.proofs.exchange_blocks.Given as goal

abbrev pub invariant-loop-g : goal.invariant-loop-g
invariant-loop-g l = (l.g % (2 * l.b) ≡ 0) × Blocked l.b l.initial.m l.g l.m

-- `has_room` meets its contract.
use Prim.Native.Nat.{ℕ, ◌+◌, ◌-◌, ◌≤◌, ◌<◌}
use mathlib.Core.Bool.{false}
use lib.Dec.{leb}
use native.Mathlib.Omega.{arith}
use Rattle.lists.specs.Tests.{Decides}
use Rattle.lists.proofs.Deciding.{iff_decides, leb_decides, says_no}
use Rattle.expression.proofs.writing.has_room.Goals as goal

room : (len at n : ℕ) → at ≤ len → Decides (leb n (len - at)) (at + n ≤ len)
room len at n h = iff_decides {A = n ≤ len - at} (λ i. omega arith) (λ i. omega arith) (leb_decides n (len - at))

no_room : (len at n : ℕ) → len < at → Decides false (at + n ≤ len)
no_room len at n h = says_no (λ i. omega arith)

pub returns-then-at-len : goal.returns-then-at-len
returns-then-at-len c = room _ _ _ c.if-at-len.true

pub returns-else-at-len : goal.returns-else-at-len
returns-else-at-len c = no_room _ _ _ c.if-at-len.false

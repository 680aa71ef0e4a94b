-- `lists::write_over` meets its contract: the elements below i are written.
use Rattle.std.proofs.Common.{◌≡◌, take}
use Rattle.lists.proofs.write_over.Given as goal

abbrev pub invariant-loop-i : goal.invariant-loop-i
invariant-loop-i g l = take l.i l.to ≡ take l.i l.from

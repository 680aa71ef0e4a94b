-- `FoundWalk::new` meets its contract. The invariant: the letters of the steps read are bytes.
use lib.ListN.{take}
use Rattle.walks.specs.Found.{ByteLetters}
use Rattle.walks.proofs.found.FoundWalk.new.Given as goal

abbrev pub invariant-loop-i : goal.invariant-loop-i
invariant-loop-i l = ByteLetters (take l.i l.steps)

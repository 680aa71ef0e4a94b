-- `read_body` meets its contract. The loop's invariant: the states up to the place, and the masks of them.
use Prim.Native.Nat.{◌-◌}
use lib.ListN.{length}
use Rattle.hoa_files.proofs.BodyRead.{BodyRead}
use Rattle.hoa_files.proofs.body.read_body.Given as goal

abbrev pub invariant-loop-is_marked : goal.invariant-loop-is_marked
invariant-loop-is_marked l = BodyRead l.file l.head.states l.head.start l.at l.count l.marked l.edges

abbrev pub decreases-loop-is_marked : goal.decreases-loop-is_marked
decreases-loop-is_marked l = length l.file - l.at

-- `rounds::open_mask` meets its contract. The loop's invariant: the mask has the places below i whose round is not 0.
use native.Mathlib.Omega.{arith}
use Rattle.masks.proofs.Marking.{marked_start, marked_end}
use Rattle.rounds.proofs.open_mask.Invariants.{Opened}
use Rattle.rounds.proofs.open_mask.Goals as goal

pub loop-i-init : goal.loop-i-init
loop-i-init c = marked_start (Opened c.args.rounds.now)

pub returns : goal.returns
returns c = marked_end (Opened c.args.rounds.now) _ _ _ c.loop-i.invariant (omega arith) (omega arith)

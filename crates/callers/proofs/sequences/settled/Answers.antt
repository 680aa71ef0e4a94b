-- `settled` meets its contract: closed, the machine is not open.
use mathlib.Core.List.{[], ◌∷◌}
use Rattle.machine.specs.Calls.{load, close}
use Rattle.machine.specs.Marks.{on}
use Rattle.callers.proofs.Handed.{closed_not_open}
use Rattle.callers.proofs.sequences.settled.Goals as goal

pub returns : goal.returns
returns c =
    let b = c.args.batch.now in
    c.rounds_until.ensures (on (load b) ∷ on close ∷ []) c.closed-r.ensures (closed_not_open b)

-- `closed` meets its contract.
use mathlib.Core.List.{[], ◌∷◌}
use Rattle.machine.specs.Calls.{load, close}
use Rattle.machine.specs.Marks.{on}
use Rattle.demands.specs.Trace.{exchange}
use Rattle.callers.proofs.Handed.{one_more, first_handed}
use Rattle.callers.proofs.sequences.closed.Goals as goal

pub returns : goal.returns
returns c = let b = c.args.batch.now in let r = c.loaded-r.result in
    one_more (on (load b) ∷ []) r.session (first_handed (on (load b)) [] [] r c.loaded-r.ensures) (exchange (on close) [] [] c.call_close.result) c.call_close.ensures

-- `verdict_first` meets its contract.
use mathlib.Core.List.{[], ◌∷◌}
use Rattle.machine.specs.Calls.{load, close, verdict}
use Rattle.machine.specs.Marks.{on}
use Rattle.callers.proofs.Handed.{asked_not_open, asked_handed, judges_twice}
use Rattle.callers.proofs.sequences.verdict_first.Goals as goal

pub returns : goal.returns
returns c =
    let b = c.args.batch.now in
    let h = asked_handed b c.loaded-l.result c.call_verdict-v.result c.loaded-l.ensures c.call_verdict-v.ensures c.call_close-c.result c.call_close-c.ensures in
    judges_twice b c.loaded-l.result c.call_verdict-v.result c.loaded-l.ensures c.call_verdict-v.ensures c.rounds_until-s.result c.call_verdict-again.result
    (c.rounds_until-s.ensures (on (load b) ∷ on verdict ∷ on close ∷ []) h (asked_not_open b)) c.call_verdict-again.ensures

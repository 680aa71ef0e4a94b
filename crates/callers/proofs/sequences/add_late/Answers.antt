-- `add_late` meets its contract.
use Rattle.callers.proofs.Handed.{reworks, adds_late}
use Rattle.callers.proofs.sequences.add_late.Goals as goal

pub returns : goal.returns
returns c cs h =
    let a = c.args in
    let w = reworks cs _ h a.batch.now a.first.now c.call_print-p.new.buffer c.call_print-p.result c.call_reopen-o.result c.call_load-l.result c.call_close-c.result
    c.call_print-p.ensures c.call_reopen-o.ensures c.call_load-l.ensures c.call_close-c.ensures in
    adds_late cs a.batch.now a.first.now c.call_print-p.new.buffer a.second.now c.call_print-again.new.buffer c.call_print-p.result c.call_print-again.result c.call_close-c.result.session
    c.rounds_until-s.result w (c.rounds_until-s.ensures _ w.handed w.not_open) c.call_print-again.ensures

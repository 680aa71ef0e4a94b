-- `refused_first` meets its contract.
use Rattle.callers.proofs.Handed.{refuses_first}
use Rattle.callers.proofs.sequences.refused_first.Goals as goal

pub returns : goal.returns
returns c =
    let a = c.args in
    refuses_first a.batch.now a.buffer.now c.call_print-p.new.buffer c.call_fresh-s.result c.call_print-p.result c.call_round-q.result c.call_load-loaded.result
    c.call_fresh-s.ensures c.call_print-p.ensures c.call_round-q.ensures c.call_load-loaded.ensures

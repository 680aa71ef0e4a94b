-- `try_variant` meets its contract.
use Rattle.callers.proofs.Variants.{tries_variant}
use Rattle.callers.proofs.sequences.try_variant.Goals as goal

pub returns : goal.returns
returns c cs h =
    let a = c.args in
    tries_variant cs _ h a.name.now a.batch.now c.call_mark-m.result c.call_load-l.result c.call_return-back.result
    c.call_mark-m.ensures c.call_load-l.ensures c.call_return-back.ensures

-- `gozhmerik_expression` meets its contract: the answer is that of the checker, on the bytes that are lent.
use Rattle.ffi.proofs.Calling.{called_expression}
use Rattle.ffi.proofs.gozhmerik_expression.Goals as goal

pub returns : goal.returns
returns c =
    let a = c.args in
    called_expression a.batch.now a.text.now c.expression.new.text c.lent-n.result c.lent-n.ensures.0 c.lent-n.ensures.1 c.expression.auto.text
    c.expression.result c.expression.ensures a.place.now c.code.new.place c.code.result c.code.ensures

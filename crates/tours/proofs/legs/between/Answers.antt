-- `tours::legs::between` meets its contract.
use Rattle.tours.proofs.Laid.{between_down}
use Rattle.tours.proofs.legs.between.Goals as goal

pub returns : goal.returns
returns c q ha hb m g words n k held framed =
    let a = c.args in
    between_down held framed a.a a.b ha hb c.with.result c.with-2.result c.with.ensures c.with-2.ensures a.a _ c.one_or_more.result c.one_or_more.ensures.laid

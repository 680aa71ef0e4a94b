-- `tours::begin` meets its contract.
use Rattle.std.specs.Prelude.{Some}
use Rattle.tours.proofs.Coming.{begins_whole, begins_tour, begins_pieces}
use Rattle.tours.proofs.begin.Goals as goal

pub returns-in-Whole : goal.returns-in-Whole
returns-in-Whole c = let a = c.args in begins_whole a.back.now a.frame _ (Some c.lead.result) c.in-Whole.is c.lead.ensures.comes

pub returns-in-Tour : goal.returns-in-Tour
returns-in-Tour c =
    let a = c.args in
    begins_tour a.back.now a.frame _ c.onward.result c.in-Tour.q c.above-higher.result c.difference-others.result
    c.in-Tour.is c.above-higher.ensures c.difference-others.ensures c.onward.ensures.comes

pub returns-in-Pieces : goal.returns-in-Pieces
returns-in-Pieces c = let a = c.args in begins_pieces a.back.now a.frame _ c.onward-in-Pieces.result c.in-Pieces.is c.onward-in-Pieces.ensures.comes

-- `search::graphs::index_part` meets its contract: the places below i are entered.
use mathlib.Core.Path.{◌≡◌}
use native.Mathlib.Omega.{arith}
use Rattle.search.proofs.Incidence.{indexing_none, indexing_more, indexing_end}
use Rattle.search.proofs.graphs.index_part.Goals as goal

pub loop-i-init : goal.loop-i-init
loop-i-init c = indexing_none _ _ _

pub loop-i-preserved : goal.loop-i-preserved
loop-i-preserved c =
    let a = c.args in
    let p = c.requires in
    indexing_more a.graph.now a.from a.by p.0 c.loop-i.i c.loop-i.graph c.add_place.new.graph (omega arith) p.1 c.loop-i.invariant c.add_place.ensures

pub returns : goal.returns
returns c =
    let a = c.args in
    let p = c.requires in
    let e : c.loop-i.i ≡ a.n = omega arith in
    indexing_end a.graph.now a.from a.by p.0 a.n c.loop-i.graph p.2 (rw e at c.loop-i.invariant)

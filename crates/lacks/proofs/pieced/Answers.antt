-- `lacks::pieced` meets its contract. The loop's invariant: the mask has the places below i of sets with entrance and exit.
use mathlib.Core.Path.{◌≡◌}
use native.Mathlib.Omega.{arith}
use Rattle.masks.proofs.Marking.{marked_start}
use Rattle.search.proofs.Opening.{below_next}
use Rattle.lacks.specs.Lacks.{Pieced}
use Rattle.lacks.proofs.pieced.Goals as goal

pub loop-i-init : goal.loop-i-init
loop-i-init c = marked_start (Pieced c.args.graph.now)

pub loop-i-preserved : goal.loop-i-preserved
loop-i-preserved c =
    let got = c.marked in
    let test = c.is_pieced.ensures in
    let at = c.loop-i in
    below_next at.i at.r got.result c.union-r.result at.invariant
    (λ t. let g = got.ensures t in ((λ h. ((g.0 h).0, test.to (g.0 h).1)), λ h. g.1 (h.0, test.of h.1))) c.union-r.ensures

pub returns : goal.returns
returns c =
    let e : c.loop-i.i ≡ c.args.set_count = omega arith in
    rw e at c.loop-i.invariant

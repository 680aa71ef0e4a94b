-- `lacks::some_has` meets its contract. The loop's invariant: the mask has the places of the masks that are passed.
use native.Mathlib.Omega.{arith}
use Rattle.lacks.proofs.Taking.{united_start, united_more}
use Rattle.lacks.proofs.some_has.Goals as goal

pub loop-places-init : goal.loop-places-init
loop-places-init c = united_start c.args.lack.now

pub loop-places-preserved : goal.loop-places-preserved
loop-places-preserved c = united_more c.args.lack.now c.loop-places.r c.loop-places.places-index c.union-r.result c.loop-places.invariant c.union-r.ensures

pub returns : goal.returns
returns c i =
    let all = c.loop-places.invariant i in
    ((λ h. let x = all.0 h in (x.0, x.1, omega (arith, x.2))), λ h. all.1 (h.0, h.1, omega (arith, h.2)))

-- `lacks::Lacks::supply` meets its contract. The loop supplies the claims about one place after another.
use Rattle.masks.proofs.Gathering.{gather_from, gather_more, gather_end}
use Rattle.masks.proofs.Passing.{begun}
use Rattle.lacks.proofs.Supplying.{supplying_from, supplying_more, supplying_end, above_new}
use Rattle.lacks.proofs.Lacks.supply.Goals as goal

pub loop-i-init : goal.loop-i-init
loop-i-init c =
    let a = c.args in
    let all = begun c.into_iter-i-iterator.ensures.into_iter_gives c.each-i-items.ensures in (
      supplying_from a.graph.now a.new a.led a.live a.self.now.to all,
      (λ back turned. supplying_from back a.new a.led a.live a.self.now.from all),
      gather_from all,
    )

pub loop-i-preserved : goal.loop-i-preserved
loop-i-preserved c =
    let claim = c.supply_claim in
    let a = c.args in
    let k = c.in-Some.ensures.steps in
    let inv = c.loop-i.invariant in (
      supplying_more a.graph.now a.new a.led a.live k inv.0 claim.ensures.forward,
      (λ back turned. supplying_more back a.new a.led a.live k (inv.1 back turned) (claim.ensures.backward back turned)),
      gather_more c.loop-i.r claim.result c.union-r.result k inv.2 claim.ensures.above c.union-r.ensures,
    )

pub returns : goal.returns
returns c =
    let all = c.places-places in
    let a = c.args in
    let g = a.graph.now in
    let inv = c.loop-i.invariant in
    let none = c.in-None.ensures.steps.0 in record {
      forward = supplying_end g a.new a.led a.live all.ensures inv.0 none;
      backward = (λ back turned. supplying_end back a.new a.led a.live all.ensures (inv.1 back turned) none);
      above = above_new g a.new a.led a.live all.result c.loop-i.r all.ensures (gather_end inv.2 none);
    }

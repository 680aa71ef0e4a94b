-- `masks::targets` meets its contract. The loop gathers the targets of each state of `m`.
use lib.ListN.{get_or}
use Rattle.masks.proofs.Gathering.{gather_from, gather_more, gather_end}
use Rattle.masks.proofs.Passing.{begun}
use Rattle.masks.proofs.targets.Goals as goal

pub loop-s-init : goal.loop-s-init
loop-s-init c = gather_from (begun c.into_iter-s-iterator.ensures.into_iter_gives c.each-s-items.ensures)

pub loop-s-preserved : goal.loop-s-preserved
loop-s-preserved c =
    gather_more c.loop-s.r (get_or c.args.succ.now c.in-Some.s 0) c.union-r.result
    c.in-Some.ensures.steps c.loop-s.invariant (λ t. (λ h. h, λ h. h)) c.union-r.ensures

pub returns : goal.returns
returns c =
    let all = gather_end c.loop-s.invariant c.in-None.ensures.steps.0 in record {
      sound = λ t h. let x = (all t).0 h in record { source = x.0; is = x.1; edge = x.2 };
      complete = λ t w. (all t).1 (w.source, w.is, w.edge);
    }

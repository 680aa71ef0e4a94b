-- `masks::take_lowest` meets its contract.
use mathlib.Core.Path.{refl, subst, sym}
use native.Mathlib.Omega.{arith}
use Rattle.masks.specs.Mask.{◌∈◌}
use Rattle.masks.proofs.Count.{ones_grows}
use Rattle.masks.proofs.Leaving.{lowest_left_out}
use Rattle.masks.proofs.Member.{member_lt}
use Rattle.masks.proofs.take_lowest.Goals as goal

pub returns : goal.returns
returns c =
    let m = c.args.m in
    let rest = c.intersection.result in
    let low = c.lowest.result in
    let is = c.lowest.ensures.is in
    let least = c.lowest.ensures.least in
    let others = lowest_left_out m rest c.requires c.intersection.ensures low is least in
    record {
      is = is;
      small = member_lt low m is;
      least = least;
      others = others;
      fewer = ones_grows rest m c.intersection.type_inv c.ranges.m.fits (λ t h. ((others t).0 h).0)
          (λ e. ((others low).0 (subst (λ n. low ∈ n) (sym e) is)).1 refl);
    }

pub overflow_sub-m : goal.overflow_sub-m
overflow_sub-m c = omega arith

-- `lacks::take_out` meets its contract. The loop stores at each state of `m` the mask there without the places.
use Prim.Native.Nat.{ℕ}
use mathlib.Core.Path.{subst}
use mathlib.Core.Logic.{⊎_elim}
use lib.ListN.{get_or}
use native.Mathlib.Omega.{arith}
use Rattle.masks.specs.Mask.{member, ◌∈◌}
use Rattle.masks.proofs.Member.{in_none, not_both, true_or_false, difference_left, difference_not}
use Rattle.masks.proofs.Passing.{begun}
use Rattle.masks.proofs.Storing.{storing_from, storing_more, storing_end}
use Rattle.lacks.proofs.take_out.Goals as goal

pub returns-then-places-eq0 : goal.returns-then-places-eq0
returns-then-places-eq0 c = record { left = λ q i h. (h, λ k j. in_none i (subst (λ (x : ℕ). i ∈ x) c.if-places-eq0.true j)) }

pub loop-s-init : goal.loop-s-init
loop-s-init c = storing_from (begun c.into_iter-s-iterator.ensures.into_iter_gives c.each-s-items.ensures)

pub loop-s-preserved : goal.loop-s-preserved
loop-s-preserved c =
    let a = c.args in
    let k = c.in-Some.s in
    let taken = c.in-Some.ensures.steps in
    let now = c.loop-s.invariant in
    let old = get_or c.loop-s.lack k 0 in
    let d = c.difference in
    storing_more c.loop-s.lack d.result taken now (λ i h. (
      subst (λ (x : ℕ). i ∈ x) (now.waits k taken.is) (difference_left old a.places d.result d.ensures i h),
      difference_not old a.places d.result d.ensures i h,
    ))

pub returns : goal.returns
returns c =
    let a = c.args in
    let now = c.loop-s.invariant in
    record {
      left = λ q i h. ⊎_elim (λ k. let x = storing_end now c.in-None.ensures.steps.0 (omega arith) q k i h in (x.0, λ j. x.1))
          (λ k. (subst (λ (x : ℕ). i ∈ x) (now.beyond q k) h, λ j. absurd (not_both j k))) (true_or_false (member q a.m));
    }

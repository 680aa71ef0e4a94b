-- `unstuck` meets its contract.
use mathlib.Core.Logic.{⊎_elim, inl, inr}
use Rattle.masks.proofs.Member.{in_none, difference_left, difference_not, difference_cases}
use Rattle.candidates.proofs.Trial.unstuck.Goals as goal

pub returns-then-self-eq0 : goal.returns-then-self-eq0
returns-then-self-eq0 c i = ((λ h. absurd (in_none i h)), λ x. absurd (in_none i (rw c.if-self-eq0.true at x.0)))

pub returns : goal.returns
returns c i =
    let stuck = c.stuck in
    let p = c.args.self.now.places in
    let r = c.difference.result in
    let is = c.difference.ensures in (
      (λ h. (
        difference_left p stuck.result r is i h,
        (λ q l k. difference_not p stuck.result r is i h ((stuck.ensures i).1 (inl (q, k, l)))),
        λ q l k. difference_not p stuck.result r is i h ((stuck.ensures i).1 (inr (q, k, l))),
      )),
      λ (h, f, g). ⊎_elim (λ k. absurd (⊎_elim (λ y. f y.0 y.2 y.1) (λ y. g y.0 y.2 y.1) ((stuck.ensures i).0 k))) (λ k. k) (difference_cases p stuck.result r is i h),
    )

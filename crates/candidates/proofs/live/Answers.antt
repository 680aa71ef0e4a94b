-- `live` meets its contract.
use mathlib.Core.Logic.{⊎_elim}
use Rattle.masks.proofs.Member.{union_left, union_right, union_cases, difference_left, difference_not, difference_cases}
use Rattle.candidates.proofs.live.Goals as goal

pub returns : goal.returns
returns c i =
    let u = c.places in
    let b = c.below in
    let f = c.args.force in
    let r = c.difference.result in
    let is = c.difference.ensures in (
      (λ h. (
        (b.ensures i).0 (difference_left b.result u.result r is i h),
        (λ k. difference_not b.result u.result r is i h (union_left f.loops f.mixes u.result u.ensures i k)),
        λ k. difference_not b.result u.result r is i h (union_right f.loops f.mixes u.result u.ensures i k),
      )),
      λ (l, p, q). ⊎_elim (λ k. absurd (⊎_elim p q (union_cases f.loops f.mixes u.result u.ensures i k))) (λ k. k)
          (difference_cases b.result u.result r is i ((b.ensures i).1 l)),
    )

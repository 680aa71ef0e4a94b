-- `lacks::unled` meets its contract.
use Rattle.masks.proofs.Member.{in_none, difference_left, difference_not}
use Rattle.lacks.proofs.unled.Goals as goal

pub returns-then-by-eq0 : goal.returns-then-by-eq0
returns-then-by-eq0 c i h = absurd (in_none i h)

pub returns : goal.returns
returns c i h =
    let met = c.meeting in
    let by = c.having-by in
    let less = c.difference in (
      (by.ensures i).0 (difference_left by.result met.result less.result less.ensures i h),
      λ a k j. difference_not by.result met.result less.result less.ensures i h ((met.ensures i).1 (a, k, j)),
    )

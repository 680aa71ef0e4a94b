-- `count_digits` meets its contract: none, and several with a zero at their head, are no number; others are.
use native.Mathlib.Omega.{arith}
use Rattle.hoa_files.proofs.Numerals.{counts_zero, counts_none, counts_run}
use Rattle.hoa_files.proofs.parts.count_digits.Goals as goal

pub returns-in-0 : goal.returns-in-0
returns-in-0 c = counts_zero _ _ c.digits.ensures c.in-0.is

pub returns-in-1 : goal.returns-in-1
returns-in-1 c = counts_run _ 1 (rw c.in-1.is at c.digits.ensures) (omega arith) (λ h. absurd (omega arith))

pub returns-in_default : goal.returns-in_default
returns-in_default c = counts_none _ _ c.digits.ensures (omega arith) c.if-rest-eq48.true

pub returns-in_default-2 : goal.returns-in_default-2
returns-in_default-2 c = counts_run _ _ c.digits.ensures (omega arith) (λ h. c.if-rest-eq48.false)

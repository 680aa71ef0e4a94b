-- `texts::last_digits` meets its contract: no byte of a sum carries into the next.
use Prim.Native.Nat.{ℕ, ◌+◌, ◌/◌}
use native.Mathlib.Omega.{arith}
use lib.Bits.{bit_and, and_le_r}
use Rattle.texts.proofs.Digits.{bytes_of, last_digits_are}
use Rattle.texts.proofs.last_digits.Goals as goal

-- eight bytes of 15, and of 1
abbrev fifteens : ℕ
fifteens = 0x0f0f_0f0f_0f0f_0f0f

abbrev ones : ℕ
ones = 0x0101_0101_0101_0101

pub overflow_add-letters : goal.overflow_add-letters
overflow_add-letters c = omega (arith, and_le_r c.args.x fifteens)

pub overflow_add-result : goal.overflow_add-result
overflow_add-result c = omega (arith, and_le_r c.args.x fifteens)

pub overflow_mul-result : goal.overflow_mul-result
overflow_mul-result c = omega (arith, and_le_r ((bit_and c.args.x fifteens + 0x0606_0606_0606_0606) / 16) ones)

pub overflow_add-result-2 : goal.overflow_add-result-2
overflow_add-result-2 c =
    omega (arith, and_le_r c.args.x fifteens, and_le_r ((bit_and c.args.x fifteens + 0x0606_0606_0606_0606) / 16) ones)

pub returns : goal.returns
unfolding bytes_of
returns c = last_digits_are 8 c.args.x

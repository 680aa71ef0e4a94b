-- `texts::number_len` meets its contract: the digits of n are those of v and the k - 1 that were passed.
use mathlib.Core.Path.{ap}
use native.Mathlib.Omega.{arith}
use lib.ListN.{length}
use Rattle.texts.proofs.Digits.{number_short, number_one, number_longer}
use Rattle.texts.proofs.number_len.Goals as goal

pub overflow_add-k : goal.overflow_add-k
overflow_add-k c = omega (arith, number_short c.args.n (omega arith))

pub loop-v-preserved : goal.loop-v-preserved
loop-v-preserved c = omega (arith, number_longer c.loop-v.v (omega arith))

pub returns : goal.returns
returns c =
    let h = number_short c.args.n (omega arith) in
    let one = ap length (number_one c.loop-v.v (omega arith)) in
    record { is = omega arith; short = omega arith }

-- `Number::put` meets its contract: of three digits and more, its text is as many low digits at base 10 as it has.
use Prim.Native.Nat.{◌/◌}
use mathlib.Core.Path.{ap}
use native.Mathlib.Omega.{arith}
use lib.ListN.{length}
use Rattle.texts.proofs.Digits.{number_one, number_longer, number_low}
use Rattle.texts.proofs.NumberWritten.put.Goals as goal

pub put_one-requires : goal.put_one-requires
put_one-requires c =
    (c.if-self-lt10.true, omega (arith, c.requires, ap length (number_one c.args.self.now.0 c.if-self-lt10.true)))

pub put_two-requires : goal.put_two-requires
put_two-requires c =
    let n = c.args.self.now.0 in
    (omega (arith, c.if-self-lt10.false), c.if-self-lt100.true, omega (arith, c.requires, number_longer n (omega (arith, c.if-self-lt10.false)), ap length (number_one (n / 10) (omega (arith, c.if-self-lt100.true)))))

pub returns : goal.returns
returns c =
    let n = c.args.self.now.0 in
    rw (number_low n) (rw c.number_len.ensures.is at c.put_digits.ensures)

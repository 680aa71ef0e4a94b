-- `masks::below` meets its contract.
use mathlib.Core.Path.{◌≡◌}
use native.Mathlib.Omega.{arith}
use lib.Pow.{pow_pos}
use Rattle.masks.proofs.Member.{below_iff, shifted}
use Rattle.masks.proofs.below.Goals as goal

pub returns-then-n-eq-STATES : goal.returns-then-n-eq-STATES
returns-then-n-eq-STATES c i = let e : c.args.n ≡ 64 = omega arith in rw e (below_iff 64 (omega arith) i)

pub overflow_sub-result : goal.overflow_sub-result
overflow_sub-result c = let n = c.args.n in omega (arith, shifted n (omega arith), pow_pos n)

pub returns : goal.returns
returns c i = let n = c.args.n in rw (shifted n (omega arith)) (below_iff n (omega arith) i)

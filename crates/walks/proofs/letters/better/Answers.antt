-- `better` meets its contract: a best word that stays, by hand, so that it fits only where it is the lesser.
use native.Mathlib.Omega.{arith}
use Rattle.walks.proofs.Chained.{better_old}
use Rattle.walks.proofs.letters.better.Goals as goal

pub returns-in-Some : goal.returns-in-Some
returns-in-Some c = rw c.in-Some.is (better_old c.args.a c.args.layer c.in-Some.least c.args.word (omega arith))

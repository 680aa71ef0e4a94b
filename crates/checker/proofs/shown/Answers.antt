-- `shown` meets its contract: its array has room.
use Prim.Native.Nat.{ℕ}
use mathlib.Core.Path.{sym}
use lib.ListN.{length-replicate}
use lib.Seq.{length-take-le}
use native.Mathlib.Omega.{arith}
use Rattle.lists.proofs.Writing.{wrote_fits, wrote_back}
use Rattle.checker.proofs.shown.Goals as goal

pub show-length-requires : goal.show-length-requires
show-length-requires c = omega (arith, length-replicate {A = ℕ} 6400 0)

pub returns : goal.returns
returns c =
    let s = c.show-length in
    let w = s.ensures in
    record { text_is = wrote_back w; within = wrote_fits w; count_is = sym (length-take-le _ _ (wrote_fits w)) }

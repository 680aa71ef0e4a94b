-- `keys` meets its contract. The invariant: the array holds the keys of the rows passed.
use Prim.Native.Nat.{◌<◌}
use mathlib.Core.Path.{refl, ◌∙◌}
use native.Mathlib.Omega.{arith}
use lib.ListN.{length, length-set}
use Rattle.session.proofs.Standing.{no_key, key_more}
use Rattle.session.proofs.Session.keys.Goals as goal

pub loop-i-init : goal.loop-i-init
loop-i-init c = (refl, no_key c.args.self.now.rows _)

pub loop-i-preserved : goal.loop-i-preserved
loop-i-preserved c =
    let rows = c.args.self.now.rows in
    let i = c.loop-i.i in
    let here : i < 256 = omega (arith, c.requires.few) in
    let of_row : i < length rows = omega arith in
    let of_key : i < length c.loop-i.keys = omega (arith, c.loop-i.invariant.0) in (
      length-set c.loop-i.keys i c.key.result ∙ c.loop-i.invariant.0,
      rw c.key.ensures (key_more rows i c.loop-i.keys of_row of_key c.loop-i.invariant.1),
    )

-- `Kept::keys` meets its contract. The invariant: the keys passed have the words that are kept.
use mathlib.Core.Path.{◌≡◌, refl, sym, ◌∙◌}
use native.Mathlib.Omega.{arith}
use lib.ListN.{length, length-set}
use lib.Seq.{take_all}
use Rattle.marks.specs.Promise.{unpacked}
use Rattle.marks.proofs.Packing.{unpack_more, unpacked_length, unpacked_at, unpacked_holds}
use Rattle.marks.proofs.Kept.keys.Goals as goal

pub loop-i-preserved : goal.loop-i-preserved
loop-i-preserved c =
    let k = c.args.self.now in
    let now = c.loop-i.invariant in
    let long : length (unpacked k.high k.low) ≡ 256 = unpacked_length k.high k.low (omega arith) ∙ omega arith in (
      length-set c.loop-i.keys c.loop-i.i _ ∙ now.0,
      rw c.from.ensures (rw (unpacked_at k.high k.low c.loop-i.i (omega arith) (omega arith))
          at (unpack_more (record { high = 0; low = 0 }) (unpacked k.high k.low) c.loop-i.keys c.loop-i.i (omega arith) (omega arith) now.1)),
    )

pub returns : goal.returns
returns c =
    let k = c.args.self.now in
    let now = c.loop-i.invariant in
    let long : length (unpacked k.high k.low) ≡ 256 = unpacked_length k.high k.low (omega arith) ∙ omega arith in
    let same = sym (take_all c.loop-i.i c.loop-i.keys (omega arith)) ∙ now.1 ∙ take_all c.loop-i.i (unpacked k.high k.low) (omega arith) in
    record { unpacks = (refl, same); holds = unpacked_holds k _ _ refl same }

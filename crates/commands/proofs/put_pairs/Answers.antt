-- `put_pairs` meets its contract: the digits written, and those of what is left.
use Prim.Native.Nat.{◌+◌, ◌*◌}
use mathlib.Core.Path.{◌≡◌, refl}
use lib.ListN.{length}
use native.Mathlib.Omega.{arith}
use Rattle.commands.proofs.Values.{encoded_put, encoded_done}
use Rattle.commands.proofs.Texts.{held}
use Rattle.commands.proofs.put_pairs.Goals as goal

pub loop-i-init : goal.loop-i-init
loop-i-init c = refl

pub digit_byte-requires : goal.digit_byte-requires
digit_byte-requires c = let b = c.type_inv.bytes c.loop-i.i in omega arith

pub loop-i-preserved : goal.loop-i-preserved
loop-i-preserved c =
    let i = c.loop-i.i in
    let two : 2 * (i + 1) ≡ 2 * i + 2 = omega arith in
    rw (c.digit_byte.ensures, c.digit_byte-in-loop-i.ensures, two) (encoded_put c.args.bytes.now c.loop-i.text i (2 * i) (omega arith) (omega arith) c.loop-i.invariant)

pub returns : goal.returns
returns c =
    let h = c.loop-i in
    let b = c.args.bytes.now in
    let e : length b ≡ h.i = omega arith in
    record { holds = held (2 * length b) h.text (omega arith); digits_are = encoded_done b h.text (length b) (2 * length b) (omega arith) (rw (← e) at h.invariant) }

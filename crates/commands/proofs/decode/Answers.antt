-- `decode` meets its contract: the bytes written, and those of what is left.
use Prim.Native.Nat.{◌+◌, ◌*◌, ◌/◌}
use mathlib.Core.Path.{◌≡◌, refl}
use lib.ListN.{length, get_or}
use native.Mathlib.Omega.{arith}
use Rattle.commands.specs.Digits.{digit_value}
use Rattle.commands.proofs.Values.{digits_at, bytes_put, bytes_done}
use Rattle.commands.proofs.decode.Goals as goal

pub loop-i-init : goal.loop-i-init
loop-i-init c = refl

pub overflow_mul-batch : goal.overflow_mul-batch
overflow_mul-batch c =
    let v = digits_at 16 c.args.text.now (2 * c.loop-i.i) c.requires.1 (omega arith) in
    let e = c.value.ensures in
    omega arith

pub overflow_add-batch : goal.overflow_add-batch
overflow_add-batch c =
    let v = digits_at 16 c.args.text.now (2 * c.loop-i.i) c.requires.1 (omega arith) in
    let w = digits_at 16 c.args.text.now (2 * c.loop-i.i + 1) c.requires.1 (omega arith) in
    let e = c.value.ensures in
    let f = c.value-in-loop-i.ensures in
    omega arith

pub loop-i-preserved : goal.loop-i-preserved
loop-i-preserved c =
    let t = c.args.text.now in
    let i = c.loop-i.i in
    let e : c.value.result * 16 + c.value-in-loop-i.result ≡ digit_value (get_or t (2 * i) 0) * 16 + digit_value (get_or t (2 * i + 1) 0) = omega (arith, c.value.ensures, c.value-in-loop-i.ensures) in
    let two : 2 * (i + 1) ≡ 2 * i + 2 = omega arith in
    rw (e, two) (bytes_put t c.loop-i.batch i (2 * i) (omega arith) (omega arith) c.loop-i.invariant)

pub returns : goal.returns
returns c =
    let h = c.loop-i in
    let t = c.args.text.now in
    let e : length t / 2 ≡ h.i = omega arith in
    (omega arith, rw e (bytes_done t h.batch h.i (2 * h.i) (omega arith) h.invariant))

-- `texts::put_digits` meets its contract: the i low digits of v are left to write, before what is written.
use mathlib.Core.Path.{◌≡◌, ◌∙◌}
use native.Mathlib.Omega.{arith}
use Rattle.texts.proofs.Digits.{low_more, low_done}
use Rattle.texts.proofs.put_digits.Goals as goal

pub loop-i-preserved : goal.loop-i-preserved
loop-i-preserved c =
    let l = c.loop-i in
    l.invariant ∙ low_more l.buf l.i l.v (omega arith) (omega arith) ∙ (rw c.digit_byte.ensures)

pub returns : goal.returns
returns c =
    let s = c.args in
    let l = c.loop-i in
    let z : l.i ≡ 0 = omega arith in
    low_done s.count s.n l.v s.buf.now l.buf (rw z at l.invariant)

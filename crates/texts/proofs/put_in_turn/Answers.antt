-- `texts::put_in_turn` meets its contract: the i low bytes of a and b are left to write, before what is written.
use mathlib.Core.Path.{◌≡◌, ◌∙◌}
use native.Mathlib.Omega.{arith}
use Rattle.texts.proofs.Digits.{turn_more, turn_done}
use Rattle.texts.proofs.put_in_turn.Goals as goal

pub loop-i-preserved : goal.loop-i-preserved
loop-i-preserved c = let l = c.loop-i in l.invariant ∙ turn_more l.buf l.i l.a l.b (omega arith) (omega arith)

pub returns : goal.returns
returns c =
    let s = c.args in
    let l = c.loop-i in
    let z : l.i ≡ 0 = omega arith in
    turn_done 8 s.first s.second l.a l.b s.buf.now l.buf (rw z at l.invariant)

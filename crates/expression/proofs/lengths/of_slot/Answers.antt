-- `expression::lengths::of_slot` meets its contract.
use Rattle.expression.proofs.lengths.of_slot.Goals as goal

pub returns : goal.returns
returns c m g held noted some =
    let a = c.args in
    let q = (rw c.parts.ensures at c.in_ok-frame.ensures) m g a.letters.now.words.now a.letters.now.count held noted some in
    (c.in_ok-frame.frame, q.0, q.1, λ known. c.of_frame.ensures m g a.opened.now held noted q.0 known)

-- `expression::frames::of_loop` meets its contract.
use mathlib.Core.Path.{◌≡◌}
use borrow.Author.Rules.{rules}
use Rattle.std.specs.Prelude.{None}
use Rattle.expression.proofs.Framing.{loop_frame, no_loop}
use Rattle.expression.proofs.frames.of_loop.Goals as goal

pub returns-in_err-i : goal.returns-in_err-i
returns-in_err-i c = let a = c.args in
    let none : c.from_residual.result ≡ None = search rules in
    rw none (no_loop a.back.now a.set_count a.opened.now a.p a.q (rw (c.in_err-i.was, c.sets.ensures.are) at c.place_of.ensures.finds))

pub returns : goal.returns
returns c = let a = c.args in loop_frame a.back.now a.set_count a.opened.now a.p c.in_ok-i.i c.of_set.result (rw c.sets.ensures.are at c.in_ok-i.ensures.finds) a.q c.of_set.ensures

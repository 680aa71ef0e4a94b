-- `expression::frames::of_mix` meets its contract.
use mathlib.Core.Path.{◌≡◌}
use borrow.Author.Rules.{rules}
use Rattle.std.specs.Prelude.{None}
use Rattle.expression.proofs.Framing.{mix_frame, no_mix}
use Rattle.expression.proofs.frames.of_mix.Goals as goal

pub returns-in_err-i : goal.returns-in_err-i
returns-in_err-i c = let a = c.args in
    let none : c.from_residual.result ≡ None = search rules in
    rw none (no_mix a.back.now a.set_count a.opened.now a.p (rw (c.in_err-i.was, c.sets.ensures.are) at c.place_of.ensures.finds))

pub returns : goal.returns
returns c = let a = c.args in mix_frame a.back.now a.set_count a.opened.now a.p c.in_ok-i.i c.of_set.result (rw c.sets.ensures.are at c.in_ok-i.ensures.finds) c.of_set.ensures

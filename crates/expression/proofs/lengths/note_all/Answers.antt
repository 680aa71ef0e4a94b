-- `expression::lengths::note_all` meets its contract. The loop's invariant: the texts of the claims opened in the rounds done are known.
use Prim.Native.Nat.{◌+◌}
use mathlib.Core.Path.{◌≡◌, subst}
use native.Mathlib.Omega.{arith}
use Rattle.expression.specs.Lengths.{Known}
use Rattle.expression.proofs.Noting.{known_all}
use Rattle.expression.proofs.lengths.note_all.Goals as goal

pub returns : goal.returns
returns c m g held noted e =
    let a = c.args in
    let l = c.loop-done in
    let done : l.done + 1 ≡ m.rounds + 1 = omega (arith, e) in
    known_all held noted a.most l.bytes (subst (λ j. Known m g a.set_count a.opened.now j a.most l.bytes) done (l.invariant.1 m g held noted))

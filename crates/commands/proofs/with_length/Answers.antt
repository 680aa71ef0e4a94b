-- `with_length` meets its contract: by the digits.
use Rattle.commands.specs.Digits.{number_from, at_most}
use Rattle.commands.specs.Meaning.{report, longest}
use Prim.Native.Nat.{ℕ}
use mathlib.Core.Path.{◌≡◌, ap, sym, ◌∙◌}
use native.Mathlib.Omega.{arith}
use Rattle.commands.proofs.Values.{at_most_small}
use Rattle.commands.proofs.Texts.{longest_most, lent_empty, lent_other, lent_number}
use Rattle.commands.proofs.with_length.Goals as goal

pub returns-then-text-eq0 : goal.returns-then-text-eq0
returns-then-text-eq0 c = λ buffer. lent_empty _ _ (omega arith)

pub returns-then-not-digits : goal.returns-then-not-digits
returns-then-not-digits c = λ buffer. lent_other _ _ (sym c.digits.ensures ∙ c.if-not-digits.true)

pub number-requires : goal.number-requires
number-requires c = let a = c.args in omega (arith, c.longest.ensures, longest_most a.call)

pub returns : goal.returns
returns c = λ buffer.
    let a = c.args in
    let e : c.number.result ≡ at_most (longest a.call) (number_from 0 a.text.now) = c.number.ensures ∙ ap (λ (m : ℕ). at_most m (number_from 0 a.text.now)) c.longest.ensures in (
      omega (arith, e, at_most_small (longest a.call) (number_from 0 a.text.now)),
      lent_number a.call a.text.now (omega arith) (sym c.digits.ensures ∙ c.if-not-digits.false) ∙ ap (report a.call) (sym e),
    )

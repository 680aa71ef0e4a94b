-- `with_batch` meets its contract: by the count of digits, the digits and the room.
use lib.ListN.{length}
use mathlib.Core.Path.{ap, sym, ◌∙◌}
use native.Mathlib.Omega.{arith}
use Rattle.commands.specs.Meaning.{change}
use Rattle.commands.proofs.Texts.{batch_odd, batch_other, batch_long, batch_bytes, held}
use Rattle.commands.proofs.with_batch.Goals as goal

pub returns-then-text-ne0 : goal.returns-then-text-ne0
returns-then-text-ne0 c = batch_odd _ _ _ (λ e. absurd (omega arith))

pub returns-then-not-digits : goal.returns-then-not-digits
returns-then-not-digits c = batch_other _ _ _ (omega arith) (sym c.digits.ensures ∙ c.if-not-digits.true)

pub returns-then-text-batch : goal.returns-then-text-batch
returns-then-text-batch c = batch_long _ _ _ (omega arith) (sym c.digits.ensures ∙ c.if-not-digits.false) (omega arith)

pub decode-requires : goal.decode-requires
decode-requires c = (omega arith, sym c.digits.ensures ∙ c.if-not-digits.false, omega arith)

pub returns : goal.returns
returns c =
    let d = c.decode in
    let a = c.args in (
      held d.result d.new.batch d.ensures.0,
      batch_bytes a.call (length a.batch.now) a.text.now (omega arith) (sym c.digits.ensures ∙ c.if-not-digits.false) (omega arith) ∙ ap (change a.call) (sym d.ensures.1),
    )

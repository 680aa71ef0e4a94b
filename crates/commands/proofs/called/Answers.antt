-- `called` meets its contract: a word alone, or with a text behind it.
use Rattle.std.proofs.Common.{◌≡◌, ◌+◌, length, sym, ◌∙◌, Err, rules, arith}
use Rattle.commands.proofs.Words.{found_within, called_word, called_text, called_none}
use Rattle.commands.proofs.Texts.{rest}
use Rattle.commands.proofs.called.Goals as goal

pub returns-in-None : goal.returns-in-None
returns-in-None c = called_word c.args.line.now c.args.batch.now (length c.args.batch.now) _ c.alone.result (omega arith) c.in-None.ensures c.alone.ensures

pub returns-in_err-word-in-Some : goal.returns-in_err-word-in-Some
returns-in_err-word-in-Some c =
    let r : c.from_residual.result ≡ Err c.in_err-word-in-Some.field-0.0 = search rules in
    rw r (called_none c.args.line.now c.in-Some.at (length c.args.batch.now) c.args.batch.now _ (found_within c.args.line.now c.min.result c.in-Some.at c.in-Some.ensures) (sym c.in_err-word-in-Some.was ∙ c.alone-in-Some.ensures))

pub returns-in_ok-word-in-Some : goal.returns-in_ok-word-in-Some
returns-in_ok-word-in-Some c =
    let a = c.args in
    let i = c.in-Some.at in
    called_text a.line.now _ i (length a.batch.now) c.in_ok-word-in-Some.word c.with_text.new.batch c.with_text.result (found_within a.line.now c.min.result i c.in-Some.ensures) (rest (i + 1) a.line.now)
    (sym c.in_ok-word-in-Some.was ∙ c.alone-in-Some.ensures) c.with_text.ensures

-- `texts::put_one` meets its contract.
use mathlib.Core.List.{[], ◌∷◌}
use Rattle.lists.proofs.Writing.{wrote_all}
use Rattle.texts.proofs.Digits.{number_one}
use Rattle.texts.proofs.put_one.Goals as goal

pub returns : goal.returns
returns c = rw (number_one c.args.n c.requires.0, ← c.digit_byte.ensures) (wrote_all (c.digit_byte.result ∷ []) c.args.buf.now c.requires.1)

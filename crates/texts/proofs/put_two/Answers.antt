-- `texts::put_two` meets its contract.
use Prim.Native.Nat.{ℕ, ◌/◌, ◌%◌, ◌≤◌, ◌<◌}
use mathlib.Core.Path.{◌≡◌, ap, ◌∙◌}
use mathlib.Core.List.{List, [], ◌∷◌, ◌++◌}
use native.Mathlib.Omega.{arith}
use Rattle.lists.proofs.Writing.{wrote_all}
use Rattle.machine.specs.Text.{digit, number_text}
use Rattle.texts.proofs.Digits.{number_one, number_more}
use Rattle.texts.proofs.put_two.Goals as goal

number_two : (n : ℕ) → 10 ≤ n → n < 100 → number_text n ≡ digit (n / 10) ∷ digit (n % 10) ∷ []
number_two n h g = number_more n h ∙ ap (λ (l : List ℕ). l ++ (digit (n % 10) ∷ [])) (number_one (n / 10) (omega arith))

pub returns : goal.returns
returns c =
    rw (number_two c.args.n c.requires.0 c.requires.1, ← c.digit_byte.ensures, ← c.digit_byte-2.ensures) (wrote_all (c.digit_byte.result ∷ c.digit_byte-2.result ∷ []) c.args.buf.now c.requires.2)

-- Digits from the last to the first.
use Rattle.std.specs.Prelude.{ℕ, zero, suc, ◌+◌, ◌*◌, ◌/◌, ◌%◌, List, [], ◌∷◌, ◌++◌}
use Rattle.machine.specs.Text.{digit}

-- the n low decimal digits of x
unfoldable pub low_digits : ℕ → ℕ → List ℕ
low_digits zero x = []
low_digits (suc n) x = low_digits n (x / 10) ++ (digit (x % 10) ∷ [])

-- the last hexadecimal digit of each of the n low bytes of x, in the same byte of another number
unfoldable pub last_digits : ℕ → ℕ → ℕ
last_digits zero x = 0
last_digits (suc n) x = last_digits n (x / 256) * 256 + digit (x % 16)

-- the n low bytes of two numbers in turn
unfoldable pub in_turn : ℕ → ℕ → ℕ → List ℕ
in_turn zero a b = []
in_turn (suc n) a b = in_turn n (a / 256) (b / 256) ++ (a % 256 ∷ b % 256 ∷ [])

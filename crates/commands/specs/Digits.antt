-- Digits, the bytes that pairs of them name, and numbers.
use Rattle.std.specs.Prelude.{ℕ, ◌+◌, ◌*◌, ◌-◌, ◌/◌, ◌%◌, Bool, ◌&&◌, cond, List, [], ◌∷◌, length, eqb, ltb, leb}
use Rattle.lists.specs.Tests.{all}
use Rattle.machine.specs.Text.{digit}

unfoldable pub between : ℕ → ℕ → ℕ → Bool
between a e c = leb a c && leb c e

-- the value of a digit, 0 to 9, a to f or A to F; 16 for any other byte
unfoldable pub digit_value : ℕ → ℕ
digit_value c = cond (between 48 57 c) (c - 48) (cond (between 97 102 c) (c - 87) (cond (between 65 70 c) (c - 55) 16))

-- every byte is a digit to the base
unfoldable pub digits : ℕ → List ℕ → Bool
digits base l = all (λ c. ltb (digit_value c) base) l

-- hex digits, two for each byte
unfoldable pub pairs : List ℕ → Bool
pairs l = eqb (length l % 2) 0 && digits 16 l

-- the bytes that the pairs name
unfoldable pub bytes : List ℕ → List ℕ
bytes [] = []
bytes (a ∷ []) = []
bytes (a ∷ b ∷ l) = (digit_value a * 16 + digit_value b) ∷ bytes l

-- each byte as a pair of digits
unfoldable pub encoded : List ℕ → List ℕ
encoded [] = []
encoded (x ∷ l) = digit (x / 16) ∷ digit (x % 16) ∷ encoded l

-- the decimal number that goes on from n
unfoldable pub number_from : ℕ → List ℕ → ℕ
number_from n [] = n
number_from n (c ∷ l) = number_from (n * 10 + digit_value c) l

-- the number, or `most` where it is more
unfoldable pub at_most : ℕ → ℕ → ℕ
at_most most n = cond (ltb most n) most n

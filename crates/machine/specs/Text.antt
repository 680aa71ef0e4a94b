-- Document 01, "The sheet": texts, numbers and sets as bytes.
use Rattle.std.specs.Prelude.{ℕ, zero, suc, ◌+◌, ◌/◌, ◌%◌, ◌^◌, true, false, cond, List, [], ◌∷◌, ◌++◌, ltb}
use Prim.Native.Char.{code}
use Prim.Native.String.{String}
use Prim.Native.String as Str

abbrev pub text : String → List ℕ
text Str.[] = []
text (Str.◌∷◌ c s) = code c ∷ text s

-- 0 to 9, a to f
abbrev pub digit : ℕ → ℕ
digit d = cond (ltb d 10) (48 + d) (87 + d)

-- the n low hexadecimal digits of x
unfoldable pub hex : ℕ → ℕ → List ℕ
hex zero x = []
hex (suc n) x = digit (x / 16 ^ n % 16) ∷ hex n x

-- sets are 16 lower-case hex digits
abbrev pub set_text : ℕ → List ℕ
set_text P = hex 16 P

-- the decimal digits of x, n at most
unfoldable pub decimal : ℕ → ℕ → List ℕ
decimal zero x = []
decimal (suc n) x = elim (ltb x 10) [ true ↦ digit x ∷ [] | false ↦ decimal n (x / 10) ++ (digit (x % 10) ∷ []) ]

-- numbers have no leading zeros
abbrev pub number_text : ℕ → List ℕ
number_text x = decimal (suc x) x

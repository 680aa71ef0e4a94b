-- What is written in hex is read back (`reads_back`).
use Prim.Native.Nat.{ℕ, suc, ◌+◌, ◌*◌, ◌/◌, ◌%◌, ◌<◌, ◌≤◌}
use mathlib.Core.Path.{◌≡◌, refl, ap, ◌∙◌}
use mathlib.Core.Bool.{true}
use mathlib.Core.List.{List, [], ◌∷◌}
use lib.ListN.{length, get_or}
use native.Mathlib.Omega.{arith}
use native.Mathlib.Decide.{dec_lt}
use borrow.Author.Tests.{lt-ltb, le-ltb}
use Rattle.machine.specs.Text.{digit}
use Rattle.commands.specs.declared.Change.{Change}
use Rattle.commands.specs.Digits.{digit_value, digits, bytes, encoded}
use Rattle.commands.specs.Meaning.{change, batch}
use Rattle.commands.proofs.Values.{value_decimal, value_lower}
use Rattle.commands.proofs.Texts.{batch_bytes}

value_digit : (d : ℕ) → d < 16 → digit_value (digit d) ≡ d
value_digit d h = go (dec_lt d 10)
  where
    go : Dec (d < 10) → digit_value (digit d) ≡ d
    go (yes g) = rw (lt-ltb d 10 g) (let e = value_decimal (48 + d) (omega arith) (omega arith) in omega arith)
    go (no g) = rw (le-ltb d 10 (omega arith)) (let e = value_lower (87 + d) (omega arith) (omega arith) in omega arith)

encoded_length : (l : List ℕ) → length (encoded l) ≡ length l + length l
unfolding encoded
encoded_length [] = refl
encoded_length (x ∷ l) = let h = encoded_length l in omega arith

encoded_digits : (l : List ℕ) → ((i : ℕ) → get_or l i 0 < 256) → digits 16 (encoded l) ≡ true
unfolding encoded digits
encoded_digits [] b = refl
encoded_digits (x ∷ l) b =
    let h : x < 256 = b 0 in
    let e = value_digit (x / 16) (omega arith) in
    let f = value_digit (x % 16) (omega arith) in
    rw (e, f, lt-ltb (x / 16) 16 (omega arith), lt-ltb (x % 16) 16 (omega arith)) (encoded_digits l (λ i. b (suc i)))

pub bytes_encoded : (l : List ℕ) → ((i : ℕ) → get_or l i 0 < 256) → bytes (encoded l) ≡ l
unfolding encoded bytes
bytes_encoded [] b = refl
bytes_encoded (x ∷ l) b =
    let h : x < 256 = b 0 in
    let e = value_digit (x / 16) (omega arith) in
    let f = value_digit (x % 16) (omega arith) in
    let k : digit_value (digit (x / 16)) * 16 + digit_value (digit (x % 16)) ≡ x = omega arith in
    rw (k, bytes_encoded l (λ i. b (suc i)))

-- the batch of the digits of bytes is those bytes, where there is room
pub reads_back : (call : Change) (room : ℕ) (l : List ℕ) → ((i : ℕ) → get_or l i 0 < 256) → length l ≤ room → batch call room (encoded l) ≡ change call l
reads_back call room l b h =
    let e = encoded_length l in
    batch_bytes call room (encoded l) (omega arith) (encoded_digits l b) (omega arith) ∙ ap (change call) (bytes_encoded l b)

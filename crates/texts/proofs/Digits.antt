-- The digits of numbers and sets, as they are counted and written: from the last to the first. Of numbers `number_low`, `low_more`, `low_done`; of sets the
-- digits of eight bytes at once (`last_digits_are`), and two such words in turn (`turn_hex`, `turn_more`, `turn_done`).
use Prim.Native.Nat.{ℕ, zero, suc, ◌+◌, ◌-◌, ◌*◌, ◌/◌, ◌%◌, ◌^◌, ◌≤◌, ◌<◌}
use mathlib.Core.Path.{◌≡◌, refl, ap, ap₂, sym, ◌∙◌}
use mathlib.Core.Bool.{Bool, true, false}
use mathlib.Core.List.{List, [], ◌∷◌, ◌++◌, append_assoc}
use lib.Arith.{digits_div, digits_mod}
use lib.Bits.{bit_and, and_block, and_mask, and_zero_r}
use lib.Dec.{ltb}
use lib.ListN.{length, drop, set, length-append, length-set}
use lib.Seq.{drop-cons, get_or-set_same, drop-set-lt, append_snoc}
use lib.Pow.{pow_pos, pow_mono, split, mod-mod-pow, ones_lt}
use native.Mathlib.Decide.{dec_lt}
use native.Mathlib.Omega.{arith}
use native.Mathlib.Numerals.{add-one}
use native.Mathlib.Nat.{div-div-eq-div-mul, div-one, pow-succ', mod-eq_of_lt, mod-lt, le-add_left, lt_of_lt_of_le}
use borrow.Author.Tests.{lt-ltb, le-ltb}
use Rattle.lists.specs.Tests.{Decides}
use Rattle.lists.specs.Writing.{Wrote}
use Rattle.lists.proofs.Deciding.{ltb_decides, yes_decides, no_decides, so, not_so}
use Rattle.machine.specs.Text.{digit, hex, set_text, decimal, number_text}
use Rattle.machine.specs.Sheet.{line}
use Rattle.machine.specs.Program.{refusal_line}
use Rattle.machine.proofs.Text.{hex_length, number_length}
use Rattle.texts.specs.Digits.{low_digits, last_digits, in_turn}

pub number_short : (x : ℕ) → x < 2 ^ 64 → length (number_text x) ≤ 20
number_short x h = number_length 20 x (omega arith) (omega arith)

-- the line of a refusal is short
pub refusal_short : (n place : ℕ) → n < 2 ^ 64 → place < 2 ^ 64 → length (refusal_line n place) ≤ 53
refusal_short n place h g =
    let k = number_short n h in
    let l = number_short place g in
    simp length-append (omega arith)

-- a number and a set, each after a word
pub two_length : (first second : List ℕ) (k P : ℕ)
    → length (line (first ++ (number_text k ++ (second ++ set_text P)))) ≡ length first + length second + length (number_text k) + 17
two_length first second k P = simp (length-append, hex_length) (omega arith)

-- one digit, or digits and a last one
abbrev ends : Bool → ℕ → List ℕ → List ℕ
ends b x l = elim b [ true ↦ digit x ∷ [] | false ↦ l ++ (digit (x % 10) ∷ []) ]

decimal_alike : (m n x : ℕ) → x < m → x < n → decimal m x ≡ decimal n x
unfolding decimal
decimal_alike zero n x p q = absurd (omega arith)
decimal_alike (suc m) zero x p q = absurd (omega arith)
decimal_alike (suc m) (suc n) x p q = go (ltb x 10) (ltb_decides x 10) (decimal_alike m n (x / 10))
  where
    go : (b : Bool) → Decides b (x < 10) → (x / 10 < m → x / 10 < n → decimal m (x / 10) ≡ decimal n (x / 10))
        → ends b x (decimal m (x / 10)) ≡ ends b x (decimal n (x / 10))
    go true d alike = refl
    go false d alike = let t : 10 ≤ x = omega (arith, no_decides d) in rw (alike (omega arith) (omega arith))

-- a number has one digit, or those of its tenth and its last digit
pub number_one : (x : ℕ) → x < 10 → number_text x ≡ digit x ∷ []
unfolding decimal
number_one x h = ap (λ (b : Bool). ends b x (decimal x (x / 10))) (so (ltb_decides x 10) h)

pub number_more : (x : ℕ) → 10 ≤ x → number_text x ≡ number_text (x / 10) ++ (digit (x % 10) ∷ [])
unfolding decimal
number_more x h =
    ap (λ (b : Bool). ends b x (decimal x (x / 10))) (not_so (ltb_decides x 10) (λ i. omega arith))
    ∙ ap (λ (l : List ℕ). l ++ (digit (x % 10) ∷ [])) (decimal_alike x (suc (x / 10)) (x / 10) (omega arith) (omega arith))

pub number_longer : (x : ℕ) → 10 ≤ x → length (number_text x) ≡ length (number_text (x / 10)) + 1
number_longer x h = ap length (number_more x h) ∙ length-append (number_text (x / 10)) (digit (x % 10) ∷ [])

number_low_of : (n x : ℕ) → x < n → number_text x ≡ low_digits (length (number_text x)) x
unfolding low_digits
number_low_of zero x h = absurd (omega arith)
number_low_of (suc n) x h = go (ltb x 10) (ltb_decides x 10) (number_low_of n (x / 10))
  where
    go : (b : Bool) → Decides b (x < 10) → (x / 10 < n → number_text (x / 10) ≡ low_digits (length (number_text (x / 10))) (x / 10))
        → number_text x ≡ low_digits (length (number_text x)) x
    go true d low = rw (number_one x (yes_decides d)) (ap (λ (n : ℕ). digit n ∷ []) (sym (mod-eq_of_lt (yes_decides d))))
    go false d low = let t : 10 ≤ x = omega (arith, no_decides d) in rw (number_more x t, length-append, add-one) (ap (λ (l : List ℕ). l ++ (digit (x % 10) ∷ [])) (low (omega arith)))

pub number_low : (x : ℕ) → number_text x ≡ low_digits (length (number_text x)) x
number_low x = number_low_of (suc x) x (omega arith)

hex_last : (n x : ℕ) → hex (suc n) x ≡ hex n (x / 16) ++ (digit (x % 16) ∷ [])
unfolding hex
hex_last zero x = rw (div-one x)
hex_last (suc n) x =
    let e : x / 16 ^ suc n ≡ x / 16 / 16 ^ n = rw (pow-succ' 16 n) (sym (div-div-eq-div-mul x 16 (16 ^ n))) in
    rw (e, hex_last n x)

-- ---- digits written from the last to the first

pub low_length : (n x : ℕ) → length (low_digits n x) ≡ n
unfolding low_digits
low_length zero x = refl
low_length (suc n) x = rw (length-append, low_length n (x / 10)) (omega arith)

drop_stored : (l : List ℕ) (i v : ℕ) → i < length l → drop i (set l i v) ≡ v ∷ drop (suc i) l
drop_stored l i v h =
    let k : i < length (set l i v) = simp length-set h in
    drop-cons (set l i v) i 0 k ∙ (rw (get_or-set_same l i v 0 h, drop-set-lt (suc i) l i v (omega arith)))

-- a store of the last digit that is left to write
pub low_more : (l : List ℕ) (i v : ℕ) → 0 < i → i ≤ length l
    → low_digits i v ++ drop i l ≡ low_digits (i - 1) (v / 10) ++ drop (i - 1) (set l (i - 1) (digit (v % 10)))
unfolding low_digits
low_more l zero v p h = absurd (omega arith)
low_more l (suc i) v p h =
    let e : suc i - 1 ≡ i = omega arith in
    rw (e, drop_stored l i (digit (v % 10)) (omega arith)) (append_snoc (low_digits i (v / 10)) (digit (v % 10)) (drop (suc i) l))

-- nothing is left to write
pub low_done : (n x v : ℕ) (old new : List ℕ) → low_digits n x ++ drop n old ≡ low_digits 0 v ++ new → Wrote (low_digits n x) old new n
unfolding low_digits
low_done n x v old new e = record { length_is = sym (low_length n x); bytes_are = sym e ∙ (rw (low_length n x)) }

-- ---- the bytes of two numbers in turn, likewise

turn_length : (n a b : ℕ) → length (in_turn n a b) ≡ 2 * n
unfolding in_turn
turn_length zero a b = refl
turn_length (suc n) a b = rw (length-append, turn_length n (a / 256) (b / 256)) (omega arith)

pub turn_more : (l : List ℕ) (i a b : ℕ) → 0 < i → 2 * i ≤ length l
    → in_turn i a b ++ drop (2 * i) l
    ≡ in_turn (i - 1) (a / 256) (b / 256) ++ drop (2 * (i - 1)) (set (set l (2 * (i - 1) + 1) (b % 256)) (2 * (i - 1)) (a % 256))
unfolding in_turn
turn_more l zero a b p h = absurd (omega arith)
turn_more l (suc i) a b p h =
    let e : suc i - 1 ≡ i = omega arith in
    let f : 2 * i + 1 ≡ suc (2 * i) = omega arith in
    let g : 2 * suc i ≡ suc (suc (2 * i)) = omega arith in
    let k : 2 * i < length (set l (suc (2 * i)) (b % 256)) = simp length-set (omega arith) in
    rw (e, f, g, drop_stored (set l (suc (2 * i)) (b % 256)) (2 * i) (a % 256) k, drop_stored l (suc (2 * i)) (b % 256) (omega arith)) (append_assoc (in_turn i (a / 256) (b / 256)) (a % 256 ∷ b % 256 ∷ []) (drop (suc (suc (2 * i))) l))

pub turn_done : (n x y a b : ℕ) (old new : List ℕ) → in_turn n x y ++ drop (2 * n) old ≡ in_turn 0 a b ++ new → Wrote (in_turn n x y) old new (2 * n)
unfolding in_turn
turn_done n x y a b old new e = record { length_is = sym (turn_length n x y); bytes_are = sym e ∙ (rw (turn_length n x y)) }

-- ---- hexadecimal digits, two to a byte

pub digit_is : (d : ℕ) → d < 16 → 48 + d + (d + 6) / 16 * 39 ≡ digit d
digit_is d h = go (dec_lt d 10)
  where
    go : Dec (d < 10) → 48 + d + (d + 6) / 16 * 39 ≡ digit d
    go (yes l) = let z : (d + 6) / 16 ≡ 0 = omega arith in let m : 48 + d + 0 * 39 ≡ 48 + d = omega arith in rw (z, lt-ltb d 10 l) m
    go (no l) = let z : (d + 6) / 16 ≡ 1 = omega arith in let m : 48 + d + 39 ≡ 87 + d = omega arith in rw (z, le-ltb d 10 (omega arith)) m

digit_small : (d : ℕ) → d < 16 → digit d < 256
digit_small d h = omega (arith, digit_is d h)

abbrev twice : ℕ → ℕ
twice zero = zero
twice (suc n) = suc (suc (twice n))

-- the first digit of each byte, and the last
pub turn_hex : (n x : ℕ) → in_turn n (last_digits n (x / 16)) (last_digits n x) ≡ hex (twice n) x
unfolding in_turn last_digits hex
turn_hex zero x = refl
turn_hex (suc n) x =
    let p = digit_small (x / 16 % 16) (omega arith) in
    let q = digit_small (x % 16) (omega arith) in
    let s : x / 16 / 256 ≡ x / 256 / 16 = omega arith in
    let t : x / 256 ≡ x / 16 / 16 = omega arith in
    rw (
      digits_div (last_digits n (x / 16 / 256)) p,
      digits_mod (last_digits n (x / 16 / 256)) p,
      digits_div (last_digits n (x / 256)) q,
      digits_mod (last_digits n (x / 256)) q,
      s,
      turn_hex n (x / 256),
      t,
    )
    (sym (append_snoc (hex (twice n) (x / 16 / 16)) (digit (x / 16 % 16)) (digit (x % 16) ∷ []))
    ∙ ap (λ (l : List ℕ). l ++ (digit (x % 16) ∷ [])) (sym (hex_last (twice n) (x / 16)))
    ∙ sym (hex_last (suc (twice n)) x))

-- n bytes c
unfoldable pub bytes_of : ℕ → ℕ → ℕ
bytes_of zero c = 0
bytes_of (suc n) c = bytes_of n c * 256 + c

-- ---- all at once

and_field : (j k y e : ℕ) → bit_and y (e * 2 ^ (j + k) + (2 ^ k - 1)) ≡ bit_and (y / 2 ^ (j + k)) e * 2 ^ (j + k) + y % 2 ^ k
and_field j k y e =
    ap (λ (n : ℕ). bit_and n (e * 2 ^ (j + k) + (2 ^ k - 1))) (sym (split y (j + k)))
    ∙ and_block (j + k) (y / 2 ^ (j + k)) e (y % 2 ^ (j + k)) (2 ^ k - 1) (mod-lt y (pow_pos (j + k))) (lt_of_lt_of_le (ones_lt k) (pow_mono (le-add_left k j)))
    ∙ ap (λ (n : ℕ). bit_and (y / 2 ^ (j + k)) e * 2 ^ (j + k) + n) (and_mask (y % 2 ^ (j + k)) k ∙ mod-mod-pow y j k)

-- the last digit of each byte
abbrev lasts : ℕ → ℕ → ℕ
lasts n x = bit_and x (bytes_of n 15)

-- 1 where it is a letter
abbrev letters : ℕ → ℕ → ℕ
letters n s = bit_and ((s + bytes_of n 6) / 16) (bytes_of n 1)

lasts_more : (n x : ℕ) → lasts (suc n) x ≡ lasts n (x / 256) * 256 + x % 16
unfolding bytes_of
lasts_more n x = and_field 4 4 x (bytes_of n 15)

letters_more : (n s d : ℕ) → d < 16 → letters (suc n) (s * 256 + d) ≡ letters n s * 256 + (d + 6) / 16
unfolding bytes_of
letters_more n s d h =
    let v = s * 256 + d + (bytes_of n 6 * 256 + 6) in
    let e : v / 16 / 256 ≡ (s + bytes_of n 6) / 16 = omega arith in
    let f : v / 16 % 2 ≡ (d + 6) / 16 = omega arith in
    and_field 7 1 (v / 16) (bytes_of n 1) ∙ ap₂ (λ (a b : ℕ). bit_and a (bytes_of n 1) * 256 + b) e f

pub last_digits_are : (n x : ℕ) → lasts n x + bytes_of n 48 + letters n (lasts n x) * 39 ≡ last_digits n x
unfolding bytes_of last_digits
last_digits_are zero x = omega (arith, and_zero_r x, and_zero_r ((lasts 0 x + 0) / 16))
last_digits_are (suc n) x =
    let s = lasts n (x / 256) in
    let h : x % 16 < 16 = omega arith in
    let e = lasts_more n x in
    let f : letters (suc n) (lasts (suc n) x) ≡ letters n s * 256 + (x % 16 + 6) / 16 = ap (letters (suc n)) e ∙ letters_more n s (x % 16) h in
    omega (arith, e, f, last_digits_are n (x / 256), digit_is (x % 16) h)

-- A row's key: it gives the row back (`key_back`, `key_apart`), its second word has two bytes (`low_short`), and it has the order of the row's bytes (`key_order`). The words of
-- letter rows from one state rise by letter and then by target (`letter_order`).
use Prim.Native.Nat.{ℕ, zero, suc, ◌-◌, ◌<◌, ◌≤◌, ◌+◌, ◌*◌, ◌/◌, ◌%◌, ◌^◌}
use mathlib.Core.Path.{◌≡◌, refl, ap, sym, ◌∙◌}
use mathlib.Core.Logic.{◌⊎◌, inl, inr}
use mathlib.Core.List.{List, [], ◌∷◌, ◌++◌}
use lib.ListN.{length, take, drop, get_or, replicate}
use native.Mathlib.Omega.{arith}
use native.Mathlib.Decide.{dec_lt, ℕ_discrete}
use borrow.Author.Tests.{ne_eqb}
use Rattle.lists.specs.Order.{before}
use Rattle.rows.specs.declared.Row.{Row}
use Rattle.rows.specs.declared.Row.TheVariants.{Initial, Final, Successor, LeftLimit, RightLimit, Strike}
use Rattle.rows.specs.Rows.{row_bytes, Fits, Bytes}
use Rattle.rows.specs.Reading.{number, width}
use Rattle.sorted_keys.specs.Keys.{key_less}
use Rattle.rows.specs.Keys.{high, low, row_from}
use Rattle.rows.proofs.Reading.{eight, some_bytes, bytes_append, byte_and, no_bytes, row_bytes_are_bytes}
use Rattle.rows.proofs.ByteOrder.{split_order, before_filled}

-- a row is that of its key
pub key_back : (r : Row) → Fits r → row_from (high r) (low r) ≡ r
unfolding high low row_from
key_back (Initial s) f =
    let k : (1 * 256 ^ 7 + s * 256 ^ 6) / 256 ^ 7 ≡ 1 = omega arith in
    let e : (1 * 256 ^ 7 + s * 256 ^ 6) / 256 ^ 6 % 256 ≡ s = omega arith in
    rw (k, e)
key_back (Final s) f =
    let k : (2 * 256 ^ 7 + s * 256 ^ 6) / 256 ^ 7 ≡ 2 = omega arith in
    let e : (2 * 256 ^ 7 + s * 256 ^ 6) / 256 ^ 6 % 256 ≡ s = omega arith in
    rw (k, e)
key_back (Successor p a q) f =
    let k : (3 * 256 ^ 7 + p * 256 ^ 6 + a * 256 ^ 5 + q * 256 ^ 4) / 256 ^ 7 ≡ 3 = omega arith in
    let e : (3 * 256 ^ 7 + p * 256 ^ 6 + a * 256 ^ 5 + q * 256 ^ 4) / 256 ^ 6 % 256 ≡ p = omega arith in
    let e' : (3 * 256 ^ 7 + p * 256 ^ 6 + a * 256 ^ 5 + q * 256 ^ 4) / 256 ^ 5 % 256 ≡ a = omega arith in
    let e'' : (3 * 256 ^ 7 + p * 256 ^ 6 + a * 256 ^ 5 + q * 256 ^ 4) / 256 ^ 4 % 256 ≡ q = omega arith in
    rw (k, e, e', e'')
key_back (LeftLimit P q) f =
    let k : (4 * 256 ^ 7 + P / 256) / 256 ^ 7 ≡ 4 = omega arith in
    let e : (4 * 256 ^ 7 + P / 256) % 256 ^ 7 * 256 + (P % 256 * 256 + q) / 256 % 256 ≡ P = omega arith in
    let e' : (P % 256 * 256 + q) % 256 ≡ q = omega arith in
    rw (k, e, e')
key_back (RightLimit q P) f =
    let k : (5 * 256 ^ 7 + q * 256 ^ 6 + P / 65536) / 256 ^ 7 ≡ 5 = omega arith in
    let e : (5 * 256 ^ 7 + q * 256 ^ 6 + P / 65536) / 256 ^ 6 % 256 ≡ q = omega arith in
    let e' : (5 * 256 ^ 7 + q * 256 ^ 6 + P / 65536) % 256 ^ 6 * 65536 + P % 65536 % 65536 ≡ P = omega arith in
    rw (k, e, e')
key_back (Strike s) f =
    let k : (6 * 256 ^ 7 + s * 256 ^ 6) / 256 ^ 7 ≡ 6 = omega arith in
    let e : (6 * 256 ^ 7 + s * 256 ^ 6) / 256 ^ 6 % 256 ≡ s = omega arith in
    rw (k, e)

-- rows that fit and have one key are one row
pub key_apart : (r s : Row) → Fits r → Fits s → high r ≡ high s → low r ≡ low s → r ≡ s
key_apart r s f g h l = let a = key_back r f in let b = key_back s g in cc

-- the second word has two bytes
pub low_short : (r : Row) → Fits r → low r < 65536
unfolding low
low_short (Initial s) f = omega arith
low_short (Final s) f = omega arith
low_short (Successor p a q) f = omega arith
low_short (LeftLimit P q) f = omega arith
low_short (RightLimit q P) f = omega arith
low_short (Strike s) f = omega arith

-- zeros up to ten bytes
abbrev fill : Row → List ℕ
fill r = replicate (10 - length (row_bytes r)) 0

-- the row's ten bytes
abbrev filled : Row → List ℕ
filled r = row_bytes r ++ fill r

-- the first byte tells how many follow
length_of : (r : Row) → length (row_bytes r) ≡ width (get_or (row_bytes r) 0 0)
unfolding row_bytes
length_of (Initial s) = refl
length_of (Final s) = refl
length_of (Successor p a q) = refl
length_of (LeftLimit P q) = refl
length_of (RightLimit q P) = refl
length_of (Strike s) = refl

-- rows of one kind are filled alike
fill_alike : (r s : Row) → get_or (row_bytes r) 0 0 ≡ get_or (row_bytes s) 0 0 → (length (row_bytes r) ≡ length (row_bytes s)) × (fill r ≡ fill s)
fill_alike r s e = let l : length (row_bytes r) ≡ length (row_bytes s) = length_of r ∙ (ap width e ∙ sym (length_of s)) in (l, ap (λ (n : ℕ). replicate (10 - n) 0) l)

-- zeros are bytes
zeros : (n : ℕ) → Bytes (replicate n 0)
zeros zero = no_bytes
zeros (suc n) = byte_and (omega arith) (zeros n)

filled_bytes : (r : Row) → Fits r → Bytes (filled r)
filled_bytes r f = bytes_append (row_bytes r) (fill r) (row_bytes_are_bytes r f) (zeros (10 - length (row_bytes r)))

-- eight bytes and two
record Ten (r : Row) : Type 0 where
  first : length (take 8 (filled r)) ≡ 8
  last : length (drop 8 (filled r)) ≡ 2
  first_is : number (take 8 (filled r)) 0 ≡ high r
  last_is : number (drop 8 (filled r)) 0 ≡ low r

-- a set's bytes, divided where the words are
left_words : (b c d e f g h i P q : ℕ) → i < 256 → number (b ∷ c ∷ d ∷ e ∷ f ∷ g ∷ h ∷ i ∷ []) 0 ≡ P
    → (number (4 ∷ b ∷ c ∷ d ∷ e ∷ f ∷ g ∷ h ∷ []) 0 ≡ 4 * 256 ^ 7 + P / 256) × (number (i ∷ q ∷ []) 0 ≡ P % 256 * 256 + q)
left_words b c d e f g h i P q l z = (omega arith, omega arith)

right_words : (b c d e f g h i P q : ℕ) → h < 256 → i < 256 → number (b ∷ c ∷ d ∷ e ∷ f ∷ g ∷ h ∷ i ∷ []) 0 ≡ P
    → (number (5 ∷ q ∷ b ∷ c ∷ d ∷ e ∷ f ∷ g ∷ []) 0 ≡ 5 * 256 ^ 7 + q * 256 ^ 6 + P / 65536) × (number (h ∷ i ∷ []) 0 ≡ P % 65536)
right_words b c d e f g h i P q k l z = (omega arith, omega arith)

-- the words are the numbers of those bytes
ten : (r : Row) → Fits r → Ten r
unfolding row_bytes high low
ten (Initial s) f = record { first = refl; last = refl; first_is = omega arith; last_is = omega arith }
ten (Final s) f = record { first = refl; last = refl; first_is = omega arith; last_is = omega arith }
ten (Successor p a q) f = record { first = refl; last = refl; first_is = omega arith; last_is = omega arith }
ten (LeftLimit P q) f = let w = left_words _ _ _ _ _ _ _ (P / 256 ^ 0 % 256) P q (omega arith) (eight P f.1) in
    record { first = refl; last = refl; first_is = w.0; last_is = w.1 }
ten (RightLimit q P) f = let w = right_words _ _ _ _ _ _ (P / 256 ^ 1 % 256) (P / 256 ^ 0 % 256) P q (omega arith) (omega arith) (eight P f.1) in
    record { first = refl; last = refl; first_is = w.0; last_is = w.1 }
ten (Strike s) f = record { first = refl; last = refl; first_is = omega arith; last_is = omega arith }

-- rows come in the order of their keys
pub key_order : (r s : Row) → Fits r → Fits s → before (row_bytes r) (row_bytes s) ≡ key_less (high r) (low r) (high s) (low s)
key_order r s f g =
    let a = ten r f in let b = ten s g in
    sym (before_filled (row_bytes r) (row_bytes s) (fill r) (fill s) (some_bytes r) (some_bytes s) (fill_alike r s))
    ∙ (split_order 8 (filled r) (filled s) (a.first ∙ sym b.first) (a.last ∙ sym b.last) (filled_bytes r f) (filled_bytes s g)
    ∙ rw (a.first_is, a.last_is, b.first_is, b.last_is))

-- ---- letter rows by the first words of their keys

letter_from : (h : ℕ) → h / 256 ^ 7 ≡ 3 → (l : ℕ) → row_from h l ≡ Successor (h / 256 ^ 6 % 256) (h / 256 ^ 5 % 256) (h / 256 ^ 4 % 256)
unfolding row_from
letter_from h k l = rw k

letter_kind : (h : ℕ) {p x t : ℕ} → row_from h 0 ≡ Successor p x t → h / 256 ^ 7 ≡ 3
unfolding row_from
letter_kind h e = by (ℕ_discrete (h / 256 ^ 7) 1) (ℕ_discrete (h / 256 ^ 7) 2) (ℕ_discrete (h / 256 ^ 7) 3) (ℕ_discrete (h / 256 ^ 7) 4) (ℕ_discrete (h / 256 ^ 7) 5)
  where
    by : Dec (h / 256 ^ 7 ≡ 1) → Dec (h / 256 ^ 7 ≡ 2) → Dec (h / 256 ^ 7 ≡ 3) → Dec (h / 256 ^ 7 ≡ 4) → Dec (h / 256 ^ 7 ≡ 5) → h / 256 ^ 7 ≡ 3
    by a b (yes k) d g = k
    by (yes k) b (no c) d g = let f = rw k at e in let z : ◌≡◌ {A = ℕ} 0 1 = cc in absurd (omega arith)
    by (no a) (yes k) (no c) d g = let f = rw k at e in let z : ◌≡◌ {A = ℕ} 0 1 = cc in absurd (omega arith)
    by (no a) (no b) (no c) (yes k) g = let f = rw k at e in let z : ◌≡◌ {A = ℕ} 0 1 = cc in absurd (omega arith)
    by (no a) (no b) (no c) (no d) (yes k) = let f = rw k at e in let z : ◌≡◌ {A = ℕ} 0 1 = cc in absurd (omega arith)
    by (no a) (no b) (no c) (no d) (no g) =
        let f = rw (ne_eqb _ _ a, ne_eqb _ _ b, ne_eqb _ _ c, ne_eqb _ _ d, ne_eqb _ _ g) at e in let z : ◌≡◌ {A = ℕ} 0 1 = cc in absurd (omega arith)

-- the first four bytes
letter_words : (h : ℕ) {p x t : ℕ} → row_from h 0 ≡ Successor p x t
    → (p < 256) × (x < 256) × (t < 256) × (h / 256 ^ 4 ≡ ((3 * 256 + p) * 256 + x) * 256 + t)
letter_words h {p} {x} {t} e =
    let k = letter_kind h e in
    let f = letter_from h k 0 in
    let a : h / 256 ^ 6 % 256 ≡ p = cc in
    let b : h / 256 ^ 5 % 256 ≡ x = cc in
    let c : h / 256 ^ 4 % 256 ≡ t = cc in
    (omega arith, omega arith, omega arith, omega arith)

-- letter and target are bytes
pub letter_bytes : (h : ℕ) {p x t : ℕ} → row_from h 0 ≡ Successor p x t → (x < 256) × (t < 256)
letter_bytes h e = let w = letter_words h e in (w.1, w.2)

-- the second word is not read
pub letter_low : (h l : ℕ) {p x t : ℕ} → row_from h 0 ≡ Successor p x t → row_from h l ≡ Successor p x t
letter_low h l e = letter_from h (letter_kind h e) l ∙ (sym (letter_from h (letter_kind h e) 0) ∙ e)

pub letter_back : (p x t : ℕ) → Fits (Successor p x t) → row_from (high (Successor p x t)) 0 ≡ Successor p x t
unfolding low
letter_back p x t f = key_back (Successor p x t) f

-- of two letter rows from a state, by letter and then by target
pub letter_order : (h h' : ℕ) {p x t x' t' : ℕ} → h ≤ h' → row_from h 0 ≡ Successor p x t → row_from h' 0 ≡ Successor p x' t'
    → (x < x') ⊎ ((x ≡ x') × (t ≤ t'))
letter_order h h' {x = x} {t = t} {x' = x'} {t' = t'} l e f =
    let v = letter_words h e in let w = letter_words h' f in
    let q : h / 256 ^ 4 ≤ h' / 256 ^ 4 = omega arith in
    elim (dec_lt x x') [
      | yes g ↦ inl g
      | no g ↦ inr (omega (arith, v.2, v.3, w.2, w.3), omega (arith, v.2, v.3, w.2, w.3))
    ]

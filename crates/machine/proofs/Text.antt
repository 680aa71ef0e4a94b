-- Numbers and sets are read back from their texts (`number_reads`, `number_once`, `no_leading_zero`, `set_reads`), how long these are (`number_length`,
-- `hex_length`), and which bytes they have (`digits_only`, `hex_digits`).
use Prim.Native.Nat.{ℕ, zero, suc, ◌+◌, ◌-◌, ◌*◌, ◌/◌, ◌%◌, ◌^◌, ◌≤◌, ◌<◌}
use mathlib.Core.Path.{◌≡◌, refl, ap, sym, ◌∙◌, subst}
use mathlib.Core.Bool.{Bool, true, false, cond}
use mathlib.Core.Logic.{⊎_elim, ◌≢◌}
use mathlib.Core.List.Memᴰ
use mathlib.Core.List.{List, [], ◌∷◌, ◌++◌}
use lib.Dec.{ltb}
use lib.ListN.{length, get_or, length-append, get_or-append}
use native.Mathlib.Omega.{arith}
use native.Mathlib.Nat.{div-div-eq-div-mul, div-eq_of_lt, div-one, div-lt_iff_lt-mul, pow-suc}
use Rattle.lists.specs.Tests.{Decides, ◌among◌}
use Rattle.lists.proofs.Deciding.{ltb_decides, so, not_so, yes_decides, no_decides}
use Rattle.machine.specs.Text.{digit, hex, set_text, decimal, number_text}

pub digit_low : (d : ℕ) → d < 10 → digit d ≡ 48 + d
digit_low d h = go (ltb d 10) (ltb_decides d 10)
  where
    go : (b : Bool) → Decides b (d < 10) → cond b (48 + d) (87 + d) ≡ 48 + d
    go true i = refl
    go false i = absurd (no_decides i h)

-- a text of a number: one digit, or that of its tenth and its last digit
data Numeral : ℕ → List ℕ → Type 0 where
  one : {x : ℕ} → x < 10 → Numeral x ((48 + x) ∷ [])
  more : {x : ℕ} {l : List ℕ} → 10 ≤ x → Numeral (x / 10) l → Numeral x (l ++ ((48 + x % 10) ∷ []))

numeral_of : (n x : ℕ) → x < n → Numeral x (decimal n x)
unfolding decimal
numeral_of zero x h = absurd (omega arith)
numeral_of (suc n) x h = go (ltb x 10) (ltb_decides x 10) (numeral_of n (x / 10))
  where
    go : (b : Bool) → Decides b (x < 10) → (x / 10 < n → Numeral (x / 10) (decimal n (x / 10)))
        → Numeral x (elim b [ true ↦ digit x ∷ [] | false ↦ decimal n (x / 10) ++ (digit (x % 10) ∷ []) ])
    go true d below = rw (digit_low x (yes_decides d)) (one (yes_decides d))
    go false d below = let t : 10 ≤ x = omega (arith, no_decides d) in rw (digit_low (x % 10) (omega arith)) (more t (below (omega arith)))

numeral : (x : ℕ) → Numeral x (number_text x)
numeral x = numeral_of (suc x) x (omega arith)

-- the number of some digits, after v
abbrev pub read_number : List ℕ → ℕ → ℕ
read_number [] v = v
read_number (b ∷ l) v = read_number l (v * 10 + (b - 48))

read_append : (l m : List ℕ) (v : ℕ) → read_number (l ++ m) v ≡ read_number m (read_number l v)
read_append [] m v = refl
read_append (b ∷ l) m v = read_append l m (v * 10 + (b - 48))

numeral_reads : {x : ℕ} {l : List ℕ} → Numeral x l → read_number l 0 ≡ x
numeral_reads (one h) = omega arith
numeral_reads (more {x} {l} h n) = rw (read_append l ((48 + x % 10) ∷ []) 0, numeral_reads n) (omega arith)

-- a number is read back from its text
pub number_reads : (x : ℕ) → read_number (number_text x) 0 ≡ x
number_reads x = numeral_reads (numeral x)

-- the same digits are the same number
pub number_once : (x y : ℕ) → number_text x ≡ number_text y → x ≡ y
number_once x y e = sym (number_reads x) ∙ ap (λ (l : List ℕ). read_number l 0) e ∙ number_reads y

numeral_digits : {x : ℕ} {l : List ℕ} → Numeral x l → (b : ℕ) → b among l → (48 ≤ b) × (b ≤ 57)
numeral_digits (one h) b m = let e = Memᴰ.eq_of_singleton m in (omega (arith, e), omega (arith, e))
numeral_digits (more {x} {l} h n) b m = ⊎_elim (λ i. numeral_digits n b i) (λ i. let e = Memᴰ.eq_of_singleton i in (omega (arith, e), omega (arith, e))) (Memᴰ.append_cases l m)

pub digits_only : (x b : ℕ) → b among number_text x → (48 ≤ b) × (b ≤ 57)
digits_only x b m = numeral_digits (numeral x) b m

numeral_some : {x : ℕ} {l : List ℕ} → Numeral x l → 0 < length l
numeral_some (one h) = omega arith
numeral_some (more {x} {l} h n) = rw length-append (omega arith)

pub number_some : (x : ℕ) → 0 < length (number_text x)
number_some x = numeral_some (numeral x)

numeral_leads : {x : ℕ} {l : List ℕ} → Numeral x l → 0 < x → get_or l 0 0 ≢ 48
numeral_leads (one h) p e = omega arith
numeral_leads (more {x} {l} h n) p e = numeral_leads n (omega arith) (sym (get_or-append l ((48 + x % 10) ∷ []) 0 0 (numeral_some n)) ∙ e)

-- no leading zero
pub no_leading_zero : (x : ℕ) → 0 < x → get_or (number_text x) 0 0 ≢ 48
no_leading_zero x = numeral_leads (numeral x)

numeral_length : {x : ℕ} {l : List ℕ} → Numeral x l → (n : ℕ) → x < 10 ^ suc n → length l ≤ suc n
numeral_length (one h) n g = omega arith
numeral_length (more h m) zero g = absurd (omega arith)
numeral_length (more {x} {l} h m) (suc n) g = rw length-append (omega (arith, numeral_length m n ((div-lt_iff_lt-mul (omega arith)).1 (rw pow-suc at g))))

pub number_length : (n x : ℕ) → 1 ≤ n → x < 10 ^ n → length (number_text x) ≤ n
number_length zero x p h = absurd (omega arith)
number_length (suc n) x p h = numeral_length (numeral x) n h

pub hex_length : (n x : ℕ) → length (hex n x) ≡ n
unfolding hex
hex_length zero x = refl
hex_length (suc n) x = ap suc (hex_length n x)

-- what a hexadecimal digit stands for
abbrev pub worth : ℕ → ℕ
worth b = cond (ltb b 58) (b - 48) (b - 87)

-- the number of some hexadecimal digits, after v
abbrev pub read_hex : List ℕ → ℕ → ℕ
read_hex [] v = v
read_hex (b ∷ l) v = read_hex l (v * 16 + worth b)

worth_digit : (d : ℕ) → d < 16 → worth (digit d) ≡ d
worth_digit d h = go (ltb d 10) (ltb_decides d 10)
  where
    low : (b : ℕ) → b < 58 → worth b ≡ b - 48
    low b g = rw (so (ltb_decides b 58) g)

    high : (b : ℕ) → 58 ≤ b → worth b ≡ b - 87
    high b g = rw (not_so (ltb_decides b 58) (λ i. omega arith))

    go : (t : Bool) → Decides t (d < 10) → worth (cond t (48 + d) (87 + d)) ≡ d
    go true i = rw (low (48 + d) (omega (arith, yes_decides i))) (omega arith)
    go false i = rw (high (87 + d) (omega arith)) (omega arith)

digit_byte : (d : ℕ) → d < 16 → (48 ≤ digit d) × (digit d < 256)
digit_byte d h = go (ltb d 10)
  where
    go : (t : Bool) → (48 ≤ cond t (48 + d) (87 + d)) × (cond t (48 + d) (87 + d) < 256)
    go true = (omega arith, omega arith)
    go false = (omega arith, omega arith)

pub hex_digits : (n x b : ℕ) → b among hex n x → (48 ≤ b) × (b < 256)
unfolding hex
hex_digits zero x b m = absurd (Memᴰ.not-nil m)
hex_digits (suc n) x b m = ⊎_elim (λ e. rw e (digit_byte (x / 16 ^ n % 16) (omega arith))) (hex_digits n x b) (Memᴰ.cases_cons m)

-- a number is that of its digits, after what stands ahead of them
read_after : (n x : ℕ) → read_hex (hex n x) (x / 16 ^ n) ≡ x
unfolding hex
read_after zero x = div-one x
read_after (suc n) x =
    let high : x / 16 ^ suc n ≡ x / 16 ^ n / 16 = rw pow-suc (sym (div-div-eq-div-mul x (16 ^ n) 16)) in
    let e : x / 16 ^ suc n * 16 + worth (digit (x / 16 ^ n % 16)) ≡ x / 16 ^ n = rw (high, worth_digit (x / 16 ^ n % 16) (omega arith)) (omega arith) in
    ap (read_hex (hex n x)) e ∙ read_after n x

-- a set is read back from its text
pub set_reads : (P : ℕ) → P < 256 ^ 8 → read_hex (set_text P) 0 ≡ P
set_reads P h = subst (λ (v : ℕ). read_hex (hex 16 P) v ≡ P) (div-eq_of_lt h) (read_after 16 P)

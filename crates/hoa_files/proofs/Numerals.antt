-- Runs of digits are the texts of numbers (`run_number`), end at one place (`runs_once`), and tell the number up to ten (`tells_up_to_ten`):
-- what counts the digits at the head counts those of the number there (`counts_zero`, `counts_none`, `counts_run`). A word, a number and a tail at the
-- head: where one of them is missing none is found (`no_word`, `no_digits`, `no_tail`), else what stands there (`line_found`; `digit_found` of one digit, `edge_found`).
use Prim.Native.Nat.{ℕ, zero, suc, ◌+◌, ◌-◌, ◌*◌, ◌/◌, ◌%◌, ◌≤◌, ◌<◌}
use mathlib.Core.Path.{◌≡◌, refl, ap, ap₂, sym, ◌∙◌, subst}
use mathlib.Core.Logic.{◌≢◌}
use Rattle.std.specs.Prelude.{Option, Some, None}
use mathlib.Core.List.Memᴰ
use mathlib.Core.List.{List, [], ◌∷◌, ◌++◌, append-nil, append_assoc, append_cancel_left}
use lib.ListN.{length, get_or, take, drop, take-append-drop, get_or-append, length-append}
use lib.Seq.{append_snoc, drop-cons, length-take-le, get_or-take, take_at, drop_at}
use native.Mathlib.Omega.{arith}
use Rattle.lists.specs.Tests.{◌among◌}
use Rattle.lists.proofs.Places.{get_or_among, held_place}
use Rattle.machine.specs.Text.{text, digit, number_text}
use Rattle.machine.proofs.Text.{digits_only, number_some, no_leading_zero, digit_low}
use Rattle.texts.proofs.Digits.{number_one, number_more, number_longer}
use Rattle.hoa_files.specs.declared.Numbered.{Numbered}
use Rattle.hoa_files.specs.Reading.{IsDigit, NoDigitFirst, RunsTo, CountsDigits, UpToTen, TellsNumber, ◌begin_with◌, IsNumbered, FindsNumbered, FindsEdge}

abbrev pub Digits : List ℕ → Type 0
Digits l = (b : ℕ) → b among l → IsDigit b

-- a number below ten, and one with one digit more
one_digit : (x : ℕ) → x < 10 → number_text x ≡ (48 + x) ∷ []
one_digit x h = number_one x h ∙ ap (λ (d : ℕ). d ∷ []) (digit_low x h)

digit_more : (x c : ℕ) → 0 < x → IsDigit c → number_text (10 * x + (c - 48)) ≡ number_text x ++ (c ∷ [])
digit_more x c p d =
    let y = 10 * x + (c - 48) in
    let q : y / 10 ≡ x = omega arith in
    let r : digit (y % 10) ≡ c = digit_low (y % 10) (omega arith) ∙ omega arith in
    number_more y (omega arith) ∙ ap (λ (k : ℕ). number_text k ++ (digit (y % 10) ∷ [])) q ∙ ap (λ (k : ℕ). number_text x ++ (k ∷ [])) r

number_goes_on : (r : List ℕ) (x : ℕ) → 0 < x → Digits r → (y : ℕ) × (number_text x ++ r ≡ number_text y)
number_goes_on [] x p d = (x, append-nil (number_text x))
number_goes_on (c ∷ r) x p d =
    let i = d c (Memᴰ.head refl) in
    let q = number_goes_on r (10 * x + (c - 48)) (omega arith) (λ b m. d b (Memᴰ.tail m)) in
    (q.0, sym (append_snoc (number_text x) c r) ∙ ap (λ (t : List ℕ). t ++ r) (sym (digit_more x c p i)) ∙ q.1)

digit_alone : (c : ℕ) → IsDigit c → c ∷ [] ≡ number_text (c - 48)
digit_alone c i =
    let e : 48 + (c - 48) ≡ c = omega arith in
    sym (one_digit (c - 48) (omega arith) ∙ ap (λ (k : ℕ). k ∷ []) e)

digits_several : (c : ℕ) (r : List ℕ) → IsDigit c → c ≢ 48 → Digits r → (x : ℕ) × (c ∷ r ≡ number_text x)
digits_several c r i n d =
    let q = number_goes_on r (c - 48) (omega arith) d in
    (q.0, ap (λ (t : List ℕ). t ++ r) (digit_alone c i) ∙ q.1)

-- a run of digits is the text of a number: a digit alone, or several with no zero at their head
pub run_number : (l : List ℕ) → 0 < length l → Digits l → (1 < length l → get_or l 0 0 ≢ 48) → (x : ℕ) × (l ≡ number_text x)
run_number [] h d z = absurd (omega arith)
run_number (c ∷ []) h d z = (c - 48, digit_alone c (d c (Memᴰ.head refl)))
run_number (c ∷ b ∷ r) h d z = digits_several c (b ∷ r) (d c (Memᴰ.head refl)) (z (omega arith)) (λ a m. d a (Memᴰ.tail m))

-- two runs of digits in the same bytes, with no digit behind them, are one
runs_once : (s t m r : List ℕ) → Digits s → Digits t → NoDigitFirst m → NoDigitFirst r → s ++ m ≡ t ++ r → (s ≡ t) × (m ≡ r)
runs_once [] [] m r p q h k e = (refl, e)
runs_once [] (y ∷ t) m r p q h k e = absurd (subst NoDigitFirst e h (q y (Memᴰ.head refl)))
runs_once (x ∷ s) [] m r p q h k e = absurd (subst NoDigitFirst (sym e) k (p x (Memᴰ.head refl)))
runs_once (x ∷ s) (y ∷ t) m r p q h k e =
    let i = runs_once s t m r (λ b n. p b (Memᴰ.tail n)) (λ b n. q b (Memᴰ.tail n)) h k cc in
    let f = i.0 in
    (cc, i.1)

number_digits : (x : ℕ) → Digits (number_text x)
number_digits x b m = digits_only x b m

-- two numbers in the same bytes, with no digit behind them
pub numbers_end : (x y : ℕ) (m r : List ℕ) → NoDigitFirst m → NoDigitFirst r → number_text x ++ m ≡ number_text y ++ r → (number_text x ≡ number_text y) × (m ≡ r)
numbers_end x y m r = runs_once (number_text x) (number_text y) m r (number_digits x) (number_digits y)

-- so many digits come first
module _ (l : List ℕ) (count : ℕ) (runs : RunsTo l count) where
  run_digits : Digits (take count l)
  run_digits b m = let p = held_place count l b m in subst IsDigit (sym p.2) (runs.digits p.0 (omega (arith, p.1)))

  run_ends : (x : ℕ) (more : List ℕ) → NoDigitFirst more → l ≡ number_text x ++ more → count ≡ length (number_text x)
  run_ends x more h e =
      let p = runs_once (take count l) (number_text x) (drop count l) more run_digits (number_digits x) runs.stops h (take-append-drop count l ∙ e) in
      sym (length-take-le count l runs.within) ∙ ap length p.0

  -- no number has no digit, or several with a zero at their head
  pub counts_zero : count ≡ 0 → CountsDigits l None
  counts_zero z = record {
    is_number = λ k e. absurd (cc e);
    every_number = λ x more n e. absurd (omega (arith, run_ends x more n e, number_some x));
  }

  pub counts_none : 1 < count → get_or l 0 0 ≡ 48 → CountsDigits l None
  counts_none h z = record { is_number = λ k e. absurd (cc e); every_number = λ x more n e. absurd (by x more n e) }
    where
      zero_first : (x : ℕ) (more : List ℕ) → l ≡ number_text x ++ more → get_or (number_text x) 0 0 ≡ 48
      zero_first x more e = sym (get_or-append (number_text x) more 0 0 (number_some x)) ∙ ap (λ (m : List ℕ). get_or m 0 0) (sym e) ∙ z

      by : (x : ℕ) (more : List ℕ) → NoDigitFirst more → l ≡ number_text x ++ more → ⊥
      by zero more n e = omega (arith, run_ends 0 more n e, ap length (one_digit 0 (omega arith)))
      by (suc x) more n e = no_leading_zero (suc x) (omega arith) (zero_first (suc x) more e)

  pub counts_run : 0 < count → (1 < count → get_or l 0 0 ≢ 48) → CountsDigits l (Some count)
  counts_run p z = record {
    is_number = λ k e. let i : count ≡ k = cc in rw (← i) (runs.within, of);
    every_number = λ x more n e. ap (λ (k : ℕ). Some k) (run_ends x more n e);
  }
    where
      of : (x : ℕ) × (take count l ≡ number_text x)
      of = let k = length-take-le count l runs.within in run_number (take count l) (omega arith) run_digits (λ h e. z (omega arith) (sym (get_or-take count l 0 0 p) ∙ e))

-- a number that is counted begins with a digit
pub digit_first : (l : List ℕ) (count : ℕ) {r : Option ℕ} → CountsDigits l r → r ≡ Some count → 48 ≤ get_or l 0 0
digit_first l count k e =
    let p = k.is_number count e in
    let several : 0 < count = omega (arith, length-take-le count l p.0, ap length p.1.1, number_some p.1.0) in
    let d : get_or (number_text p.1.0) 0 0 ≡ get_or l 0 0 = ap (λ (m : List ℕ). get_or m 0 0) (sym p.1.1) ∙ get_or-take count l 0 0 several in
    let f = number_digits p.1.0 (get_or (number_text p.1.0) 0 0) (get_or_among (number_text p.1.0) 0 0 (number_some p.1.0)) in
    omega arith

-- the first digit and how many there are tell the number up to ten
pub tells_up_to_ten : (x n : ℕ) → TellsNumber (get_or (number_text x) 0 0) (length (number_text x)) n → UpToTen x n
tells_up_to_ten x n t = (small, large)
  where
    small : x < 10 → n ≡ x
    small h = omega (arith, t.0 (ap length (one_digit x h)), ap (λ (l : List ℕ). get_or l 0 0) (one_digit x h))

    large : 10 ≤ x → n ≡ 10
    large h = t.1 (λ e. omega (arith, number_longer x h, number_some (x / 10)))

-- ---- a word, a number and a tail at a place

no_digit_more : (t m : List ℕ) → 0 < length t → NoDigitFirst t → NoDigitFirst (t ++ m)
no_digit_more [] m h n = absurd (omega arith)
no_digit_more (c ∷ t) m h n = n

module _ (l word tail : List ℕ) (some : 0 < length tail) (no_digit : NoDigitFirst tail) where
  finds_none : ((x : ℕ) → ¬ (l begin_with (word ++ (number_text x ++ tail)))) → FindsNumbered word tail l None
  finds_none n = record { found = λ r e. absurd (cc e); every = λ x p. absurd (n x p) }

  pub no_word : ((more : List ℕ) → l ≢ word ++ more) → FindsNumbered word tail l None
  no_word n = finds_none (λ x p. n ((number_text x ++ tail) ++ p.0) (p.1 ∙ append_assoc word (number_text x ++ tail) p.0))

  module _ (number : List ℕ) (word_stands : l ≡ word ++ number) where
    behind_word : (x : ℕ) → l begin_with (word ++ (number_text x ++ tail)) → (more : List ℕ) × (number ≡ number_text x ++ (tail ++ more))
    behind_word x p =
        (p.0, append_cancel_left word _ _ (sym word_stands ∙ p.1 ∙ append_assoc word (number_text x ++ tail) p.0) ∙ append_assoc (number_text x) tail p.0)

    module _ {r : Option ℕ} (counts : CountsDigits number r) where
      count_told : (x : ℕ) (p : l begin_with (word ++ (number_text x ++ tail))) → r ≡ Some (length (number_text x))
      count_told x p = let q = behind_word x p in counts.every_number x (tail ++ q.0) (no_digit_more tail q.0 some no_digit) q.1

      module _ (count : ℕ) (is : r ≡ Some count) where
        pub no_tail : ((more : List ℕ) → drop count number ≢ tail ++ more) → FindsNumbered word tail l None
        no_tail n = finds_none by
          where
            by : (x : ℕ) → ¬ (l begin_with (word ++ (number_text x ++ tail)))
            by x p =
                let q = behind_word x p in
                let e : length (number_text x) ≡ count = let t = count_told x p in cc in
                n q.0 (ap (drop count) q.1 ∙ drop_at (number_text x) (tail ++ q.0) count e)

        pub line_found : (more : List ℕ) → drop count number ≡ tail ++ more → (n : Numbered) → n.length ≡ length word + count + length tail → TellsNumber (get_or number 0 0) count n.number
            → FindsNumbered word tail l (Some n)
        line_found more t n length_is tells = record {
          found = λ m i. let e : n ≡ m = cc in let p = counts.is_number count is in rw (← e) (p.1.0, number_found p.1.0 p.1.1);
          every = λ x p. (n, refl, number_found x (digits x p));
        }
          where
            digits : (x : ℕ) → l begin_with (word ++ (number_text x ++ tail)) → take count number ≡ number_text x
            digits x p =
                let q = behind_word x p in
                let e : length (number_text x) ≡ count = let t = count_told x p in cc in
                ap (take count) q.1 ∙ take_at (number_text x) (tail ++ q.0) count e

            number_found : (x : ℕ) → take count number ≡ number_text x → IsNumbered word tail l x n
            number_found x e =
                let k : count ≡ length (number_text x) = sym (length-take-le count number (counts.is_number count is).0) ∙ ap length e in
                let several : 0 < count = omega (arith, number_some x) in
                let first : get_or number 0 0 ≡ get_or (number_text x) 0 0 = sym (get_or-take count number 0 0 several) ∙ ap (λ (m : List ℕ). get_or m 0 0) e in
                let whole : number ≡ number_text x ++ (tail ++ more) = sym (take-append-drop count number) ∙ ap₂ (λ (a b : List ℕ). a ++ b) e t in
                let told : TellsNumber (get_or (number_text x) 0 0) (length (number_text x)) n.number = subst (λ (k : ℕ). TellsNumber (get_or (number_text x) 0 0) k n.number) k (subst (λ (d : ℕ). TellsNumber d count n.number) first tells) in
                record {
                  stands = (more, word_stands ∙ ap (λ (m : List ℕ). word ++ m) (whole ∙ sym (append_assoc (number_text x) tail more)) ∙ sym (append_assoc word (number_text x ++ tail) more));
                  length_is = simp length-append (omega arith);
                  number_is = tells_up_to_ten x n.number told;
                }

-- a word, one digit and byte 10
pub digit_found : (l word more : List ℕ) (d : ℕ) (n : Numbered) → l ≡ word ++ (d ∷ 10 ∷ more) → IsDigit d → n.length ≡ length word + 2 → n.number + 48 ≡ d
    → FindsNumbered word (10 ∷ []) l (Some n)
digit_found l word more d n e i length_is number_is =
    line_found l word (10 ∷ []) (omega arith) (λ j. omega arith) (d ∷ 10 ∷ more) e (counts_run (d ∷ 10 ∷ more) 1 run (omega arith) (λ h. absurd (omega arith))) 1 refl more refl n (omega arith)
    (λ _. number_is, λ j. absurd (j refl))
  where
    first : (k : ℕ) → k < 1 → IsDigit (get_or (d ∷ 10 ∷ more) k 0)
    first zero h = i
    first (suc k) h = absurd (omega arith)

    run : RunsTo (d ∷ 10 ∷ more) 1
    run = record { within = omega arith; digits = first; stops = λ j. omega arith }

-- the bytes `[t] `, a digit and byte 10
pub edge_found : (l : List ℕ) (n : Numbered) → 6 ≤ length l → get_or l 0 0 ≡ 91 → get_or l 1 0 ≡ 116 → get_or l 2 0 ≡ 93 → get_or l 3 0 ≡ 32 → IsDigit (get_or l 4 0) → get_or l 5 0 ≡ 10
    → n.length ≡ 6 → n.number + 48 ≡ get_or l 4 0 → FindsEdge l (Some n)
edge_found l n h a b c d i e length_is number_is = digit_found l (text "[t] ") (drop 6 l) (get_or l 4 0) n whole i length_is number_is
  where
    at : (i x : ℕ) (rest : List ℕ) → i < length l → get_or l i 0 ≡ x → drop (suc i) l ≡ rest → drop i l ≡ x ∷ rest
    at i x rest h e r = drop-cons l i 0 h ∙ ap₂ (λ x r. x ∷ r) e r

    whole : l ≡ text "[t] " ++ (get_or l 4 0 ∷ 10 ∷ drop 6 l)
    whole = at 0 91 _ (omega arith) a (at 1 116 _ (omega arith) b (at 2 93 _ (omega arith) c (at 3 32 _ (omega arith) d (at 4 (get_or l 4 0) _ (omega arith) refl (at 5 10 _ (omega arith) e refl)))))

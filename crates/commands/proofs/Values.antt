-- Digits, bytes and numbers, read place by place: main laws `digits_at` (each is a digit), `number_more` (a number cut on the way), `bytes_put`
-- and `bytes_done` (hex read), `encoded_put` and `encoded_done` (hex written).
use Prim.Native.Nat.{ℕ, zero, suc, ◌+◌, ◌*◌, ◌-◌, ◌/◌, ◌%◌, ◌<◌, ◌≤◌}
use mathlib.Core.Path.{◌≡◌, refl, ap, sym, ◌∙◌}
use mathlib.Core.Bool.{Bool, true, false}
use mathlib.Core.List.{List, [], ◌∷◌, ◌++◌, append_assoc, append-nil}
use mathlib.Core.Logic.{◌⊎◌, inl, inr, ⊎_elim}
use lib.Dec.{ltb}
use lib.ListN.{length, get_or, set, take, drop, length-set, drop_of_length-le}
use lib.Seq.{drop-cons, take-suc-set}
use native.Mathlib.Numerals.{add-one}
use native.Mathlib.Omega.{arith}
use borrow.Author.Tests.{le-leb, lt-leb, lt-ltb, le-ltb, ltb-true, ltb-false}
use Rattle.lists.proofs.Deciding.{test_decides, ltb_decides, and_decides}
use Rattle.machine.specs.Text.{digit}
use Rattle.commands.specs.Digits.{between, digit_value, digits, bytes, encoded, number_from, at_most}

within : (a e c : ℕ) → a ≤ c → c ≤ e → between a e c ≡ true
unfolding between
within a e c h g = simp (le-leb a c h, le-leb c e g)

under : (a e c : ℕ) → c < a → between a e c ≡ false
unfolding between
under a e c h = simp (lt-leb a c h)

over : (a e c : ℕ) → a ≤ c → e < c → between a e c ≡ false
unfolding between
over a e c h g = simp (le-leb a c h, lt-leb c e g)

pub value_decimal : (c : ℕ) → 48 ≤ c → c ≤ 57 → digit_value c ≡ c - 48
unfolding digit_value
value_decimal c h g = simp (within 48 57 c h g)

pub value_lower : (c : ℕ) → 97 ≤ c → c ≤ 102 → digit_value c ≡ c - 87
unfolding digit_value
value_lower c h g = simp (over 48 57 c (omega arith) (omega arith), within 97 102 c h g)

-- ---- numbers that are cut at `most`

module _ (most : ℕ) where
  pub at_most_over : (n : ℕ) → most < n → at_most most n ≡ most
  unfolding at_most
  at_most_over n h = simp (lt-ltb most n h)

  pub at_most_under : (n : ℕ) → n ≤ most → at_most most n ≡ n
  unfolding at_most
  at_most_under n h = simp (le-ltb most n h)

  sides : (n : ℕ) → (most < n) ⊎ (n ≤ most)
  sides n = by_test (ltb most n) refl
    where
      by_test : (b : Bool) → ltb most n ≡ b → (most < n) ⊎ (n ≤ most)
      by_test true e = inl (ltb-true most n e)
      by_test false e = inr (ltb-false most n e)

  pub at_most_small : (n : ℕ) → at_most most n ≤ most
  at_most_small n = ⊎_elim (λ h. let e = at_most_over n h in omega arith) (λ h. let e = at_most_under n h in omega arith) (sides n)

  -- no less than `most`, whether it is more or not
  at_most_full : (n : ℕ) → most ≤ n → at_most most n ≡ most
  at_most_full n h = ⊎_elim (at_most_over n) (λ g. at_most_under n g ∙ (omega arith)) (sides n)

  -- a number that is cut on the way is the same in the end
  at_most_step : (n v : ℕ) → at_most most (n * 10 + v) ≡ at_most most (at_most most n * 10 + v)
  at_most_step n v = ⊎_elim more less (sides n)
    where
      more : most < n → at_most most (n * 10 + v) ≡ at_most most (at_most most n * 10 + v)
      more h = rw (at_most_over n h) (at_most_full (n * 10 + v) (omega arith) ∙ sym (at_most_full (most * 10 + v) (omega arith)))

      less : n ≤ most → at_most most (n * 10 + v) ≡ at_most most (at_most most n * 10 + v)
      less h = rw (at_most_under n h)

  number_cut : (n : ℕ) (l : List ℕ) → at_most most (number_from n l) ≡ at_most most (number_from (at_most most n) l)
  unfolding number_from
  number_cut n [] = sym (at_most_under (at_most most n) (at_most_small n))
  number_cut n (c ∷ l) = number_cut (n * 10 + digit_value c) l ∙ ap (λ k. at_most most (number_from k l)) (at_most_step n (digit_value c)) ∙ sym (number_cut (at_most most n * 10 + digit_value c) l)

  pub number_more : (n : ℕ) (l : List ℕ) (i : ℕ) → i < length l
      → at_most most (number_from n (drop i l)) ≡ at_most most (number_from (at_most most (n * 10 + digit_value (get_or l i 0))) (drop (suc i) l))
  unfolding number_from
  number_more n l i h = rw (drop-cons l i 0 h) (number_cut (n * 10 + digit_value (get_or l i 0)) (drop (suc i) l))

  pub number_end : (n : ℕ) (l : List ℕ) (i : ℕ) → length l ≤ i → n ≤ most → at_most most (number_from n (drop i l)) ≡ n
  unfolding number_from
  number_end n l i h g = rw (drop_of_length-le l h) (at_most_under n g)

-- ---- digits and bytes

-- digits up to a place and from it on
pub digits_more : (base : ℕ) (l : List ℕ) (i : ℕ) → i < length l → digit_value (get_or l i 0) < base → digits base (drop i l) ≡ digits base (drop (suc i) l)
unfolding digits
digits_more base l i h g = rw (drop-cons l i 0 h, lt-ltb (digit_value (get_or l i 0)) base g)

pub digits_fail : (base : ℕ) (l : List ℕ) (i : ℕ) → i < length l → base ≤ digit_value (get_or l i 0) → digits base (drop i l) ≡ false
unfolding digits
digits_fail base l i h g = rw (drop-cons l i 0 h, le-ltb (digit_value (get_or l i 0)) base g)

pub digits_end : (base : ℕ) (l : List ℕ) (i : ℕ) → length l ≤ i → digits base (drop i l) ≡ true
unfolding digits
digits_end base l i h = rw (drop_of_length-le l h)

-- each of them is one
pub digits_at : (base : ℕ) (l : List ℕ) (i : ℕ) → digits base l ≡ true → i < length l → digit_value (get_or l i 0) < base
unfolding digits
digits_at base [] i e h = absurd (omega arith)
digits_at base (x ∷ l) zero e h = ((and_decides (ltb_decides (digit_value x) base) (test_decides (digits base l))).to e).0
digits_at base (x ∷ l) (suc i) e h = digits_at base l i ((and_decides (ltb_decides (digit_value x) base) (test_decides (digits base l))).to e).1 (omega arith)

-- the bytes from a place on
pub bytes_more : (l : List ℕ) (i : ℕ) → suc i < length l → bytes (drop i l) ≡ (digit_value (get_or l i 0) * 16 + digit_value (get_or l (suc i) 0)) ∷ bytes (drop (suc (suc i)) l)
unfolding bytes
bytes_more l i h =
    let g : i < length l = omega arith in
    rw (drop-cons l i 0 g, drop-cons l (suc i) 0 h)

pub bytes_end : (l : List ℕ) (i : ℕ) → length l ≤ i → bytes (drop i l) ≡ []
unfolding bytes
bytes_end l i h = rw (drop_of_length-le l h)

-- one pair more, at the place behind the bytes
pub bytes_put : (l b : List ℕ) (i at : ℕ) → at + 1 < length l → i < length b → bytes l ≡ take i b ++ bytes (drop at l)
    → bytes l ≡ take (i + 1) (set b i (digit_value (get_or l at 0) * 16 + digit_value (get_or l (at + 1) 0))) ++ bytes (drop (at + 2) l)
bytes_put l b i at h g e =
    let v = digit_value (get_or l at 0) * 16 + digit_value (get_or l (at + 1) 0) in
    let one : suc at ≡ at + 1 = omega arith in
    let two : suc (suc at) ≡ at + 2 = omega arith in
    let more : bytes (drop at l) ≡ v ∷ bytes (drop (at + 2) l) =
    bytes_more l at (omega arith) ∙ ap (λ k. (digit_value (get_or l at 0) * 16 + digit_value (get_or l k 0)) ∷ bytes (drop (suc (suc at)) l)) one ∙ ap (λ k. v ∷ bytes (drop k l)) two in
    let put : take (i + 1) (set b i v) ≡ take i b ++ (v ∷ []) = ap (λ k. take k (set b i v)) (add-one i) ∙ take-suc-set b i v g in
    e ∙ ap (λ (m : List ℕ). take i b ++ m) more ∙ sym (append_assoc (take i b) (v ∷ []) (bytes (drop (at + 2) l))) ∙ ap (λ (m : List ℕ). m ++ bytes (drop (at + 2) l)) (sym put)

pub bytes_done : (l b : List ℕ) (i at : ℕ) → length l ≤ at → bytes l ≡ take i b ++ bytes (drop at l) → take i b ≡ bytes l
bytes_done l b i at h e = sym (e ∙ ap (λ (m : List ℕ). take i b ++ m) (bytes_end l at h) ∙ append-nil (take i b))

-- one byte more, at the place behind the digits
pub encoded_put : (l t : List ℕ) (i at : ℕ) → i < length l → at + 1 < length t → encoded l ≡ take at t ++ encoded (drop i l)
    → encoded l ≡ take (at + 2) (set (set t at (digit (get_or l i 0 / 16))) (at + 1) (digit (get_or l i 0 % 16))) ++ encoded (drop (i + 1) l)
unfolding encoded
encoded_put l t i at h g e =
    let x = get_or l i 0 in
    let a = digit (x / 16) in
    let b = digit (x % 16) in
    let two : at + 2 ≡ suc (at + 1) = omega arith in
    let cut : i + 1 ≡ suc i = omega arith in
    let more : encoded (drop i l) ≡ a ∷ b ∷ encoded (drop (i + 1) l) = rw (drop-cons l i 0 h) (ap (λ k. a ∷ b ∷ encoded (drop k l)) (sym cut)) in
    let one : take (at + 1) (set t at a) ≡ take at t ++ (a ∷ []) = ap (λ k. take k (set t at a)) (add-one at) ∙ take-suc-set t at a (omega arith) in
    let all : take (at + 2) (set (set t at a) (at + 1) b) ≡ take at t ++ (a ∷ []) ++ (b ∷ []) =
    ap (λ k. take k (set (set t at a) (at + 1) b)) two ∙ take-suc-set (set t at a) (at + 1) b (simp length-set (omega arith)) ∙ ap (λ (m : List ℕ). m ++ (b ∷ [])) one in
    e ∙ ap (λ (m : List ℕ). take at t ++ m) more ∙ rw all (simp append_assoc)

pub encoded_done : (l t : List ℕ) (i at : ℕ) → length l ≤ i → encoded l ≡ take at t ++ encoded (drop i l) → take at t ≡ encoded l
unfolding encoded
encoded_done l t i at h e = sym (e ∙ ap (λ (m : List ℕ). take at t ++ encoded m) (drop_of_length-le l h) ∙ append-nil (take at t))

-- A row that fits is read back from its bytes (`read_back`), what is read fits and has the bytes that were read (`read_fits`, `read_split`), and
-- a refusal has its cause (`malformed`).
use Prim.Native.Nat.{ℕ, zero, suc, ◌≤◌, ◌<◌, ◌+◌, ◌*◌, ◌/◌, ◌%◌, ◌^◌}
use mathlib.Core.Path.{◌≡◌, refl, ap, sym, ◌∙◌, subst}
use mathlib.Core.Bool.{Bool, true, false, cond, ◌&&◌, ◌||◌}
use mathlib.Core.Logic.{⊎_elim, ◌↔◌}
use mathlib.Core.List.Memᴰ
use mathlib.Core.List.{List, [], ◌∷◌, ◌++◌}
use lib.Dec.{eqb, ltb, leb}
use lib.ListN.{length, take, drop, get_or, length-take, length-drop, take-append-drop}
use lib.Seq.{drop-cons, drop-drop, take-suc, get_or-drop}
use native.Mathlib.Omega.{arith}
use borrow.Author.Tests.{lt-ltb, le-ltb}
use native.Mathlib.Nat.{div-div-eq-div-mul, div-eq_of_lt, div-one, pow-suc, one-le-pow, pow-le-pow_right, div-lt_iff_lt-mul, one-mul}
use native.Mathlib.Numerals.{add-one}
use Rattle.std.specs.Int.{w64, from_be_bytes}
use Rattle.std.specs.Prelude.{Option, None, Some, Result, Ok, Err, MatchResult}
use Rattle.causes.specs.declared.Cause.{Cause}
use Rattle.causes.specs.declared.Cause.TheVariants.{UnknownKind, CutShort, HighState, ZeroSet}
use Rattle.causes.specs.Numbers.{number_of}
use Rattle.lists.specs.Tests.{Decides, ◌among◌, any}
use Rattle.lists.proofs.Deciding.{so, eqb_decides, ltb_decides, leb_decides, and_decides, any_decides, yes_decides, no_decides}
use Rattle.rows.specs.declared.Row.{Row}
use Rattle.rows.specs.declared.Row.TheVariants.{Initial, Final, Successor, LeftLimit, RightLimit, Strike}
use Rattle.rows.specs.Rows.{big, row_bytes, Fits, Bytes}
use Rattle.rows.specs.Reading.{number, set_at, row_at, row_cause, cut_or_high, unless, read_row, last_kind, Known, width, state_places, set_places, Malformed, unknown_kind, cut_short, high_state, zero_set, Headed, LimitAt}

-- without one byte more
high : (x n : ℕ) → x / 256 ^ suc n ≡ x / 256 ^ n / 256
high x n = rw pow-suc (sym (div-div-eq-div-mul x (256 ^ n) 256))

-- a number is that of its bytes, after what stands ahead of them
number_big : (n x : ℕ) → number (big n x) (x / 256 ^ n) ≡ x
number_big zero x = div-one x
number_big (suc n) x = let e : x / 256 ^ suc n * 256 + x / 256 ^ n % 256 ≡ x / 256 ^ n = rw (high x n) (omega arith) in
    ap (number (big n x)) e ∙ number_big n x

-- what stands ahead of some bytes is left when they are taken off
number_high : (l : List ℕ) (x : ℕ) → Bytes l → number l x / 256 ^ length l ≡ x
number_high [] x h = div-one x
number_high (b ∷ l) x h = let e : (x * 256 + b) / 256 ≡ x = omega (arith, h b (Memᴰ.head refl)) in
    high (number l (x * 256 + b)) (length l) ∙ (ap (λ (y : ℕ). y / 256) (number_high l (x * 256 + b) (λ c m. h c (Memᴰ.tail m))) ∙ e)

-- bytes are those of their number
big_number : (l : List ℕ) (x : ℕ) → Bytes l → big (length l) (number l x) ≡ l
big_number [] x h = refl
big_number (b ∷ l) x h = let t : Bytes l = λ c m. h c (Memᴰ.tail m) in
    let e : (x * 256 + b) % 256 ≡ b = omega (arith, h b (Memᴰ.head refl)) in
    rw (number_high l (x * 256 + b) t, e, big_number l (x * 256 + b) t)

-- one byte more
number_snoc : (l : List ℕ) (b x : ℕ) → number (l ++ (b ∷ [])) x ≡ number l x * 256 + b
number_snoc [] b x = refl
number_snoc (a ∷ l) b x = number_snoc l b (x * 256 + a)

-- a set is the number of its eight bytes
pub eight : (P : ℕ) → P < 256 ^ 8 → number (big 8 P) 0 ≡ P
eight P h = subst (λ (x : ℕ). number (big 8 P) x ≡ P) (div-eq_of_lt h) (number_big 8 P)

-- parts of bytes are bytes
in_take : (n : ℕ) (l : List ℕ) (x : ℕ) → x among take n l → x among l
in_take zero l x m = absurd (Memᴰ.not-nil m)
in_take (suc n) [] x m = m
in_take (suc n) (a ∷ l) x m = ⊎_elim Memᴰ.head (λ i. Memᴰ.tail (in_take n l x i)) (Memᴰ.cases_cons m)

in_drop : (n : ℕ) (l : List ℕ) (x : ℕ) → x among drop n l → x among l
in_drop zero l x m = m
in_drop (suc n) [] x m = m
in_drop (suc n) (a ∷ l) x m = Memᴰ.tail (in_drop n l x m)

pub bytes_drop : (n : ℕ) (l : List ℕ) → Bytes l → Bytes (drop n l)
bytes_drop n l h b m = h b (in_drop n l b m)

pub bytes_take : (n : ℕ) (l : List ℕ) → Bytes l → Bytes (take n l)
bytes_take n l h b m = h b (in_take n l b m)

-- past the end too
byte_at : (l : List ℕ) (i : ℕ) → Bytes l → get_or l i 0 < 256
byte_at [] i h = omega arith
byte_at (a ∷ l) zero h = h a (Memᴰ.head refl)
byte_at (a ∷ l) (suc i) h = byte_at l i (λ b m. h b (Memᴰ.tail m))

-- the set at a place with eight bytes
module _ (l : List ℕ) (j : ℕ) (h : Bytes l) (w : j + 8 ≤ length l) where
  bytes_at : Bytes (take 8 (drop j l))
  bytes_at = bytes_take 8 (drop j l) (bytes_drop j l h)

  eight_at : length (take 8 (drop j l)) ≡ 8
  eight_at = simp (length-take, length-drop) (omega arith)

  set_bytes : big 8 (set_at l j) ≡ take 8 (drop j l)
  unfolding set_at
  set_bytes = subst (λ (n : ℕ). big n (number (take 8 (drop j l)) 0) ≡ take 8 (drop j l)) eight_at (big_number (take 8 (drop j l)) 0 bytes_at)

  set_below : set_at l j < 256 ^ 8
  unfolding set_at
  set_below = let e : number (take 8 (drop j l)) 0 / 256 ^ 8 ≡ 0 = rw eight_at at (number_high (take 8 (drop j l)) 0 bytes_at) in omega arith

  set_split : drop j l ≡ big 8 (set_at l j) ++ drop (j + 8) l
  set_split = sym (take-append-drop 8 (drop j l))
      ∙ (ap (λ (x : List ℕ). x ++ drop 8 (drop j l)) (sym set_bytes) ∙ ap (λ (x : List ℕ). big 8 (set_at l j) ++ x) (drop-drop 8 j l))

-- the number of the first bytes from a place on, one byte after another
module _ (l : List ℕ) (j i : ℕ) (w : j + 8 ≤ length l) (g : i < 8) where
  pub number_next : number (take (i + 1) (drop j l)) 0 ≡ number (take i (drop j l)) 0 * 256 + get_or l (j + i) 0
  number_next = rw (add-one, take-suc (drop j l) i 0 (simp length-drop (omega arith)), number_snoc, get_or-drop)

  pub number_fits : Bytes l → number (take i (drop j l)) 0 < 256 ^ 7
  number_fits h =
      let m = take i (drop j l) in
      let len : length m ≤ 7 = simp length-take (omega arith) in
      let e = number_high m 0 (bytes_take i (drop j l) (bytes_drop j l h)) in
      let some : 0 < 256 ^ length m = one-le-pow (length m) 256 (omega arith) in
      let few : 256 ^ length m ≤ 256 ^ 7 = pow-le-pow_right (omega arith) len in
      let one : number m 0 / 256 ^ length m < 1 = rw e (omega arith) in
      omega (arith, (div-lt_iff_lt-mul some).0 one, one-mul (256 ^ length m), few)

pub some_bytes : (r : Row) → 0 < length (row_bytes r)
unfolding row_bytes
some_bytes (Initial s) = omega arith
some_bytes (Final s) = omega arith
some_bytes (Successor p a q) = omega arith
some_bytes (LeftLimit P q) = omega arith
some_bytes (RightLimit q P) = omega arith
some_bytes (Strike s) = omega arith

pub row_short : (r : Row) → length (row_bytes r) ≤ 10
unfolding row_bytes
row_short (Initial s) = omega arith
row_short (Final s) = omega arith
row_short (Successor p a q) = omega arith
row_short (LeftLimit P q) = omega arith
row_short (RightLimit q P) = omega arith
row_short (Strike s) = omega arith

-- what holds of both branches, each with its test, holds of the cond
cond_ok : {A : Type 0} (Q : A → Type 0) {b : Bool} {B : Type 0} {x y : A} → Decides b B → (B → Q x) → (¬ B → Q y) → Q (cond b x y)
cond_ok {A} Q {b} {B} {x} {y} d f g = go b d
  where
    go : (b : Bool) → Decides b B → Q (cond b x y)
    go true d = f (yes_decides d)
    go false d = g (no_decides d)

cond_yes : {A : Type 0} {b : Bool} {B : Type 0} {x : A} (y : A) → Decides b B → B → cond b x y ≡ x
cond_yes {x = x} y d h = cond_ok (λ z. z ≡ x) d (λ h. refl) (λ n. absurd (n h))

cond_no : {A : Type 0} {b : Bool} {B : Type 0} (x : A) {y z : A} → Decides b B → ¬ B → y ≡ z → cond b x y ≡ z
cond_no x {z = z} d n e = cond_ok (λ a. a ≡ z) d (λ h. absurd (n h)) (λ n. e)

-- what holds of each kind holds of a known kind
pub by_kind : (Q : ℕ → Type 0) → Q 1 → Q 2 → Q 3 → Q 4 → Q 5 → Q 6 → (k : ℕ) → Known k → Q k
by_kind Q a b c d e f zero h = absurd (omega arith)
by_kind Q a b c d e f (suc zero) h = a
by_kind Q a b c d e f (suc (suc zero)) h = b
by_kind Q a b c d e f (suc (suc (suc zero))) h = c
by_kind Q a b c d e f (suc (suc (suc (suc zero)))) h = d
by_kind Q a b c d e f (suc (suc (suc (suc (suc zero))))) h = e
by_kind Q a b c d e f (suc (suc (suc (suc (suc (suc zero)))))) h = f
by_kind Q a b c d e f (suc (suc (suc (suc (suc (suc (suc k))))))) h = absurd (omega arith)

-- the third of the kinds of two bytes
pub third_kind : (k : ℕ) → Known k → width k ≡ 2 → ¬ (k ≡ 1) → ¬ (k ≡ 2) → k ≡ 6
third_kind = by_kind (λ k. width k ≡ 2 → ¬ (k ≡ 1) → ¬ (k ≡ 2) → k ≡ 6)
    (λ w a b. absurd (a refl)) (λ w a b. absurd (b refl))
    (λ w a b. absurd (omega arith)) (λ w a b. absurd (omega arith)) (λ w a b. absurd (omega arith)) (λ w a b. refl)

known_decides : (k : ℕ) → Decides (ltb 0 k && leb k last_kind) (Known k)
known_decides k = and_decides (ltb_decides 0 k) (leb_decides k last_kind)

high_decides : (k : ℕ) (l : List ℕ) → Decides (any (λ i. ltb 63 (get_or l i 0)) (state_places k)) ((i : ℕ) × i among state_places k × (63 < get_or l i 0))
high_decides k l = any_decides (λ i. ltb_decides 63 (get_or l i 0)) (state_places k)

zero_decides : (k : ℕ) (l : List ℕ) → Decides (any (λ j. eqb (set_at l j) 0) (set_places k)) ((j : ℕ) × j among set_places k × (set_at l j ≡ 0))
zero_decides k l = any_decides (λ j. eqb_decides (set_at l j) 0) (set_places k)

-- no cause but an unknown kind refuses the row at the head of the bytes
pub record Sound (k : ℕ) (l : List ℕ) : Type 0 where
  pub whole : width k ≤ length l
  pub low : (i : ℕ) → i among state_places k → get_or l i 0 ≤ 63
  pub some : (j : ℕ) → j among set_places k → ¬ (set_at l j ≡ 0)

-- what a cause of a kind, or none, says
abbrev Caused : List ℕ → Option Cause → Type 0
Caused l None = Known (get_or l 0 0) × Sound (get_or l 0 0) l
Caused l (Some c) = Malformed l (number_of c)

caused : (l : List ℕ) → Caused l (row_cause (get_or l 0 0) l)
unfolding row_cause
caused l = cond_ok (Caused l) (known_decides (get_or l 0 0))
    (λ h. cond_ok (Caused l) (ltb_decides (length l) (width (get_or l 0 0))) (cut_short h)
    (λ w. let long : width (get_or l 0 0) ≤ length l = omega arith in
    cond_ok (Caused l) (high_decides (get_or l 0 0) l) (λ p. high_state (get_or l 0 0) p.0 (refl, h, long) p.1 p.2)
    (λ n. let low : (i : ℕ) → i among state_places (get_or l 0 0) → get_or l i 0 ≤ 63 = λ i m. below i m n in
    cond_ok (Caused l) (zero_decides (get_or l 0 0) l) (λ p. zero_set (get_or l 0 0) p.0 (refl, h, long) low p.1 p.2)
    (λ z. (h, record { whole = long; low = low; some = λ j m e. z (j, m, e) })))))
    unknown_kind
  where
    below : (i : ℕ) → i among state_places (get_or l 0 0) → ¬ ((i : ℕ) × i among state_places (get_or l 0 0) × (63 < get_or l i 0)) → get_or l i 0 ≤ 63
    below i m n = let g : ¬ (63 < get_or l i 0) = λ g. n (i, m, g) in omega arith

-- each cause has its number, and a sound row none
module _ (k : ℕ) (l : List ℕ) where
  pub unknown_cause : ¬ Known k → row_cause k l ≡ Some UnknownKind
  unfolding row_cause
  unknown_cause n = cond_no _ (known_decides k) n refl

  module _ (h : Known k) where
    cut_cause : length l < width k → row_cause k l ≡ Some CutShort
    unfolding row_cause
    cut_cause w = cond_yes _ (known_decides k) h ∙ cond_yes _ (ltb_decides (length l) (width k)) w

    high_cause : width k ≤ length l → (i : ℕ) → i among state_places k → 63 < get_or l i 0 → row_cause k l ≡ Some HighState
    unfolding row_cause
    high_cause w i m g = cond_yes _ (known_decides k) h ∙ cond_no _ (ltb_decides (length l) (width k)) (omega arith) (cond_yes _ (high_decides k l) (i, m, g))

    zero_cause : width k ≤ length l → ((i : ℕ) → i among state_places k → get_or l i 0 ≤ 63)
        → (j : ℕ) → j among set_places k → set_at l j ≡ 0 → row_cause k l ≡ Some ZeroSet
    unfolding row_cause
    zero_cause w low j m z =
        cond_yes _ (known_decides k) h ∙ cond_no _ (ltb_decides (length l) (width k)) (omega arith)
        (cond_no _ (high_decides k l) (λ p. omega (arith, low p.0 p.1, p.2)) (cond_yes _ (zero_decides k l) (j, m, z)))

    no_cause : Sound k l → row_cause k l ≡ None
    unfolding row_cause
    no_cause s =
        cond_yes _ (known_decides k) h ∙ cond_no _ (ltb_decides (length l) (width k)) (omega (arith, s.whole))
        (cond_no _ (high_decides k l) (λ p. omega (arith, s.low p.0 p.1, p.2)) (cond_no _ (zero_decides k l) (λ p. s.some p.0 p.1 p.2) refl))

numbered : (l : List ℕ) (n : ℕ) → Malformed l n → (c : Cause) × (row_cause (get_or l 0 0) l ≡ Some c) × (number_of c ≡ n)
numbered l _ (unknown_kind n) = (UnknownKind, unknown_cause (get_or l 0 0) l n, refl)
numbered l _ (cut_short h w) = (CutShort, cut_cause (get_or l 0 0) l h w, refl)
numbered l _ (high_state k i w m g) = (HighState, ap (λ (x : ℕ). row_cause x l) w.0 ∙ high_cause k l w.1 w.2 i m g, refl)
numbered l _ (zero_set k j w low m z) = (ZeroSet, ap (λ (x : ℕ). row_cause x l) w.0 ∙ zero_cause k l w.1 w.2 low j m z, refl)

-- the number of eight bytes
pub number_of_eight : (l : List ℕ) → length l ≡ 8 → from_be_bytes w64 l ≡ number l 0
number_of_eight (a ∷ b ∷ c ∷ d ∷ e ∷ f ∷ g ∷ h ∷ []) k = omega arith
number_of_eight [] k = absurd (omega arith)
number_of_eight (_ ∷ []) k = absurd (omega arith)
number_of_eight (_ ∷ _ ∷ []) k = absurd (omega arith)
number_of_eight (_ ∷ _ ∷ _ ∷ []) k = absurd (omega arith)
number_of_eight (_ ∷ _ ∷ _ ∷ _ ∷ []) k = absurd (omega arith)
number_of_eight (_ ∷ _ ∷ _ ∷ _ ∷ _ ∷ []) k = absurd (omega arith)
number_of_eight (_ ∷ _ ∷ _ ∷ _ ∷ _ ∷ _ ∷ []) k = absurd (omega arith)
number_of_eight (_ ∷ _ ∷ _ ∷ _ ∷ _ ∷ _ ∷ _ ∷ []) k = absurd (omega arith)
number_of_eight (_ ∷ _ ∷ _ ∷ _ ∷ _ ∷ _ ∷ _ ∷ _ ∷ _ ∷ _) k = absurd (omega arith)

-- one place, and what holds there
only : (P : ℕ → Type 0) (i : ℕ) → P i → (j : ℕ) → j among (i ∷ []) → P j
only P i h j m = subst P (sym (Memᴰ.eq_of_singleton m)) h

-- a whole row is read
read_sound : (k : ℕ) (l : List ℕ) → Known k → Sound k (k ∷ l) → read_row (k ∷ l) ≡ Ok (row_at k (k ∷ l), width k)
unfolding read_row
read_sound k l h s = rw (no_cause k (k ∷ l) h s)

-- a row that fits is read back, whatever follows it
pub read_back : (r : Row) (tail : List ℕ) → Fits r → read_row (row_bytes r ++ tail) ≡ Ok (r, length (row_bytes r))
unfolding row_bytes row_at set_at
read_back (Initial s) tail f =
    read_sound 1 (s ∷ tail) (omega arith) (record { whole = omega arith; low = only (λ i. get_or (1 ∷ s ∷ tail) i 0 ≤ 63) 1 (omega arith); some = λ j m. absurd (Memᴰ.not-nil m) })
read_back (Final s) tail f =
    read_sound 2 (s ∷ tail) (omega arith) (record { whole = omega arith; low = only (λ i. get_or (2 ∷ s ∷ tail) i 0 ≤ 63) 1 (omega arith); some = λ j m. absurd (Memᴰ.not-nil m) })
read_back (Successor p a q) tail f =
    read_sound 3 (p ∷ a ∷ q ∷ tail) (omega arith) (record {
      whole = omega arith;
      low = λ i m. ⊎_elim (λ e. rw e (omega arith)) (only (λ i. get_or (3 ∷ p ∷ a ∷ q ∷ tail) i 0 ≤ 63) 3 (omega arith) i) (Memᴰ.cases_cons m);
      some = λ j m. absurd (Memᴰ.not-nil m);
    })
read_back (LeftLimit P q) tail f =
    let l = big 8 P ++ (q ∷ tail) in
    let e : set_at (4 ∷ l) 1 ≡ P = eight P f.1 in
    read_sound 4 l (omega arith) (record {
      whole = omega arith;
      low = only (λ i. get_or (4 ∷ l) i 0 ≤ 63) 9 (omega arith);
      some = only (λ j. ¬ (set_at (4 ∷ l) j ≡ 0)) 1 (λ z. omega (arith, e, z));
    })
    ∙ ap (λ (Q : ℕ). Ok (LeftLimit Q q, 10)) e
read_back (RightLimit q P) tail f =
    let l = q ∷ (big 8 P ++ tail) in
    let e : set_at (5 ∷ l) 2 ≡ P = eight P f.1 in
    read_sound 5 l (omega arith) (record {
      whole = omega arith;
      low = only (λ i. get_or (5 ∷ l) i 0 ≤ 63) 1 (omega arith);
      some = only (λ j. ¬ (set_at (5 ∷ l) j ≡ 0)) 2 (λ z. omega (arith, e, z));
    })
    ∙ ap (λ (Q : ℕ). Ok (RightLimit q Q, 10)) e
read_back (Strike s) tail f =
    read_sound 6 (s ∷ tail) (omega arith) (record { whole = omega arith; low = only (λ i. get_or (6 ∷ s ∷ tail) i 0 ≤ 63) 1 (omega arith); some = λ j m. absurd (Memᴰ.not-nil m) })

-- one reading is of one row
pub ok_parts : {r s : Row} {m n : ℕ} → ◌≡◌ {A = Result (Row × ℕ) Cause} (Ok (r, m)) (Ok (s, n)) → (r ≡ s) × (m ≡ n)
ok_parts {r} {s} {m} {n} e = let p : ◌≡◌ {A = Row × ℕ} (r, m) (s, n) = cc in (ap (λ (x : Row × ℕ). x.0) p, ap (λ (x : Row × ℕ). x.1) p)

-- what was read, or why not
abbrev Right : List ℕ → Result (Row × ℕ) Cause → Type 0
Right l (Err c) = Malformed l (number_of c)
Right l (Ok (r, n)) = Known (get_or l 0 0) × Sound (get_or l 0 0) l × (r ≡ row_at (get_or l 0 0) l) × (n ≡ width (get_or l 0 0))

-- nothing to read, and something
pub read_none : (l : List ℕ) → length l ≡ 0 → read_row l ≡ Err CutShort
unfolding read_row
read_none [] h = refl
read_none (k ∷ l) h = absurd (omega arith)

pub read_some : (l : List ℕ) → 0 < length l → read_row l ≡ unless (row_cause (get_or l 0 0) l) (row_at (get_or l 0 0) l, width (get_or l 0 0))
unfolding read_row
read_some [] h = absurd (omega arith)
read_some (k ∷ l) h = refl

unless_err : {A : Type 0} (o : Option Cause) (x : A) {c : Cause} → Err c ≡ unless o x → o ≡ Some c
unless_err None x e = cc
unless_err (Some d) x e = cc

unless_ok : {A : Type 0} (o : Option Cause) (x : A) {y : A} → Ok y ≡ unless o x → (o ≡ None) × (y ≡ x)
unless_ok None x e = (refl, cc)
unless_ok (Some d) x e = (cc, cc)

-- by the cause of the kind at the head, if there is one
module _ (l : List ℕ) {A : Type 0} (x : A) where
  pub cause_refuses : {c : Cause} → 0 < length l → Err c ≡ unless (row_cause (get_or l 0 0) l) x → Err c ≡ read_row l
  cause_refuses h e = sym (read_some l h ∙ rw (unless_err (row_cause (get_or l 0 0) l) x e))

  pub cause_none : (k : ℕ) {y : A} → Headed k l → Ok y ≡ unless (row_cause (get_or l 0 0) l) x → Ok (row_at k l, width k) ≡ read_row l
  cause_none k h e = sym (read_some l h.0 ∙ rw ((unless_ok (row_cause (get_or l 0 0) l) x e).0, h.1))

  pub cause_sound : (k : ℕ) {y : A} → get_or l 0 0 ≡ k → Ok y ≡ unless (row_cause (get_or l 0 0) l) x → Sound k l × (y ≡ x)
  cause_sound k h e = let p = unless_ok (row_cause (get_or l 0 0) l) x e in
      (subst (λ (j : ℕ). Sound j l) h (subst (Caused l) p.0 (caused l)).1, p.1)

-- the cause of a known kind by its tests in their order: its bytes, the states at some places, the sets at some places
abbrev pub tests_cause : ℕ → List ℕ → List ℕ → List ℕ → Option Cause
tests_cause w s t l = cut_or_high w s l (cond (any (λ j. eqb (set_at l j) 0) t) (Some ZeroSet) None)

pub known_cause : (k : ℕ) (l : List ℕ) → Known k → row_cause k l ≡ tests_cause (width k) (state_places k) (set_places k) l
unfolding row_cause
known_cause k l g = rw (so (known_decides k) g)

-- kinds 1, 2 and 6 have one table
pub state_tests : (k : ℕ) (l : List ℕ) → Known k → width k ≡ 2 → row_cause k l ≡ tests_cause 2 (1 ∷ []) [] l
state_tests k l = by_kind (λ k. width k ≡ 2 → row_cause k l ≡ tests_cause 2 (1 ∷ []) [] l)
    (λ g. known_cause 1 l (omega arith)) (λ g. known_cause 2 l (omega arith))
    (λ g. absurd (omega arith)) (λ g. absurd (omega arith)) (λ g. absurd (omega arith))
    (λ g. known_cause 6 l (omega arith)) k

-- the last test of a state decides, where no set is tested
pub last_state : (x : ℕ) (r : Result (Unit {0}) Cause) → MatchResult r (λ u. x ≤ 63) (λ c. (c ≡ HighState) × (63 < x))
    → r ≡ unless (cond (ltb 63 x || false) (Some HighState) None) tt
last_state x (Ok u) h = rw (le-ltb 63 x h)
last_state x (Err c) h = rw (lt-ltb 63 x h.1, h.0)

-- what kinds 4 and 5 have alike, with a state at place i and a set at place j
pub record Limit (l : List ℕ) (i j k : ℕ) : Type 0 where
  pub tests : row_cause k l ≡ tests_cause 10 (i ∷ []) (j ∷ []) l
  pub wide : width k ≡ 10
  pub places : (i < 10) × (j ≤ 2)
  pub left : k ≡ 4 → row_at k l ≡ LeftLimit (set_at l j) (get_or l i 0)
  pub right : k ≡ 5 → row_at k l ≡ RightLimit (get_or l i 0) (set_at l j)

first : {x y : ℕ} → ◌≡◌ {A = List ℕ} (x ∷ []) (y ∷ []) → x ≡ y
first e = ap (λ (l : List ℕ). get_or l 0 0) e

pub limit_of : (l : List ℕ) (i j k : ℕ) → LimitAt k i j → Limit l i j k
unfolding row_at
limit_of l i j k at = by_kind (λ k. LimitAt k i j → Limit l i j k)
    (λ g. absurd (omega (arith, g.0))) (λ g. absurd (omega (arith, g.0))) (λ g. absurd (omega (arith, g.0)))
    (λ g. let p : 9 ≡ i = first g.2 in let q : 1 ≡ j = first g.3 in record {
      tests = rw (← p, ← q) (known_cause 4 l (omega arith));
      wide = refl;
      places = omega arith;
      left = λ z. rw (← p, ← q);
      right = λ z. absurd (omega arith);
    })
    (λ g. let p : 1 ≡ i = first g.2 in let q : 2 ≡ j = first g.3 in record {
      tests = rw (← p, ← q) (known_cause 5 l (omega arith));
      wide = refl;
      places = omega arith;
      left = λ z. absurd (omega arith);
      right = λ z. rw (← p, ← q);
    })
    (λ g. absurd (omega (arith, g.1)))
    k (omega (arith, at.0, at.1)) at

-- no such kind at the head
pub read_unknown : (k : ℕ) (l : List ℕ) → Headed k l → ¬ Known k → read_row l ≡ Err UnknownKind
read_unknown k l h n = read_some l h.0 ∙ rw (h.1, unknown_cause k l n)

by_cause : (l : List ℕ) (o : Option Cause) → Caused l o → Right l (unless o (row_at (get_or l 0 0) l, width (get_or l 0 0)))
by_cause l None c = (c.0, c.1, refl, refl)
by_cause l (Some d) c = c

right : (l : List ℕ) → 0 < length l → Right l (read_row l)
right l h = rw (read_some l h) (by_cause l (row_cause (get_or l 0 0) l) (caused l))

-- the reader refuses with the cause of the number, and with no other
pub malformed : (l : List ℕ) (n : ℕ) → 0 < length l → ((c : Cause) × (read_row l ≡ Err c) × (number_of c ≡ n)) ↔ Malformed l n
malformed l n h = (
  (λ (c, e, i). subst (Malformed l) i (subst (Right l) e (right l h))),
  λ m. let (c, e, i) = numbered l n m in (c, read_some l h ∙ rw e, i),
)

-- what holds where a row was read
got : (l : List ℕ) (r : Row) (n : ℕ) → read_row l ≡ Ok (r, n) → Right l (Ok (r, n))
unfolding read_row
got [] r n e = let z : ◌≡◌ {A = ℕ} 0 1 = cc in absurd (omega arith)
got (k ∷ l) r n e = rw e at (right (k ∷ l) (omega arith))

-- the row at the head fits, and it has the bytes at the head, as many as its kind has
fits_at : (l : List ℕ) → Bytes l → (k : ℕ) → Known k → Sound k l → Fits (row_at k l)
unfolding row_at
fits_at l h = by_kind (λ k. Sound k l → Fits (row_at k l))
    (λ s. omega (arith, s.low 1 (Memᴰ.head refl)))
    (λ s. omega (arith, s.low 1 (Memᴰ.head refl)))
    (λ s. omega (arith, s.low 1 (Memᴰ.head refl), byte_at l 2 h, s.low 3 (Memᴰ.tail (Memᴰ.head refl))))
    (λ s. omega (arith, s.some 1 (Memᴰ.head refl), set_below l 1 h (omega (arith, s.whole)), s.low 9 (Memᴰ.head refl)))
    (λ s. omega (arith, s.some 2 (Memᴰ.head refl), set_below l 2 h (omega (arith, s.whole)), s.low 1 (Memᴰ.head refl)))
    (λ s. omega (arith, s.low 1 (Memᴰ.head refl)))

pub size_at : (l : List ℕ) (k : ℕ) → Known k → length (row_bytes (row_at k l)) ≡ width k
unfolding row_bytes row_at
size_at l = by_kind (λ k. length (row_bytes (row_at k l)) ≡ width k) refl refl refl refl refl refl

split_at : (l : List ℕ) → Bytes l → (k : ℕ) → Known k → get_or l 0 0 ≡ k → width k ≤ length l → l ≡ row_bytes (row_at k l) ++ drop (width k) l
unfolding row_bytes row_at
split_at l h = by_kind (λ k. get_or l 0 0 ≡ k → width k ≤ length l → l ≡ row_bytes (row_at k l) ++ drop (width k) l)
    (λ e w. cc (byte 0 (omega arith), byte 1 (omega arith)))
    (λ e w. cc (byte 0 (omega arith), byte 1 (omega arith)))
    (λ e w. cc (byte 0 (omega arith), byte 1 (omega arith), byte 2 (omega arith), byte 3 (omega arith)))
    (λ e w. cc (byte 0 (omega arith), set_split l 1 h (omega arith), byte 9 (omega arith)))
    (λ e w. cc (byte 0 (omega arith), byte 1 (omega arith), set_split l 2 h (omega arith)))
    (λ e w. cc (byte 0 (omega arith), byte 1 (omega arith)))
  where
    byte : (i : ℕ) → i < length l → drop i l ≡ get_or l i 0 ∷ drop (suc i) l
    byte i w = drop-cons l i 0 w

-- a row that was read from bytes fits
pub read_fits : (l : List ℕ) → Bytes l → (r : Row) (n : ℕ) → read_row l ≡ Ok (r, n) → Fits r
read_fits l h r n e = let g = got l r n e in rw g.2 (fits_at l h (get_or l 0 0) g.0 g.1)

-- a row has bytes, and they lie within those given
pub read_len : (l : List ℕ) (r : Row) (n : ℕ) → read_row l ≡ Ok (r, n) → (1 ≤ n) × (n ≤ length l)
read_len l r n e = let g = got l r n e in omega (arith, g.3, g.1.whole, size_at l (get_or l 0 0) g.0, some_bytes (row_at (get_or l 0 0) l))

-- the bytes read are the row's own
pub read_split : (l : List ℕ) → Bytes l → (r : Row) (n : ℕ) → read_row l ≡ Ok (r, n) → (n ≡ length (row_bytes r)) × (l ≡ row_bytes r ++ drop n l)
read_split l h r n e = let g = got l r n e in
    rw (g.2, g.3) (sym (size_at l (get_or l 0 0) g.0), split_at l h (get_or l 0 0) g.0 refl g.1.whole)

pub no_bytes : Bytes []
no_bytes b m = absurd (Memᴰ.not-nil m)

pub byte_and : {a : ℕ} {l : List ℕ} → a < 256 → Bytes l → Bytes (a ∷ l)
byte_and {a} g h b m = ⊎_elim (λ e. omega arith) (h b) (Memᴰ.cases_cons m)

-- numbers below 256 at every place
pub all_bytes : (l : List ℕ) → ((i : ℕ) → get_or l i 0 < 256) → Bytes l
all_bytes [] h = no_bytes
all_bytes (x ∷ l) h = byte_and (h 0) (all_bytes l (λ i. h (suc i)))

pub bytes_append : (l m : List ℕ) → Bytes l → Bytes m → Bytes (l ++ m)
bytes_append l m g h b i = ⊎_elim (g b) (h b) (Memᴰ.append_cases l i)

big_bytes : (n x : ℕ) → Bytes (big n x)
big_bytes zero x = no_bytes
big_bytes (suc n) x = byte_and (omega arith) (big_bytes n x)

pub row_bytes_are_bytes : (r : Row) → Fits r → Bytes (row_bytes r)
unfolding row_bytes
row_bytes_are_bytes (Initial s) f = byte_and (omega arith) (byte_and (omega arith) no_bytes)
row_bytes_are_bytes (Final s) f = byte_and (omega arith) (byte_and (omega arith) no_bytes)
row_bytes_are_bytes (Successor p a q) f = byte_and (omega arith) (byte_and (omega arith) (byte_and f.1 (byte_and (omega arith) no_bytes)))
row_bytes_are_bytes (LeftLimit P q) f = byte_and (omega arith) (bytes_append (big 8 P) (q ∷ []) (big_bytes 8 P) (byte_and (omega arith) no_bytes))
row_bytes_are_bytes (RightLimit q P) f = byte_and (omega arith) (byte_and (omega arith) (big_bytes 8 P))
row_bytes_are_bytes (Strike s) f = byte_and (omega arith) (byte_and (omega arith) no_bytes)

-- rows that fit and have the same bytes are one row
pub bytes_apart : (r s : Row) → Fits r → Fits s → row_bytes r ≡ row_bytes s → r ≡ s
bytes_apart r s f g e =
    let a = read_back r [] f in let b = read_back s [] g in let c = ap (λ (l : List ℕ). read_row (l ++ [])) e in
    (ok_parts (sym a ∙ (c ∙ b))).0

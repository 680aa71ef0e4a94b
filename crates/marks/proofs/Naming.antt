-- What a name is (`name_tested`), and its number: it is read from the bytes and zeros (`number_read`); no two names have one, so that numbers tell
-- names apart (`one_name`).
use Prim.Native.Nat.{ℕ, zero, suc, ◌+◌, ◌*◌, ◌^◌, ◌-◌, ◌≤◌}
use Rattle.std.specs.Prelude.{Bool, IsTrue, ◌↔◌, EachIndex, slice_index, replicate, ◌++◌}
use Rattle.std.specs.Int.{w64, from_le_bytes, sum_through, byte_worth}
use mathlib.Core.Path.{◌≡◌, refl, ap, sym, ◌∙◌}
use mathlib.Core.List.Memᴰ
use mathlib.Core.List.{List, [], ◌∷◌}
use native.Mathlib.Omega.{arith}
use native.Mathlib.Nat.{pow-suc}
use Rattle.std.proofs.lemmas.List.{drop-replicate}
use lib.Dec.{eqb}
use lib.ListN.{length, get_or, drop, length-append, length-drop}
use Rattle.lists.specs.Tests.{◌among◌, Decides}
use Rattle.lists.proofs.Places.{get_or_among, place_of}
use Rattle.lists.proofs.Deciding.{alike, eqb_decides}
use Rattle.rows.specs.Rows.{same_numbers}
use Rattle.rows.proofs.Same.{same_numbers_decides}
use Rattle.machine.specs.Marks.{Name}
use Rattle.marks.specs.Record.{name_number}

-- the first of the bytes is worth itself, and the others 256 times what they are worth by themselves
worth : List ℕ → ℕ → ℕ
worth l k = sum_through (λ i. byte_worth i (get_or l i 0)) k

worth_more : (b : ℕ) (l : List ℕ) (k : ℕ) → worth (b ∷ l) (suc k) ≡ b + 256 * worth l k
unfolding worth
worth_more b l zero = omega arith
worth_more b l (suc k) =
    let x = get_or l (suc k) 0 in
    let e : worth (b ∷ l) (suc k) + x * 256 ^ suc (suc k) ≡ b + 256 * (worth l k + x * 256 ^ suc k) = rw (pow-suc 256 (suc k)) (omega (arith, worth_more b l k)) in e

worth_none : (k : ℕ) → worth [] k ≡ 0
unfolding worth
worth_none zero = refl
worth_none (suc k) = omega (arith, worth_none k)

worth_all : (l : List ℕ) (k : ℕ) → length l ≤ suc k → worth l k ≡ name_number l
unfolding worth
worth_all [] k h = worth_none k
worth_all (b ∷ []) zero h = let e : b ≡ b + 256 * 0 = omega arith in e
worth_all (b ∷ c ∷ l) zero h = absurd (omega arith)
worth_all (b ∷ l) (suc k) h = rw (worth_more b l k, worth_all l k (omega arith)) refl

-- zeros behind the bytes do not count
number_padded : (l : List ℕ) (n : ℕ) → name_number (l ++ replicate n 0) ≡ name_number l
number_padded [] zero = refl
number_padded [] (suc n) = omega (arith, number_padded [] n)
number_padded (b ∷ l) n = rw (number_padded l n) refl

pub number_read : (l : List ℕ) → length l ≤ 8 → from_le_bytes w64 (l ++ drop (length l) (replicate 8 0)) ≡ name_number l
unfolding worth
number_read l h =
    let zeros : List ℕ = drop (length l) (replicate 8 0) in
    let few : length (l ++ zeros) ≤ 8 = omega (arith, length-append l zeros, length-drop {A = ℕ} (length l) (replicate 8 0)) in
    worth_all (l ++ zeros) 7 few ∙ rw (drop-replicate {X = ℕ} (length l) 8 0) (number_padded l (8 - length l))

-- a name has so many bytes, and all of them are letters
pub name_tested : (l : List ℕ) {r : Bool} → 1 ≤ length l → length l ≤ 8
    → IsTrue r ↔ EachIndex l (λ k. (97 ≤ slice_index l k) × (slice_index l k ≤ 122)) → Decides r (Name l)
name_tested l some few all = record {
  to = λ h. record {
    some_byte = some;
    short = few;
    letters = λ b m. let p = place_of _ b m in rw p.2 at (all.0 h p.0 p.1);
  };
  of = λ n. all.1 (λ i h. n.letters _ (get_or_among l i 0 h));
}

-- a letter is a byte, and not 0
abbrev Letters : List ℕ → Type 0
Letters l = (b : ℕ) → b among l → (97 ≤ b) × (b ≤ 122)

pub number_only : (l m : List ℕ) → Letters l → Letters m → name_number l ≡ name_number m → l ≡ m
number_only [] [] p q e = refl
number_only [] (c ∷ m) p q e = let h = q c (Memᴰ.head refl) in absurd (omega arith)
number_only (b ∷ l) [] p q e = let h = p b (Memᴰ.head refl) in absurd (omega arith)
number_only (b ∷ l) (c ∷ m) p q e =
    let g = p b (Memᴰ.head refl) in
    let h = q c (Memᴰ.head refl) in
    let same : b ≡ c = omega arith in
    let rest = number_only l m (λ x i. p x (Memᴰ.tail i)) (λ x i. q x (Memᴰ.tail i)) (omega arith) in
    cc

pub one_name : (l m : List ℕ) → Name l → Name m → eqb (name_number m) (name_number l) ≡ same_numbers l m
one_name l m p q =
    alike (eqb_decides (name_number m) (name_number l)) (same_numbers_decides l m) (λ e. number_only l m p.letters q.letters (sym e)) (λ e. sym (ap name_number e))

-- The order of bytes is that of their numbers, and bytes of one length may be filled alike.
use Prim.Native.Nat.{ℕ, ◌<◌, ◌+◌, ◌*◌}
use mathlib.Core.Path.{◌≡◌, refl, ap, sym, ◌∙◌}
use mathlib.Core.Bool.{Bool, true, false, ◌&&◌, ◌||◌, and-false, or-false}
use mathlib.Core.Logic.{◌⊎◌, inl, inr}
use mathlib.Core.List.Memᴰ
use mathlib.Core.List.{List, [], ◌∷◌, ◌++◌, append-nil}
use lib.Dec.{eqb, ltb}
use lib.ListN.{length, take, drop, get_or, take-append-drop}
use native.Mathlib.Omega.{arith}
use native.Mathlib.Decide.{dec_lt}
use Rattle.lists.specs.Tests.{Decides}
use Rattle.lists.specs.Order.{before}
use Rattle.lists.proofs.Deciding.{alike, not_so, yes_decides, eqb_decides, ltb_decides, and_decides, or_decides, test_decides}
use Rattle.lists.proofs.Sorting.{≺_irreflexive}
use Rattle.rows.specs.Rows.{Bytes}
use Rattle.rows.specs.Reading.{number}
use Rattle.sorted_keys.specs.Keys.{key_less}
use Rattle.rows.proofs.Reading.{bytes_take, bytes_drop}

-- one byte more: the numbers ahead decide, then the bytes
carry : (x y b c : ℕ) (t : Bool) → b < 256 → c < 256
    → (ltb (x * 256 + b) (y * 256 + c) || (eqb (x * 256 + b) (y * 256 + c) && t)) ≡ (ltb x y || (eqb x y && (ltb b c || (eqb b c && t))))
carry x y b c t h k =
    alike (or_decides (ltb_decides (x * 256 + b) (y * 256 + c)) (and_decides (eqb_decides (x * 256 + b) (y * 256 + c)) (test_decides t)))
    (or_decides (ltb_decides x y) (and_decides (eqb_decides x y) (or_decides (ltb_decides b c) (and_decides (eqb_decides b c) (test_decides t))))) (into (dec_lt x y)) out
  where
    into : Dec (x < y) → (x * 256 + b < y * 256 + c) ⊎ ((x * 256 + b ≡ y * 256 + c) × (t ≡ true)) → (x < y) ⊎ ((x ≡ y) × ((b < c) ⊎ ((b ≡ c) × (t ≡ true))))
    into (yes l) p = inl l
    into (no n) (inl l) = inr (omega arith, inl (omega arith))
    into (no n) (inr p) = inr (omega (arith, p.0), inr (omega (arith, p.0), p.1))

    out : (x < y) ⊎ ((x ≡ y) × ((b < c) ⊎ ((b ≡ c) × (t ≡ true)))) → (x * 256 + b < y * 256 + c) ⊎ ((x * 256 + b ≡ y * 256 + c) × (t ≡ true))
    out (inl l) = inl (omega arith)
    out (inr (e, inl l)) = inl (omega arith)
    out (inr (e, inr (i, u))) = inr (omega arith, u)

-- the numbers of bytes of one length decide, then what follows them
number_order : (l m p q : List ℕ) (x y : ℕ) → length l ≡ length m → Bytes l → Bytes m
    → (ltb (number l x) (number m y) || (eqb (number l x) (number m y) && before p q)) ≡ (ltb x y || (eqb x y && before (l ++ p) (m ++ q)))
number_order [] [] p q x y e h k = refl
number_order [] (c ∷ m) p q x y e h k = absurd (omega arith)
number_order (b ∷ l) [] p q x y e h k = absurd (omega arith)
number_order (b ∷ l) (c ∷ m) p q x y e h k =
    number_order l m p q (x * 256 + b) (y * 256 + c) (omega arith) (λ a i. h a (Memᴰ.tail i)) (λ a i. k a (Memᴰ.tail i))
    ∙ carry x y b c (before (l ++ p) (m ++ q)) (h b (Memᴰ.head refl)) (k c (Memᴰ.head refl))

-- the number of the first n bytes decides, then that of the others
pub split_order : (n : ℕ) (l m : List ℕ) → length (take n l) ≡ length (take n m) → length (drop n l) ≡ length (drop n m) → Bytes l → Bytes m
    → before l m ≡ key_less (number (take n l) 0) (number (drop n l) 0) (number (take n m) 0) (number (drop n m) 0)
unfolding key_less
split_order n l m d e h k =
    let first = simp take-append-drop at (number_order (take n l) (take n m) (drop n l) (drop n m) 0 0 d (bytes_take n l h) (bytes_take n m k)) in
    let last = simp (append-nil, and-false, or-false) at (number_order (drop n l) (drop n m) [] [] 0 0 e (bytes_drop n l h) (bytes_drop n m k)) in
    rw last (sym first)

-- the same bytes after bytes of one length decide nothing
same_tail : (l m p : List ℕ) → length l ≡ length m → before (l ++ p) (m ++ p) ≡ before l m
same_tail [] [] p e = not_so (test_decides (before p p)) (≺_irreflexive p)
same_tail [] (y ∷ m) p e = absurd (omega arith)
same_tail (x ∷ l) [] p e = absurd (omega arith)
same_tail (x ∷ l) (y ∷ m) p e = ap (λ (b : Bool). ltb x y || (eqb x y && b)) (same_tail l m p (omega arith))

-- nor do any, after bytes whose first tells how many they are and what follows
pub before_filled : (l m p q : List ℕ) → 0 < length l → 0 < length m → (get_or l 0 0 ≡ get_or m 0 0 → (length l ≡ length m) × (p ≡ q))
    → before (l ++ p) (m ++ q) ≡ before l m
before_filled [] m p q h k same = absurd (omega arith)
before_filled (x ∷ l) [] p q h k same = absurd (omega arith)
before_filled (x ∷ l) (y ∷ m) p q h k same = ap (λ (b : Bool). ltb x y || b) (go (eqb x y) (eqb_decides x y))
  where
    go : (b : Bool) → Decides b (x ≡ y) → (b && before (l ++ p) (m ++ q)) ≡ (b && before l m)
    go true d = let s = same (yes_decides d) in rw s.1 (same_tail l m q (omega (arith, s.0)))
    go false d = refl

-- The different sets of some rows: which they are (`sets_iff`), their order (`sets_sorted`, `sets_once`, `sets_rise`) and their number
-- (`sets_fewer`, `sets_new`); that they fit (`set_fits`).
use Prim.Native.Nat.{ℕ, suc, ◌^◌, ◌≤◌, ◌<◌}
use mathlib.Core.Path.{◌≡◌, refl}
use mathlib.Core.Bool.{Bool, true, false}
use mathlib.Core.Logic.{◌⊎◌, inl, inr, ⊎_elim, ◌↔◌}
use mathlib.Core.List.Memᴰ
use mathlib.Core.List.{List, [], ◌∷◌}
use lib.Dec.{eqb}
use lib.ListN.{length, get_or, take}
use native.Mathlib.Omega.{arith}
use Rattle.lists.specs.Tests.{Decides, ◌among◌, ◌part_of◌, Once, any, gather}
use Rattle.lists.specs.Order.{Sorted, insert_by}
use Rattle.lists.proofs.Deciding.{eqb_decides, has_decides, yes_decides, no_decides, dec_decides, gather_in, gather_out}
use Rattle.lists.proofs.Counting.{once_length}
use Rattle.lists.proofs.Places.{held_at, held_place, rising}
use Rattle.lists.proofs.Sorting.{insert_iff, insert_sorted, insert_once, sorted_same}
use Rattle.sorted_keys.specs.Keys.{Rising}
use Rattle.rows.specs.declared.Row.{Row}
use Rattle.rows.specs.declared.Row.TheVariants.{Initial, Final, Successor, LeftLimit, RightLimit, Strike}
use Rattle.rows.specs.Rows.{Fits, AllFit, sets_of, SetOf, add_new, distinct, standing_sets}

abbrev key : ℕ → List ℕ
key P = P ∷ []

has? : (x : ℕ) (l : List ℕ) → Decides (any (eqb x) l) (x among l)
has? x l = has_decides eqb_decides x l

-- what holds of the list if the number is there, and of the longer one if it is not, holds after add-new
add_ok : (Q : List ℕ → Type 0) (x : ℕ) (l : List ℕ) → (x among l → Q l) → (¬ (x among l) → Q (insert_by key x l)) → Q (add_new x l)
add_ok Q x l f g = go (any (eqb x) l) (has? x l)
  where
    go : (b : Bool) → Decides b (x among l) → Q (elim b as (λ c. List ℕ) [ true ↦ l | false ↦ insert_by key x l ])
    go true d = f (yes_decides d)
    go false d = g (no_decides d)

distinct_iff : (l : List ℕ) (y : ℕ) → y among distinct l ↔ y among l
distinct_iff [] y = ((λ m. m), λ m. m)
distinct_iff (x ∷ l) y = let i = distinct_iff l y in let p = insert_iff key x (distinct l) y in
    add_ok (λ (m : List ℕ). y among m ↔ y among (x ∷ l)) x (distinct l)
    (λ h. ((λ m. Memᴰ.tail (i.0 m)), λ m. ⊎_elim (λ e. Memᴰ.cast e h) i.1 (Memᴰ.cases_cons m)))
    (λ h. ((λ m. ⊎_elim Memᴰ.head (λ j. Memᴰ.tail (i.0 j)) (p.0 m)), λ m. p.1 (⊎_elim inl (λ j. inr (i.1 j)) (Memᴰ.cases_cons m))))

distinct_sorted : (l : List ℕ) → Sorted key (distinct l)
distinct_sorted [] = tt
distinct_sorted (x ∷ l) = add_ok (Sorted key) x (distinct l) (λ m. distinct_sorted l) (λ n. insert_sorted key x (distinct l) (distinct_sorted l))

distinct_once : (l : List ℕ) → Once (distinct l)
distinct_once [] = tt
distinct_once (x ∷ l) = add_ok Once x (distinct l) (λ m. distinct_once l) (λ n. insert_once key x (distinct l) n (distinct_once l))

-- they are the sets of the rows
pub sets_iff : (rows : List Row) (P : ℕ) → P among standing_sets rows ↔ SetOf rows P
unfolding standing_sets
sets_iff rows P = let d = distinct_iff (gather sets_of rows) P in
    ((λ m. gather_out sets_of P rows (d.0 m)), λ s. d.1 (gather_in sets_of s.1 s.2))

pub sets_sorted : (rows : List Row) → Sorted (λ (P : ℕ). P ∷ []) (standing_sets rows)
unfolding standing_sets
sets_sorted rows = distinct_sorted (gather sets_of rows)

pub sets_once : (rows : List Row) → Once (standing_sets rows)
unfolding standing_sets
sets_once rows = distinct_once (gather sets_of rows)

-- an array that holds them rises, and each set of the rows has a place in it
module _ (rows : List Row) (sets : List ℕ) (k : ℕ) (are : take k sets ≡ standing_sets rows) where
  pub sets_rise : k ≡ length (standing_sets rows) → Rising sets k
  sets_rise count i j h l = rw (held_at k sets (standing_sets rows) are i 0 (omega arith), held_at k sets (standing_sets rows) are j 0 l)
      (rising (standing_sets rows) (sets_sorted rows) (sets_once rows) i j h (omega arith))

  pub set_place : (P : ℕ) → SetOf rows P → (i : ℕ) × (i < k) × (P ≡ get_or sets i 0)
  set_place P h = held_place k sets P (rw are ((sets_iff rows P).1 h))

-- a set of rows that fit is a number of eight bytes, and not 0
pub set_fits : (rows : List Row) → AllFit rows → (P : ℕ) → SetOf rows P → (0 < P) × (P < 256 ^ 8)
set_fits rows f P h = by h.0 (f h.0 h.1) h.2
  where
    by : (r : Row) → Fits r → P among sets_of r → (0 < P) × (P < 256 ^ 8)
    by (Initial s) g m = absurd (Memᴰ.not-nil m)
    by (Final s) g m = absurd (Memᴰ.not-nil m)
    by (Successor p a q) g m = absurd (Memᴰ.not-nil m)
    by (LeftLimit Q q) g m = rw (Memᴰ.eq_of_singleton m) (g.0, g.1)
    by (RightLimit q Q) g m = rw (Memᴰ.eq_of_singleton m) (g.0, g.1)
    by (Strike s) g m = absurd (Memᴰ.not-nil m)

sets_part : (rows rows' : List Row) → rows part_of rows' → standing_sets rows part_of standing_sets rows'
sets_part rows rows' h P m = let s = (sets_iff rows P).0 m in (sets_iff rows' P).1 (s.0, h s.0 s.1, s.2)

-- no more sets than a list that has them all
sets_within : (rows : List Row) (l : List ℕ) → standing_sets rows part_of l → length (standing_sets rows) ≤ length l
sets_within rows l h = once_length (standing_sets rows) l (sets_once rows) h

-- fewer rows have no more sets
pub sets_fewer : (rows rows' : List Row) → rows part_of rows' → length (standing_sets rows) ≤ length (standing_sets rows')
sets_fewer rows rows' h = sets_within rows (standing_sets rows') (sets_part rows rows' h)

-- the same rows, however often and in whatever order, have the same sets
pub sets_same : (rows rows' : List Row) → rows part_of rows' → rows' part_of rows → standing_sets rows ≡ standing_sets rows'
sets_same rows rows' h g = sorted_same key (standing_sets rows) (standing_sets rows') (λ x y i j e. cc) (sets_sorted rows) (sets_sorted rows') (sets_once rows) (sets_once rows')
    (sets_part rows rows' h) (sets_part rows' rows g)

-- a row has one set or none
one_set : (r : Row) → (sets_of r ≡ []) ⊎ ((P : ℕ) × (sets_of r ≡ P ∷ []))
one_set (Initial s) = inl refl
one_set (Final s) = inl refl
one_set (Successor p a q) = inl refl
one_set (LeftLimit P q) = inr (P, refl)
one_set (RightLimit q P) = inr (P, refl)
one_set (Strike s) = inl refl

-- one row more: the sets stay, or there is one more, the row's own
pub sets_new : (rows rows' : List Row) (r : Row) → ((x : Row) → x among rows' ↔ ((x ≡ r) ⊎ x among rows))
    → (length (standing_sets rows') ≤ suc (length (standing_sets rows)))
    × ((length (standing_sets rows') ≡ length (standing_sets rows)) ⊎ ((P : ℕ) × P among sets_of r × ¬ (P among standing_sets rows) × (length (standing_sets rows') ≡ suc (length (standing_sets rows)))))
sets_new rows rows' r h = ⊎_elim (λ e. (omega arith, inl e)) (λ n. (omega (arith, n.3), inr n)) (⊎_elim
    (λ e. inl (kept (λ P m. absurd (Memᴰ.not-nil (rw e at m)))))
    (λ s. own s.0 s.1 (dec_decides (has? s.0 (standing_sets rows))))
    (one_set r))
  where
    grows : rows part_of rows'
    grows x m = (h x).1 (inr m)

    from : (P : ℕ) → P among standing_sets rows' → P among sets_of r ⊎ P among standing_sets rows
    from P m = let s = (sets_iff rows' P).0 m in
        ⊎_elim (λ e. inl (rw e at s.2)) (λ i. inr ((sets_iff rows P).1 (s.0, i, s.2))) ((h s.0).0 s.1)

    kept : sets_of r part_of standing_sets rows → length (standing_sets rows') ≡ length (standing_sets rows)
    kept f = let a = sets_within rows' (standing_sets rows) (λ P m. ⊎_elim (f P) (λ i. i) (from P m)) in
        omega (arith, a, sets_fewer rows rows' grows)

    own : (P : ℕ) → sets_of r ≡ P ∷ [] → Dec (P among standing_sets rows)
        → (length (standing_sets rows') ≡ length (standing_sets rows)) ⊎ ((P : ℕ) × P among sets_of r × ¬ (P among standing_sets rows) × (length (standing_sets rows') ≡ suc (length (standing_sets rows))))
    own P e (yes i) = inl (kept (λ Q m. Memᴰ.cast (Memᴰ.eq_of_singleton (rw e at m)) i))
    own P e (no n) = let i : P among sets_of r = rw e (Memᴰ.head refl) in
        let a = sets_within rows' (P ∷ standing_sets rows) (λ Q m. ⊎_elim (λ j. Memᴰ.head (Memᴰ.eq_of_singleton (rw e at j))) Memᴰ.tail (from Q m)) in
        let b = once_length (P ∷ standing_sets rows) (standing_sets rows') (n, sets_once rows)
        (λ Q m. ⊎_elim (λ j. (sets_iff rows' Q).1 (r, (h r).1 (inl refl), Memᴰ.cast j i)) (sets_part rows rows' grows Q) (Memᴰ.cases_cons m)) in
        inr (P, i, n, omega (arith, a, b))

-- Loading and withdrawing rows: what a row does under any limits (`admission`, `admit_stops`) and under document 01's (`load_go`, `load_stops`,
-- `withdraw_go`, `withdraw_stops`), what a batch does (`load_sets`, `withdraw_sets`, `load_all`), and that tables stay tables (`load_keeps`,
-- `withdraw_keeps`, `same_table`, `sort_table`).
use Prim.Native.Nat.{ℕ, ◌≤◌, ◌<◌}
use mathlib.Core.Path.{◌≡◌, refl, ap, sym, ◌∙◌, subst}
use mathlib.Core.Bool.{Bool, true, false, not, cond}
use mathlib.Core.Logic.{◌⊎◌, inl, inr, ⊎_elim, ◌↔◌}
use mathlib.Core.List.Memᴰ
use mathlib.Core.List.{List, [], ◌∷◌, ◌++◌, append_assoc, append-nil}
use lib.Dec.{ltb, leb}
use lib.ListN.{length, length-append}
use native.Mathlib.Omega.{arith}
use Rattle.lists.specs.Tests.{Decides, ◌among◌, ◌part_of◌, Once, keep}
use Rattle.lists.specs.Order.{insert_by, sort_by}
use Rattle.lists.proofs.Deciding.{so, not_so, yes_decides, no_decides, ltb_decides, leb_decides, not_decides, keep_decides, kept}
use Rattle.lists.proofs.Counting.{once_length, keep_once, keep_length}
use Rattle.lists.proofs.Sorting.{insert_iff, insert_sorted, insert_length, insert_once, insert_last, sort_iff, sort_sorted, keep_sorted, sorted_mid, once_mid, sorted_same}
use Rattle.rows.specs.declared.Row.{Row}
use Rattle.rows.specs.Rows.{row_bytes, batch_of, Fits, AllFit, Bytes, sets_of, standing_sets, same_row, stands?}
use Rattle.rows.specs.Batch.{Turn, go, stop, fed, run_rows, feed}
use Rattle.rows.proofs.Same.{same_row_decides, stands_decides}
use Rattle.rows.proofs.Reading.{bytes_apart}
use Rattle.rows.proofs.Batch.{feed_runs, feed_batch}
use Rattle.rows.proofs.Sets.{sets_iff, sets_once, sets_fewer, sets_new}
use Rattle.machine.specs.Machine.{most_rows, most_sets, admit_row, load_row, withdraw_row}
use Rattle.machine.specs.Causes.{AdmitStops, LoadStops, full, sets_full, WithdrawStops, absent}
use Rattle.machine.specs.WellFormed.{Table}

pub no_rows : Table []
unfolding standing_sets
no_rows = record { sorted = tt; once = tt; fit = λ r m. absurd (Memᴰ.not-nil m); few = omega arith; few_sets = omega arith }

-- the rows with one more
abbrev pub with_row : Row → List Row → List Row
with_row r rows = insert_by row_bytes r rows

-- a row under any limits
module _ (max_rows max_sets : ℕ) (r : Row) (rows : List Row) where
  -- what admitting it comes to
  abbrev pub Admission : Turn (List Row) → Type 0
  Admission (go rows') = ((r among rows) × (rows' ≡ rows)) ⊎ (¬ (r among rows) × (length rows < max_rows) × (length (standing_sets rows') ≤ max_sets) × (rows' ≡ with_row r rows))
  Admission (stop n) = length (standing_sets rows) ≤ max_sets → AdmitStops max_rows max_sets rows r n

  pub admission : Admission (admit_row max_rows max_sets r rows)
  admission = by (stands? r rows) (ltb (length rows) max_rows) (leb (length (standing_sets (with_row r rows))) max_sets) (stands_decides r rows) (ltb_decides _ _) (leb_decides _ _)
    where
      by : (a b c : Bool) → Decides a (r among rows) → Decides b (length rows < max_rows) → Decides c (length (standing_sets (with_row r rows)) ≤ max_sets)
          → Admission (cond a (go rows) (cond b (cond c (go (with_row r rows)) (stop 7)) (stop 6)))
      by true b c p q s = inl (yes_decides p, refl)
      by false true true p q s = inr (no_decides p, yes_decides q, yes_decides s, refl)
      by false false c p q s = λ h. let n = no_decides q in full (no_decides p) (omega arith)
      by false true false p q s = λ h. let n = no_decides s in ⊎_elim (λ e. absurd (omega arith)) (λ x. sets_full x.0 (no_decides p) (yes_decides q) x.1 x.2 (omega (arith, x.3)))
          (sets_new rows (with_row r rows) r (insert_iff row_bytes r rows)).1

  -- a row that stands
  pub admitted_same : r among rows → admit_row max_rows max_sets r rows ≡ go rows
  admitted_same m = rw (so (stands_decides r rows) m)

  -- a row for which there is room
  pub admitted_new : ¬ (r among rows) → length rows < max_rows → length (standing_sets (with_row r rows)) ≤ max_sets → admit_row max_rows max_sets r rows ≡ go (with_row r rows)
  admitted_new n k s = rw (not_so (stands_decides r rows) n, so (ltb_decides (length rows) max_rows) k, so (leb_decides (length (standing_sets (with_row r rows))) max_sets) s)

  -- a set that no row has is one more
  more_sets : (P : ℕ) → P among sets_of r → ¬ (P among standing_sets rows) → length (standing_sets rows) < length (standing_sets (with_row r rows))
  more_sets P i k = once_length (P ∷ standing_sets rows) (standing_sets (with_row r rows)) (k, sets_once rows) (λ Q m. ⊎_elim
      (λ e. (sets_iff (with_row r rows) Q).1 (r, (insert_iff row_bytes r rows r).1 (inl refl), rw e i))
      (λ j. let s = (sets_iff rows Q).0 j in (sets_iff (with_row r rows) Q).1 (s.0, (insert_iff row_bytes r rows s.0).1 (inr s.1), s.2))
      (Memᴰ.cases_cons m))

  -- a row that is refused
  pub admit_stops : (n : ℕ) → length (standing_sets rows) ≤ max_sets → (admit_row max_rows max_sets r rows ≡ stop n) ↔ AdmitStops max_rows max_sets rows r n
  admit_stops n h = ((λ e. subst Admission e admission h), of)
    where
      of : {n : ℕ} → AdmitStops max_rows max_sets rows r n → admit_row max_rows max_sets r rows ≡ stop n
      of (full k l) = rw (not_so (stands_decides r rows) k, not_so (ltb_decides (length rows) max_rows) (λ i. omega arith))
      of (sets_full P k l i j s) =
          rw (not_so (stands_decides r rows) k, so (ltb_decides (length rows) max_rows) l, not_so (leb_decides (length (standing_sets (with_row r rows))) max_sets) (λ q. omega (arith, more_sets P i j)))

-- loading a row: under document 01's limits
pub load_go : (r : Row) (rows rows' : List Row) → load_row r rows ≡ go rows' → Admission most_rows most_sets r rows (go rows')
unfolding load_row
load_go r rows rows' e = subst (Admission most_rows most_sets r rows) e (admission most_rows most_sets r rows)

pub load_same : (r : Row) (rows : List Row) → r among rows → load_row r rows ≡ go rows
unfolding load_row
load_same r rows m = admitted_same most_rows most_sets r rows m

pub load_new : (r : Row) (rows : List Row) → ¬ (r among rows) → length rows < most_rows → length (standing_sets (with_row r rows)) ≤ most_sets → load_row r rows ≡ go (with_row r rows)
unfolding load_row
load_new r rows n k s = admitted_new most_rows most_sets r rows n k s

pub load_stops : (r : Row) (rows : List Row) (n : ℕ) → length (standing_sets rows) ≤ most_sets → (load_row r rows ≡ stop n) ↔ LoadStops rows r n
unfolding load_row
load_stops r rows n h = admit_stops most_rows most_sets r rows n h

-- the rows without one
abbrev pub without : Row → List Row → List Row
without r rows = keep (λ s. not (same_row r s)) rows

-- what withdrawing a row comes to
abbrev pub Removal : Row → List Row → Turn (List Row) → Type 0
Removal r rows (go rows') = (r among rows) × (rows' ≡ without r rows)
Removal r rows (stop n) = WithdrawStops rows r n

withdraws : (r : Row) (rows : List Row) → Removal r rows (withdraw_row r rows)
unfolding withdraw_row
withdraws r rows = by (stands? r rows) (stands_decides r rows)
  where
    by : (a : Bool) → Decides a (r among rows) → Removal r rows (cond a (go (without r rows)) (stop 8))
    by true p = (yes_decides p, refl)
    by false p = absent (no_decides p)

pub withdraw_go : (r : Row) (rows rows' : List Row) → withdraw_row r rows ≡ go rows' → Removal r rows (go rows')
withdraw_go r rows rows' e = subst (Removal r rows) e (withdraws r rows)

pub withdraw_stops : (r : Row) (rows : List Row) (n : ℕ) → (withdraw_row r rows ≡ stop n) ↔ WithdrawStops rows r n
unfolding withdraw_row
withdraw_stops r rows n = ((λ e. subst (Removal r rows) e (withdraws r rows)), of)
  where
    of : {n : ℕ} → WithdrawStops rows r n → withdraw_row r rows ≡ stop n
    of (absent k) = rw (not_so (stands_decides r rows) k)

-- what holds of no rows, and of a row and the rows after it where it holds of those, holds of all rows that lead to a state
module _ {S : Type 0} (rule : Row → S → Turn S) (P : S → List Row → S → Type 0) (end : (s : S) → P s [] s)
    (more : (r : Row) (rows : List Row) (s u t : S) → rule r s ≡ go u → P u rows t → P s (r ∷ rows) t) where
  pub run_over : (rows : List Row) (s t : S) → run_rows rule s rows ≡ go t → P s rows t
  run_over [] s t e = let i : s ≡ t = cc in subst (P s []) i (end s)
  run_over (r ∷ rows) s t e = by (rule r s) refl e (λ u f. run_over rows u t f)
    where
      by : (x : Turn S) → rule r s ≡ x → elim x as (λ y. Turn S) [ go u ↦ run_rows rule u rows | stop n ↦ stop n ] ≡ go t → ((u : S) → run_rows rule u rows ≡ go t → P u rows t) → P s (r ∷ rows) t
      by (go u) p e below = more r rows s u t p (below u e)
      by (stop n) p e below = let z : ◌≡◌ {A = ℕ} 0 1 = cc in absurd (omega arith)

-- a rule that keeps tables at each row that fits keeps them over a batch
feed_keeps : (rule : Row → List Row → Turn (List Row)) → ((r : Row) (rows rows' : List Row) → Fits r → Table rows → rule r rows ≡ go rows' → Table rows')
    → (rows rows' : List Row) (l : List ℕ) → Bytes l → Table rows → feed rule rows l ≡ fed rows' → Table rows'
feed_keeps rule k rows rows' l b t e = let o = (feed_runs rule rows rows' l b).0 e in
    run_over rule (λ s batch u. AllFit batch → Table s → Table u) (λ s f t. t)
    (λ r batch s u v i below f t. below (λ x m. f x (Memᴰ.tail m)) (k r s u (f r (Memᴰ.head refl)) t i)) o.rows rows rows' o.ran o.fit t

-- one row keeps a table
pub load_one : (r : Row) (rows rows' : List Row) → Fits r → Table rows → load_row r rows ≡ go rows' → Table rows'
load_one r rows rows' f t e = ⊎_elim
    (λ p. rw p.1 t)
    (λ p. subst Table (sym p.3) (record {
      sorted = insert_sorted row_bytes r rows t.sorted;
      once = insert_once row_bytes r rows p.0 t.once;
      fit = λ x m. ⊎_elim (λ i. rw i f) (t.fit x) ((insert_iff row_bytes r rows x).0 m);
      few = omega (arith, insert_length row_bytes r rows, p.1);
      few_sets = rw p.3 at p.2;
    }))
    (load_go r rows rows' e)

pub withdraw_one : (r : Row) (rows rows' : List Row) → Fits r → Table rows → withdraw_row r rows ≡ go rows' → Table rows'
withdraw_one r rows rows' f t e = let part : without r rows part_of rows = λ x m. kept _ rows x m in
    subst Table (sym (withdraw_go r rows rows' e).1) (record {
      sorted = keep_sorted row_bytes _ rows t.sorted;
      once = keep_once _ rows t.once;
      fit = λ x m. t.fit x (part x m);
      few = omega (arith, t.few, keep_length (λ s. not (same_row r s)) rows);
      few_sets = omega (arith, t.few_sets, sets_fewer (without r rows) rows part);
    })

pub load_keeps : (rows rows' : List Row) (l : List ℕ) → Bytes l → Table rows → feed load_row rows l ≡ fed rows' → Table rows'
load_keeps = feed_keeps load_row load_one

pub withdraw_keeps : (rows rows' : List Row) (l : List ℕ) → Bytes l → Table rows → feed withdraw_row rows l ≡ fed rows' → Table rows'
withdraw_keeps = feed_keeps withdraw_row withdraw_one

-- one row as a set
pub load_adds : (r : Row) (s u : List Row) → load_row r s ≡ go u → (x : Row) → x among u ↔ ((x ≡ r) ⊎ x among s)
load_adds r s u i x = ⊎_elim (λ p. rw p.1 (inr, ⊎_elim (λ q. rw q p.0) (λ m. m))) (λ p. rw p.3 (insert_iff row_bytes r s x)) (load_go r s u i)

pub withdraw_drops : (r : Row) (s u : List Row) → withdraw_row r s ≡ go u → (x : Row) → x among u ↔ (x among s × ¬ (r ≡ x))
withdraw_drops r s u i x = rw (withdraw_go r s u i).1 (keep_decides (λ y. not_decides (same_row_decides r y)) s x)

-- a batch as a set of rows
pub load_sets : (rows rows' batch : List Row) → run_rows load_row rows batch ≡ go rows' → (r : Row) → r among rows' ↔ (r among rows ⊎ r among batch)
load_sets rows rows' batch e x =
    run_over load_row (λ s batch t. x among t ↔ (x among s ⊎ x among batch)) (λ s. (inl, ⊎_elim (λ m. m) (λ m. absurd (Memᴰ.not-nil m))))
    (λ r batch s u t i below. let g = load_adds r s u i x in (
      (λ m. ⊎_elim (λ j. ⊎_elim (λ q. inr (Memᴰ.head q)) inl (g.0 j)) (λ j. inr (Memᴰ.tail j)) (below.0 m)),
      λ m. below.1 (⊎_elim (λ j. inl (g.1 (inr j))) (λ j. ⊎_elim (λ q. inl (g.1 (inl q))) inr (Memᴰ.cases_cons j)) m),
    )) batch rows rows' e

pub withdraw_sets : (rows rows' batch : List Row) → run_rows withdraw_row rows batch ≡ go rows' → (r : Row) → r among rows' ↔ (r among rows × ¬ (r among batch))
withdraw_sets rows rows' batch e x =
    run_over withdraw_row (λ s batch t. x among t ↔ (x among s × ¬ (x among batch))) (λ s. ((λ m. (m, λ j. Memᴰ.not-nil j)), λ p. p.0))
    (λ r batch s u t i below. let g = withdraw_drops r s u i x in (
      (λ m. let b = below.0 m in let p = g.0 b.0 in (p.0, λ j. ⊎_elim (λ q. p.1 (sym q)) b.1 (Memᴰ.cases_cons j))),
      λ p. below.1 (g.1 (p.0, λ q. p.1 (Memᴰ.head (sym q))), λ j. p.1 (Memᴰ.tail j)),
    )) batch rows rows' e

-- rows that fit are told apart by their bytes
apart : (a b : List Row) → AllFit a → AllFit b → (x y : Row) → x among a → y among b → row_bytes x ≡ row_bytes y → x ≡ y
apart a b f g x y i j = bytes_apart x y (f x i) (g y j)

pub same_table : (rows rows' : List Row) → Table rows → Table rows' → rows part_of rows' → rows' part_of rows → rows ≡ rows'
same_table a b t u = sorted_same row_bytes a b (apart a b t.fit u.fit) t.sorted u.sorted t.once u.once

sort_once : (rows : List Row) → Once rows → Once (sort_by row_bytes rows)
sort_once [] o = tt
sort_once (r ∷ rows) o = insert_once row_bytes r (sort_by row_bytes rows) (λ m. o.0 ((sort_iff row_bytes rows r).0 m)) (sort_once rows o.1)

-- a table is in order
pub sort_table : (rows : List Row) → Table rows → sort_by row_bytes rows ≡ rows
sort_table rows t = let a : sort_by row_bytes rows part_of rows = λ x. (sort_iff row_bytes rows x).0 in
    sorted_same row_bytes (sort_by row_bytes rows) rows (apart (sort_by row_bytes rows) rows (λ x m. t.fit x (a x m)) t.fit)
    (sort_sorted row_bytes rows) t.sorted (sort_once rows t.once) t.once a (λ x. (sort_iff row_bytes rows x).1)

-- the next row of a table goes to the end
load_next : (l : List Row) (r : Row) (m : List Row) → Table (l ++ (r ∷ m)) → load_row r l ≡ go (l ++ (r ∷ []))
load_next l r m t = load_new r l (once_mid row_bytes l r m t.once) (omega (arith, t.few, length-append l (r ∷ m))) (omega (arith, t.few_sets, fewer))
    ∙ ap go (insert_last row_bytes r l (sorted_mid row_bytes l r m t.sorted))
  where
    fewer : length (standing_sets (with_row r l)) ≤ length (standing_sets (l ++ (r ∷ m)))
    fewer = sets_fewer (with_row r l) (l ++ (r ∷ m)) (λ x i. ⊎_elim (λ e. Memᴰ.append_right l (Memᴰ.head e)) (Memᴰ.append_left (r ∷ m)) ((insert_iff row_bytes r l x).0 i))

load_rest : (rest l : List Row) → Table (l ++ rest) → run_rows load_row l rest ≡ go (l ++ rest)
load_rest [] l t = rw append-nil
load_rest (r ∷ rest) l t = let a = append_assoc l (r ∷ []) rest in rw (load_next l r rest t, run_rows) (load_rest rest (l ++ (r ∷ [])) (rw a t) ∙ ap go a)

-- the rows of a table, loaded in order
pub load_all : (rows : List Row) → Table rows → feed load_row [] (batch_of rows) ≡ fed rows
load_all rows t = feed_batch load_row [] rows t.fit rows (load_rest rows [] t)

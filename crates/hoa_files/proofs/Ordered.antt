-- The rows of the edges and those of the limits: which they are (`edge_rows_in`, `edge_rows_out`, `limit_rows_in`, `limit_rows_out`), each once and in order
-- (`edge_rows_once`, `edge_rows_sorted`, `limit_rows_once`, `limit_rows_sorted`), and of which kinds (`edge_rows_kind`,
-- `limit_rows_kind`).
use Prim.Native.Nat.{ℕ, ◌+◌, ◌≤◌, ◌<◌, ◌-◌, ◌/◌, ◌%◌, ◌^◌}
use mathlib.Core.Path.{◌≡◌, ap}
use mathlib.Core.Bool.{Bool, true}
use mathlib.Core.Logic.{⊎_elim}
use mathlib.Core.List.{map}
use lib.Pow.{pow_pos}
use native.Mathlib.Omega.{arith}
use Rattle.lists.specs.Tests.{◌among◌, Once, keep, range}
use Rattle.lists.specs.Order.{◌≺◌, Sorted}
use Rattle.lists.proofs.Deciding.{map_out, keep_decides, test_decides, map_in, range_in, range_out}
use Rattle.lists.proofs.Counting.{keep_once, range_once, map_once}
use Rattle.lists.proofs.Sorting.{keep_sorted, range_sorted, map_sorted}
use Rattle.masks.specs.Mask.{member, ◌∈◌}
use Rattle.rows.specs.declared.Row.{Row}
use Rattle.rows.specs.declared.Row.TheVariants.{Successor}
use Rattle.rows.specs.Rows.{row_bytes, Fits}
use Rattle.rows.specs.Keys.{high, low}
use Rattle.rows.proofs.RowOrder.{row_before, row_kind}
use Rattle.hoa_files.specs.Reading.{edge_place}
use Rattle.buchi_rows.specs.Writing.{edge_row, edge_rows, meet?, limit_row, limit_rows}
use Rattle.buchi_rows.proofs.Kept.{few_subsets}

-- the rows of the numbers that pass a test
module _ (f : ℕ → Row) (t : ℕ → Bool) (a n : ℕ) where
  kept_once : ((i j : ℕ) → f i ≡ f j → i ≡ j) → Once (map f (keep t (range a n)))
  kept_once h = map_once f (keep t (range a n)) h (keep_once t (range a n) (range_once a n))

  kept_sorted : ((i j : ℕ) → a ≤ i → i < j → j < a + n → ¬ (row_bytes (f j) ≺ row_bytes (f i))) → Sorted row_bytes (map f (keep t (range a n)))
  kept_sorted h =
      map_sorted row_bytes f (keep t (range a n)) (keep_sorted (λ (k : ℕ). row_bytes (f k)) t (range a n) (range_sorted (λ (k : ℕ). row_bytes (f k)) a n h))

-- ---- the rows of the edges

-- a row among them, by its place
pub edge_rows_out : (edges : ℕ) (r : Row) → r among edge_rows edges → (k : ℕ) × (k < 36) × (k ∈ edges) × (r ≡ edge_row k)
unfolding edge_rows
edge_rows_out edges r m =
    let x = map_out edge_row r (keep (λ k. member k edges) (range 0 36)) m in
    let y = (keep_decides (λ k. test_decides (member k edges)) (range 0 36) x.0).0 x.1 in
    (x.0, (range_out 0 36 x.0 y.0).1, y.1, x.2)

pub edge_rows_in : (edges k : ℕ) → k < 36 → k ∈ edges → edge_row k among edge_rows edges
unfolding edge_rows
edge_rows_in edges k l m = map_in edge_row ((keep_decides (λ k. test_decides (member k edges)) (range 0 36) k).1 (range_in 0 36 k (omega arith) l, m))

pub edge_at : (p q : ℕ) → q < 6 → edge_row (edge_place p q) ≡ Successor p 0 q
edge_at p q h =
    let e : edge_place p q / 6 ≡ p = omega arith in
    let g : edge_place p q % 6 ≡ q = omega arith in
    rw (e, g)

edge_fits : (k : ℕ) → k < 36 → Fits (edge_row k)
edge_fits k h = (omega arith, omega arith, omega arith)

edge_one : (i j : ℕ) → edge_row i ≡ edge_row j → i ≡ j
edge_one i j e = let a : i / 6 ≡ j / 6 = cc in let b : i % 6 ≡ j % 6 = cc in omega arith

edge_rising : (i j : ℕ) → i < j → j < 36 → ¬ (row_bytes (edge_row j) ≺ row_bytes (edge_row i))
unfolding high low
edge_rising i j h k b =
    ⊎_elim (λ l. omega arith) (λ p. omega (arith, p.1)) (row_before (edge_row j) (edge_row i) (edge_fits j k) (edge_fits i (omega arith)) b)

pub edge_rows_once : (edges : ℕ) → Once (edge_rows edges)
unfolding edge_rows
edge_rows_once edges = kept_once edge_row (λ k. member k edges) 0 36 edge_one

pub edge_rows_sorted : (edges : ℕ) → Sorted row_bytes (edge_rows edges)
unfolding edge_rows
edge_rows_sorted edges = kept_sorted edge_row (λ k. member k edges) 0 36 (λ i j l h k. edge_rising i j h k)

-- ---- the rows of the limits

pub limit_rows_out : (n marked : ℕ) (r : Row) → r among limit_rows n marked → (P : ℕ) × (1 ≤ P) × (P < 2 ^ n) × (meet? P marked ≡ true) × (r ≡ limit_row P)
unfolding limit_rows
limit_rows_out n marked r m =
    let x = map_out limit_row r (keep (λ P. meet? P marked) (range 1 (2 ^ n - 1))) m in
    let y = (keep_decides (λ P. test_decides (meet? P marked)) (range 1 (2 ^ n - 1)) x.0).0 x.1 in
    let z = range_out 1 (2 ^ n - 1) x.0 y.0 in
    (x.0, z.0, omega (arith, z.1, pow_pos n), y.1, x.2)

pub limit_rows_in : (n marked P : ℕ) → 1 ≤ P → P < 2 ^ n → meet? P marked ≡ true → limit_row P among limit_rows n marked
unfolding limit_rows
limit_rows_in n marked P h l m = map_in limit_row ((keep_decides (λ P. test_decides (meet? P marked)) (range 1 (2 ^ n - 1)) P).1 (range_in 1 (2 ^ n - 1) P h (omega arith), m))

limit_fits : (P : ℕ) → 1 ≤ P → P < 64 → Fits (limit_row P)
limit_fits P h l = (omega arith, omega arith, omega arith)

limit_one : (i j : ℕ) → limit_row i ≡ limit_row j → i ≡ j
limit_one i j e = cc

limit_rising : (i j : ℕ) → 1 ≤ i → i < j → j < 64 → ¬ (row_bytes (limit_row j) ≺ row_bytes (limit_row i))
unfolding high low
limit_rising i j l h k b =
    ⊎_elim (λ l. omega arith) (λ p. omega (arith, p.0, p.1)) (row_before (limit_row j) (limit_row i) (limit_fits j (omega arith) k) (limit_fits i l (omega arith)) b)

pub limit_rows_once : (n marked : ℕ) → Once (limit_rows n marked)
unfolding limit_rows
limit_rows_once n marked = kept_once limit_row (λ P. meet? P marked) 1 (2 ^ n - 1) limit_one

pub limit_rows_sorted : (n marked : ℕ) → n ≤ 6 → Sorted row_bytes (limit_rows n marked)
unfolding limit_rows
limit_rows_sorted n marked h = kept_sorted limit_row (λ P. meet? P marked) 1 (2 ^ n - 1) (λ i j a b c. limit_rising i j a b (omega (arith, few_subsets n h, pow_pos n)))

-- ---- their kinds

pub edge_rows_kind : (edges : ℕ) (r : Row) → r among edge_rows edges → row_kind r ≡ 3
edge_rows_kind edges r m = ap row_kind (edge_rows_out edges r m).3

pub limit_rows_kind : (n marked : ℕ) (r : Row) → r among limit_rows n marked → row_kind r ≡ 4
limit_rows_kind n marked r m = ap row_kind (limit_rows_out n marked r m).4

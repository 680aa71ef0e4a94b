-- Batches and saved rows on the machine (`loaded`, `withdrawn`, `saves`), and laws of load and withdraw (`load_again`, `load_order`, `undo`).
use Prim.Native.Nat.{ℕ}
use mathlib.Core.Path.{◌≡◌, refl, ap, ◌∙◌}
use mathlib.Core.Logic.{◌⊎◌, inl, inr, ⊎_elim, ◌↔◌}
use mathlib.Core.List.Memᴰ
use mathlib.Core.List.{List, [], ◌∷◌}
use Rattle.lists.specs.Tests.{◌among◌, ◌part_of◌}
use Rattle.rows.specs.declared.Row.{Row}
use Rattle.rows.specs.Rows.{batch_of, AllFit, Bytes}
use Rattle.rows.specs.Batch.{Turn, go, fed, run_rows, feed}
use Rattle.rows.proofs.Batch.{feed_runs, feed_batch, batch_bytes}
use Rattle.machine.specs.Machine.{Machine, open_with, fresh, load_row, withdraw_row}
use Rattle.machine.specs.Calls.{load, withdraw, save, done, wrote, Next, accept, with_rows, saved, call_in, call}
use Rattle.machine.specs.Causes.{Writes}
use Rattle.machine.specs.WellFormed.{Table}
use Rattle.machine.specs.Statements.{Loaded, Withdrawn, Saves}
use Rattle.machine.proofs.Tables.{load_same, load_keeps, withdraw_keeps, load_sets, withdraw_sets, same_table, sort_table, load_all}
use Rattle.machine.proofs.Outcomes.{Done, load_done, withdraw_done, comes}

-- the rows of a batch, and what a law says of them
batched : (rule : Row → List Row → Turn (List Row)) (Law : List Row → List Row → List Row → Type 0)
    → ((rows rows' batch : List Row) → run_rows rule rows batch ≡ go rows' → Law rows batch rows')
    → (rows rows' : List Row) (l : List ℕ) → Bytes l → feed rule rows l ≡ fed rows' → (batch : List Row) × AllFit batch × (l ≡ batch_of batch) × Law rows batch rows'
batched rule Law law rows rows' l b f = let o = (feed_runs rule rows rows' l b).0 f in (o.rows, o.fit, o.whole, law rows rows' o.rows o.ran)

-- load and withdraw that are done
pub loaded : (m : Machine) (l : List ℕ) → Bytes l → (call m (load l)).answer ≡ done → Loaded m l (call m (load l)).machine
loaded m l b e = by (comes m (load l) done e)
  where
    by : {m' : Machine} → Done m (load l) m' → Loaded m l m'
    by (load_done k rows p f) = batched load_row (λ s batch t. (r : Row) → r among t ↔ (r among s ⊎ r among batch)) load_sets m.rows rows l b f

pub withdrawn : (m : Machine) (l : List ℕ) → Bytes l → (call m (withdraw l)).answer ≡ done → Withdrawn m l (call m (withdraw l)).machine
withdrawn m l b e = by (comes m (withdraw l) done e)
  where
    by : {m' : Machine} → Done m (withdraw l) m' → Withdrawn m l m'
    by (withdraw_done k rows p f) = batched withdraw_row (λ s batch t. (r : Row) → r among t ↔ (r among s × ¬ (r among batch))) withdraw_sets m.rows rows l b f

-- saved rows, loaded into a fresh machine
pub loads_back : (m : Machine) → Table m.rows → call fresh (load (saved m)) ≡ accept (open_with m.rows)
unfolding call_in
loads_back m t = ap (with_rows fresh) (ap (λ (rows : List Row). feed load_row [] (batch_of rows)) (sort_table m.rows t) ∙ load_all m.rows t)

pub saves : (m : Machine) → Table m.rows → (size : ℕ) (l : List ℕ) → (call m (save size)).answer ≡ wrote l → Saves m l
saves m t size l e = by (comes m (save size) (wrote l) e).2
  where
    by : {l : List ℕ} {size' : ℕ} → Writes m (save size) l size' → Saves m l
    by (Writes.saves s) = record {
      bytes = rw (sort_table m.rows t) (batch_bytes m.rows t.fit);
      sorted = refl;
      loads = ap (λ (x : Next). x.answer) (loads_back m t);
      same = ap (λ (x : Next). x.machine.rows) (loads_back m t);
    }

-- rows that stand change nothing
load_standing : (rows batch : List Row) → batch part_of rows → run_rows load_row rows batch ≡ go rows
load_standing rows [] h = refl
load_standing rows (r ∷ batch) h = rw (load_same r rows (h r (Memᴰ.head refl)), run_rows) (load_standing rows batch (λ x m. h x (Memᴰ.tail m)))

-- to load a batch again changes nothing
pub load_again : (rows rows' batch : List Row) → run_rows load_row rows batch ≡ go rows' → run_rows load_row rows' batch ≡ go rows'
load_again rows rows' batch e = load_standing rows' batch (λ x m. (load_sets rows rows' batch e x).1 (inr m))

module _ (rows : List Row) where
  -- rows that fit, loaded into a table
  pub load_table : (rows' batch : List Row) → Table rows → AllFit batch → run_rows load_row rows batch ≡ go rows' → Table rows'
  load_table rows' batch t f e = load_keeps rows rows' (batch_of batch) (batch_bytes batch f) t (feed_batch load_row rows batch f rows' e)

  -- neither the order of a batch nor how often a row is in it matters
  pub load_order : (a b batch batch' : List Row) → Table rows → AllFit batch → AllFit batch' → batch part_of batch' → batch' part_of batch
      → run_rows load_row rows batch ≡ go a → run_rows load_row rows batch' ≡ go b → a ≡ b
  load_order a b batch batch' t f g p q d e = same_table a b (load_table a batch t f d) (load_table b batch' t g e) (within a b batch batch' p d e) (within b a batch' batch q e d)
    where
      within : (a b batch batch' : List Row) → batch part_of batch' → run_rows load_row rows batch ≡ go a → run_rows load_row rows batch' ≡ go b → a part_of b
      within a b batch batch' p d e x m = (load_sets rows b batch' e x).1 (⊎_elim inl (λ i. inr (p x i)) ((load_sets rows a batch d x).0 m))

  -- to withdraw rows that did not stand undoes their loading
  pub undo : (rows' batch back : List Row) → Table rows → AllFit batch → ((r : Row) → r among batch → ¬ (r among rows))
      → run_rows load_row rows batch ≡ go rows' → run_rows withdraw_row rows' batch ≡ go back → back ≡ rows
  undo rows' batch back t f new d e =
      same_table back rows (withdraw_keeps rows' back (batch_of batch) (batch_bytes batch f) (load_table rows' batch t f d) (feed_batch withdraw_row rows' batch f back e)) t
      (λ x m. let p = (withdraw_sets rows' back batch e x).0 m in ⊎_elim (λ i. i) (λ i. absurd (p.1 i)) ((load_sets rows rows' batch d x).0 p.0))
      (λ x m. (withdraw_sets rows' back batch e x).1 ((load_sets rows rows' batch d x).1 (inl m), λ i. new x i m))

-- Whatever calls led to a settled machine, it is the machine that its rows, loaded in one batch, lead to: calls make well-formed machines
-- (`call_formed`, `run_formed`), and rounds come to as many as the rows take, or as are called for (`work_runs`, `settle_runs`, `as_many`).
use Prim.Native.Nat.{ℕ, zero, suc, ◌≤◌, ◌<◌, ◌+◌}
use mathlib.Core.Path.{◌≡◌, refl, ap, sym, ◌∙◌, subst}
use mathlib.Core.Bool.{Bool, true, false}
use mathlib.Core.Logic.{◌⊎◌, inr, ⊎_elim}
use mathlib.Core.List.Memᴰ
use mathlib.Core.List.{List, [], ◌∷◌}
use lib.ListN.{replicate}
use native.Mathlib.Omega.{arith}
use native.Mathlib.Decide.{dec_lt}
use native.Mathlib.Nat.{eq-or-lt_of_le}
use Rattle.lists.specs.Tests.{◌among◌}
use Rattle.rows.specs.declared.Row.{Row}
use Rattle.orderings.specs.Decide.{accepts?}
use Rattle.machine.specs.declared.Verdict.{Verdict}
use Rattle.machine.specs.declared.Phase.{Phase}
use Rattle.machine.specs.declared.Phase.TheVariants.{Open, Running, Settled}
use Rattle.machine.specs.Machine.{most_rounds, Machine, open_with, judged, closed, opened_next, nothing?, next_round, open_claims}
use Rattle.machine.specs.Calls.{Call, close, round, Outcome, done, wrote, decided, refused, call_in, call, run, Brings, settle}
use Rattle.machine.specs.WellFormed.{Table, after, Worked, Made, WellFormed}
use Rattle.machine.proofs.Settling.{below_next, Settles, settles, few_rounds}
use Rattle.machine.proofs.Tables.{load_keeps, withdraw_keeps}
use Rattle.machine.proofs.Outcomes.{Done, load_done, withdraw_done, close_done, round_done, reopen_done, Comes, comes}

-- a machine that was worked on is made, whatever its judgement
made_judged : (m : Machine) (b v : Bool) → m.phase ≡ judged b v → Worked m → Made m m.phase
made_judged m b v e w = subst (Made m) (sym e) (by b v)
  where
    by : (b v : Bool) → Made m (judged b v)
    by true v = w
    by false true = w
    by false false = w

pub opened_formed : (rows : List Row) → Table rows → WellFormed (open_with rows)
opened_formed rows t = record { table = t; made = refl }

closed_formed : (m : Machine) → m.phase ≡ Open → WellFormed m → WellFormed (closed m)
unfolding closed
closed_formed m e w = let o : m ≡ open_with m.rows = subst (Made m) e w.made in
    record { table = w.table; made = made_judged (closed m) (accepts? m.rows []) false refl (0, ap closed o, λ j l. absurd (omega arith)) }

round_formed : (m : Machine) → m.phase ≡ Running → WellFormed m → WellFormed (next_round m)
unfolding next_round
round_formed m e w = let k : Worked m = subst (Made m) e w.made in
    record {
      table = w.table;
      made = made_judged (next_round m) (accepts? m.rows (open_claims (next_round m))) (nothing? (opened_next m)) refl (
        suc k.0,
        ap next_round k.1,
        below_next {P = λ i. (after m.rows i).phase ≡ Running} k.0 k.2 (sym (ap (λ (x : Machine). x.phase) k.1) ∙ e),
      );
    }

rows_formed : (m : Machine) (rows : List Row) → m.phase ≡ Open → WellFormed m → Table rows → WellFormed (record { rows = rows; phase = m.phase; openings = m.openings; rounds = m.rounds })
rows_formed m rows e w t = let o : m ≡ open_with m.rows = subst (Made m) e w.made in
    subst WellFormed (ap (λ (x : Machine). record { rows = rows; phase = x.phase; openings = x.openings; rounds = x.rounds }) (sym o)) (opened_formed rows t)

-- every call keeps a machine well formed
pub call_formed : (m : Machine) (c : Call) → Brings c → WellFormed m → WellFormed (call m c).machine
call_formed m c b w = by (call m c).machine (call m c).answer (comes m c (call m c).answer refl)
  where
    changed : {c : Call} {m' : Machine} → Done m c m' → Brings c → WellFormed m'
    changed (load_done l rows e f) b = rows_formed m rows e w (load_keeps m.rows rows l b w.table f)
    changed (withdraw_done l rows e f) b = rows_formed m rows e w (withdraw_keeps m.rows rows l b w.table f)
    changed (close_done e) b = closed_formed m e w
    changed (round_done e) b = round_formed m e w
    changed (reopen_done n) b = opened_formed m.rows w.table

    by : (m' : Machine) (a : Outcome) → Comes m c m' a → WellFormed m'
    by m' done d = changed d b
    by m' (wrote l) p = rw p.0 w
    by m' (decided v) p = rw p.0 w
    by m' (refused n place) p = rw p.0 w

pub run_formed : (m : Machine) (cs : List Call) → ((c : Call) → c among cs → Brings c) → WellFormed m → WellFormed (run m cs)
run_formed m [] b w = w
run_formed m (c ∷ cs) b w = run_formed (call m c).machine cs (λ x i. b x (Memᴰ.tail i)) (call_formed m c (b c (Memᴰ.head refl)) w)

pub not_both : {p : Phase} {v : Verdict} {B : Type 0} → p ≡ Running → p ≡ Settled v → B
not_both e f = let z : ◌≡◌ {A = ℕ} 0 1 = cc in absurd (omega arith)

-- another machine than a running one refuses rounds
rounds_stay : (m : Machine) → ¬ (m.phase ≡ Running) → (n : ℕ) → run m (replicate n round) ≡ m
unfolding call_in
rounds_stay m h zero = refl
rounds_stay m h (suc n) = ap (λ (x : Machine). run x (replicate n round)) (by m.phase h) ∙ rounds_stay m h n
  where
    by : (p : Phase) → ¬ (p ≡ Running) → (call_in p m round).machine ≡ m
    by Open h = refl
    by Running h = absurd (h refl)
    by (Settled v) h = refl

-- running before each of k rounds, and no more after them, or as many done as are called for
module _ (rows : List Row) (most k : ℕ) (few : k ≤ most) (before : (j : ℕ) → j < k → (after rows j).phase ≡ Running)
    (ended : (k ≡ most) ⊎ (¬ ((after rows k).phase ≡ Running))) where
  round_goes : (j : ℕ) → j < k → (call (after rows j) round).machine ≡ after rows (suc j)
  unfolding call_in
  round_goes j l = ap (λ (p : Phase). (call_in p (after rows j) round).machine) (before j l)

  run_rounds : (n j : ℕ) → j + n ≡ most → j ≤ k → run (after rows j) (replicate n round) ≡ after rows k
  run_rounds zero j e l = let i : j ≡ k = omega arith in ap (after rows) i
  run_rounds (suc n) j e l = ⊎_elim
      (λ i. subst (λ (x : ℕ). run (after rows x) (replicate (suc n) round) ≡ after rows k) (sym i) (rounds_stay (after rows k) (⊎_elim (λ f. absurd (omega arith)) (λ h. h) ended) (suc n)))
      (λ i. ap (λ (m : Machine). run m (replicate n round)) (round_goes j i) ∙ run_rounds n (suc j) (omega arith) i)
      (eq-or-lt_of_le l)

  -- closed, and called for the most rounds, it does k
  pub work_runs : run (open_with rows) (close ∷ replicate most round) ≡ after rows k
  unfolding call_in
  work_runs = run_rounds most 0 (omega arith) (omega arith)

module _ (rows : List Row) (s : Settles rows) where
  abbrev K : ℕ
  K = s.rounds

  -- a machine that was worked on has done no more rounds, and as many where it is settled
  pub no_more : (k : ℕ) → ((j : ℕ) → j < k → (after rows j).phase ≡ Running) → k ≤ K
  no_more k f = elim (dec_lt K k) [ yes l ↦ not_both (f K l) s.phase | no n ↦ omega arith ]

  pub as_many : (k : ℕ) (v : Verdict) → (after rows k).phase ≡ Settled v → k ≤ K → k ≡ K
  as_many k v e l = ⊎_elim (λ x. x) (λ i. not_both (s.before k i) e) (eq-or-lt_of_le l)

-- closed, and rounds until settled: 129 are enough
pub settle_runs : (rows : List Row) → Table rows → run (open_with rows) settle ≡ after rows (settles rows).rounds
settle_runs rows t = let s = settles rows in
    work_runs rows most_rounds s.rounds (few_rounds rows t.few_sets) s.before (inr (λ e. not_both e s.phase))

-- What holds of every machine that calls make from a fresh one: main laws `settled_number`, `second_is`, `prints`, `sheet_fits`,
-- `every_print`.
use Prim.Native.Nat.{ℕ, ◌≤◌}
use mathlib.Core.Path.{◌≡◌, refl, ap, sym, ◌∙◌, subst}
use mathlib.Core.Option.{some}
use mathlib.Core.List.{List}
use lib.ListN.{length}
use native.Mathlib.Omega.{arith}
use Rattle.lists.specs.Order.{sort_by}
use Rattle.rows.specs.declared.Row.{Row}
use Rattle.rows.specs.Rows.{row_bytes, batch_of}
use Rattle.machine.specs.declared.Verdict.{Verdict}
use Rattle.machine.specs.declared.Verdict.TheVariants.{NonEmpty}
use Rattle.machine.specs.declared.Phase.TheVariants.{Settled}
use Rattle.machine.specs.Machine.{most_rounds, Machine, open_with, fresh, open_claims}
use Rattle.machine.specs.Order.{Found, Best}
use Rattle.machine.specs.Search.{shortest}
use Rattle.machine.specs.Sheet.{sheet}
use Rattle.machine.specs.Calls.{load, print, wrote, Next, call, run, settle, second}
use Rattle.machine.specs.Causes.{Writes, sheets}
use Rattle.machine.specs.WellFormed.{Table, after, Worked, Made, WellFormed}
use Rattle.machine.specs.Statements.{after_calls, SomeWalk, Number, Listed, Prints, EveryPrint}
use Rattle.machine.proofs.Settling.{after_after, settled_walk, Settles, settles, few_rounds}
use Rattle.machine.proofs.Openings.{after_listed, openings_few}
use Rattle.machine.proofs.Search.{shortest_best}
use Rattle.machine.proofs.Walks.{best_short}
use Rattle.machine.proofs.Sheet.{sheet_short}
use Rattle.machine.proofs.Loading.{loads_back}
use Rattle.machine.proofs.Outcomes.{comes, fitting}
use Rattle.machine.proofs.History.{settle_runs, no_more, as_many}
use Rattle.machine.proofs.Marks.{calls_formed}

-- a table of rows, loaded in one batch, sorted
load_sorted : (rows : List Row) → Table rows → (call fresh (load (batch_of (sort_by row_bytes rows)))).machine ≡ open_with rows
load_sorted rows t = ap (λ (x : Next). x.machine) (loads_back (open_with rows) t)

pub second_settles : (rows : List Row) → Table rows → second rows ≡ run (open_with rows) settle
unfolding second
second_settles rows t = ap (λ x. run x settle) (load_sorted rows t)

-- what a machine writes when it prints
print_writes : (m : Machine) {size k : ℕ} {l : List ℕ} → Writes m (print size) l k → (v : Verdict) × (m.phase ≡ Settled v) × (l ≡ sheet v m) × (k ≡ size)
print_writes m (sheets v size e) = (v, e, refl, refl)

module _ (m : Machine) (w : WellFormed m) where
  abbrev s : Settles m.rows
  s = settles m.rows

  -- settled, it has done as many rounds as its rows take
  settled_is : (v : Verdict) → m.phase ≡ Settled v → m ≡ after m.rows s.rounds
  settled_is v e = let k : Worked m = subst (Made m) e w.made in
      k.1 ∙ ap (after m.rows) (as_many m.rows s k.0 v (sym (ap (λ (x : Machine). x.phase) k.1) ∙ e) (no_more m.rows s k.0 k.2))

  verdict_is : (v : Verdict) → m.phase ≡ Settled v → s.verdict ≡ v
  verdict_is v e = let f = ap (λ (x : Machine). x.phase) (settled_is v e) in let g = s.phase in cc

  rounds_is : (v : Verdict) → m.phase ≡ Settled v → m.rounds ≡ s.rounds
  rounds_is v e = ap (λ (x : Machine). x.rounds) (settled_is v e) ∙ (after_after m.rows s.rounds).count

  -- the round number is the depth that demand 3 names, at most 129
  pub settled_number : (v : Verdict) → m.phase ≡ Settled v → Number m.rows v m.rounds × (m.rounds ≤ most_rounds)
  settled_number v e = (rw (rounds_is v e, ← verdict_is v e) s.number, rw (rounds_is v e) (few_rounds m.rows w.table.few_sets))

  -- the second machine is the first
  pub second_is : (v : Verdict) → m.phase ≡ Settled v → second m.rows ≡ m
  second_is v e = second_settles m.rows w.table ∙ settle_runs m.rows w.table ∙ sym (settled_is v e)

  pub worked_listed : Worked m → Listed m
  worked_listed k = subst Listed (sym k.1) (after_listed m.rows k.0)

  pub settled_listed : (v : Verdict) → m.phase ≡ Settled v → Listed m
  settled_listed v e = worked_listed (subst (Made m) e w.made)

  pub print_accepts : (size : ℕ) (v : Verdict) → m.phase ≡ Settled v → length (sheet v m) ≤ size → (call m (print size)).answer ≡ wrote (sheet v m)
  print_accepts size v e h = fitting m (sheets v size e) h

  -- demand 3 at one print
  pub prints : (size : ℕ) → Prints m size
  prints size = record {
    accepted = λ l. (
      (λ e. let c = comes m (print size) (wrote l) e in let p = print_writes m c.2 in
          (p.0, p.1, p.2 ∙ sym (ap (sheet p.0) (second_is p.0 p.1)), omega (arith, c.3, p.3))),
      λ p. let i : l ≡ sheet p.0 m = p.2 ∙ ap (sheet p.0) (second_is p.0 p.1) in
          print_accepts size p.0 p.1 (omega (arith, p.3, ap length i)) ∙ ap wrote (sym i),
    );
    numbered = λ v e. let n = settled_number v e in rw (second_is v e) (e, n.0, n.1);
  }

  -- the walk that a non-empty sheet prints: the best one with the openings listed, of at most 63 steps
  pub printed_walk : m.phase ≡ Settled NonEmpty → (f : Found) × (shortest m.rows (open_claims m) ≡ some f) × Best m.rows (open_claims m) f × (length f.walk ≤ 63)
  printed_walk e = let i = settled_is NonEmpty e in let k = subst (λ (x : Machine). SomeWalk m.rows (open_claims x)) (sym i) some_walk in
      let c = k.1 in let b = shortest_best m.rows (open_claims m) (record { start = c.0; walk = k.0 }) (c.2, (c.1, c.3, c.4), k.2) in
      (b.0, b.1, b.2, best_short m.rows (open_claims m) b.0 w.table.fit b.2)
    where
      some_walk : SomeWalk m.rows (open_claims (after m.rows s.rounds))
      some_walk = settled_walk m.rows s.rounds (s.phase ∙ ap Settled (verdict_is NonEmpty e))

  -- no sheet exceeds 6,400 bytes
  pub sheet_fits : (v : Verdict) → m.phase ≡ Settled v → length (sheet v m) ≤ 6400
  sheet_fits v e = let n = (settled_number v e).1 in let k : Worked m = subst (Made m) e w.made in
      sheet_short v m w.table.fit (omega arith)
      (omega (arith, w.table.few_sets, ap (λ (x : Machine). length x.openings) k.1, openings_few m.rows k.0))
      (λ o i. omega (arith, n, (((worked_listed k).depths o).0 i).0))

-- demand 3 of the plain machine
pub every_print : EveryPrint
every_print cs b size = prints (after_calls cs) (calls_formed cs b) size

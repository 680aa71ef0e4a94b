-- Request C-21 of every readable automaton (`every_buchi`): its rows, its verdict, and what `sheet` writes for it.
use Prim.Native.Nat.{ℕ}
use mathlib.Core.Path.{◌≡◌, ap, sym, ◌∙◌}
use mathlib.Core.Logic.{◌↔◌}
use mathlib.Core.List.{List}
use native.Mathlib.Omega.{arith}
use Rattle.rows.specs.declared.Row.{Row}
use Rattle.rows.specs.Rows.{batch_of, Bytes}
use Rattle.rows.proofs.Batch.{batch_bytes}
use Rattle.machine.specs.declared.Verdict.{Verdict}
use Rattle.machine.specs.declared.Verdict.TheVariants.{NonEmpty}
use Rattle.machine.specs.declared.Phase.TheVariants.{Settled}
use Rattle.machine.specs.Machine.{Machine, open_with, fresh}
use Rattle.machine.specs.Sheet.{sheet}
use Rattle.machine.specs.Calls.{load, Next, run, settle, second}
use Rattle.machine.specs.Program.{program, ProgramWrites, too_long, refusal, sheet_of}
use Rattle.machine.proofs.Tables.{no_rows}
use Rattle.machine.proofs.Causes.{refusals}
use Rattle.machine.proofs.Program.{program_shows}
use Rattle.machine.proofs.Statements.{second_settles}
use Rattle.hoa_files.specs.Automata.{Buchi, Readable}
use Rattle.hoa_files.specs.Tables.{RowsOf}
use Rattle.hoa_files.specs.Cycles.{MarkedCycle, EveryBuchi}
use Rattle.hoa_files.proofs.Fresh.{rows_table, one_table}
use Rattle.hoa_files.proofs.Outputs.{batch_short}
use Rattle.hoa_files.proofs.IntoMasks.{some_rows}
use Rattle.hoa_files.proofs.Verdicts.{verdict_by_cycle}

module _ (h : Buchi) (rows : List Row) (ok : Readable h) (of : RowsOf h rows) where
  abbrev m : Machine
  m = run (open_with rows) settle

  bytes : Bytes (batch_of rows)
  bytes = batch_bytes rows (rows_table h ok rows of).fit

  -- what `sheet` writes: the batch is short and loads, so it is a sheet
  by_sheet : (t : List ℕ) → ProgramWrites (batch_of rows) t → (v : Verdict) × (t ≡ sheet v m) × (m.phase ≡ Settled v)
  by_sheet t (too_long g) = absurd (omega (arith, batch_short h rows ok of))
  by_sheet t (refusal n place g c) =
      let e = (refusals fresh (load (batch_of rows)) n place no_rows bytes).1 c in
      let f = (verdict_by_cycle h rows ok of).loads in
      let z : ◌≡◌ {A = ℕ} 0 1 = cc in absurd (omega arith)
  by_sheet t (sheet_of k v g e s) =
      let same : k ≡ open_with rows = ap (λ (x : Next). x.machine) (sym e ∙ (verdict_by_cycle h rows ok of).loads) in
      let is : second k.rows ≡ m = ap (λ (x : Machine). second x.rows) same ∙ second_settles rows (rows_table h ok rows of) in
      (v, ap (sheet v) is, ap (λ (x : Machine). x.phase) (sym is) ∙ s)

  printed : (v : Verdict) × (program (batch_of rows) ≡ sheet v m) × ((v ≡ NonEmpty) ↔ MarkedCycle h)
  printed =
      let (v, e, s) = by_sheet (program (batch_of rows)) (program_shows (batch_of rows) bytes) in
      let n = (verdict_by_cycle h rows ok of).non_empty in
      (v, e, ((λ i. n.0 (s ∙ ap Settled i)), λ c. let j = n.1 c in cc))

pub every_buchi : EveryBuchi
every_buchi = record { some_rows = some_rows; one_table = one_table; verdict = λ h rows. verdict_by_cycle h rows; printed = λ h rows ok of. printed h rows ok of }

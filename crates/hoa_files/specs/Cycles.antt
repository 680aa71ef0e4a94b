-- Request C-21: "Loaded fresh and closed for words, it is non-empty exactly when a marked state that the start reaches lies on a cycle".
use Rattle.std.specs.Prelude.{ℕ, ◌≤◌, ◌≡◌, ◌↔◌, List, length}
use Rattle.rows.specs.declared.Row.{Row}
use Rattle.rows.specs.Rows.{batch_of, standing_sets}
use Rattle.machine.specs.declared.Verdict.{Verdict}
use Rattle.machine.specs.declared.Verdict.TheVariants.{NonEmpty}
use Rattle.machine.specs.declared.Phase.TheVariants.{Settled}
use Rattle.machine.specs.Machine.{open_with, fresh}
use Rattle.machine.specs.Sheet.{sheet}
use Rattle.machine.specs.Calls.{load, accept, call, run, settle}
use Rattle.machine.specs.Program.{program}
use Rattle.hoa_files.specs.Automata.{Buchi, Readable}
use Rattle.hoa_files.specs.Tables.{Edge, IsMarked, RowsOf}

-- zero or more edges lead from p to r
pub data Reaches (h : Buchi) : ℕ → ℕ → Type 0 where
  here : (p : ℕ) → Reaches h p p
  by_edge : (p q r : ℕ) → Edge h p q → Reaches h q r → Reaches h p r

-- one or more edges lead from p back to it
abbrev pub OnCycle : Buchi → ℕ → Type 0
OnCycle h p = (q : ℕ) × Edge h p q × Reaches h q p

-- a marked state that the start reaches lies on a cycle
abbrev pub MarkedCycle : Buchi → Type 0
MarkedCycle h = (m : ℕ) × IsMarked h m × Reaches h h.start m × OnCycle h m

-- what the rows of an automaton come to
pub record VerdictByCycle (h : Buchi) (rows : List Row) : Type 0 where
  -- they are not too many, so a fresh machine loads them
  pub few_rows : length rows ≤ 101
  pub few_sets : length (standing_sets rows) ≤ 63
  pub loads : call fresh (load (batch_of rows)) ≡ accept (open_with rows)
  -- closed, it does rounds until it is settled
  pub settles : (v : Verdict) × ((run (open_with rows) settle).phase ≡ Settled v)
  pub non_empty : ((run (open_with rows) settle).phase ≡ Settled NonEmpty) ↔ MarkedCycle h

-- of every readable automaton; it has such rows, and no others
pub record EveryBuchi : Type 0 where
  pub some_rows : (h : Buchi) → Readable h → (rows : List Row) × RowsOf h rows
  pub one_table : (h : Buchi) (rows rows' : List Row) → Readable h → RowsOf h rows → RowsOf h rows' → rows ≡ rows'
  pub verdict : (h : Buchi) (rows : List Row) → Readable h → RowsOf h rows → VerdictByCycle h rows
  -- and what the program `sheet` writes for them as its input says so
  pub printed : (h : Buchi) (rows : List Row) → Readable h → RowsOf h rows
      → (v : Verdict) × (program (batch_of rows) ≡ sheet v (run (open_with rows) settle)) × ((v ≡ NonEmpty) ↔ MarkedCycle h)

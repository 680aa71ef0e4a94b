-- The program `sheet` writes what document 01 says, for any input: its print is never refused (`program_shows`). A batch that is asked for its
-- verdict gets that of the rounds (`verdict_given`), and one that is asked for its expression the bytes that tell its walk (`expression_given`).
use Prim.Native.Nat.{ℕ, zero, suc, ◌≤◌, ◌<◌}
use mathlib.Core.Path.{◌≡◌, refl, ap, sym, ◌∙◌, subst}
use mathlib.Core.Bool.{Bool, true, false}
use mathlib.Core.Logic.{⊎_elim}
use mathlib.Core.List.Memᴰ
use mathlib.Core.List.{List, []}
use lib.Dec.{ltb}
use lib.ListN.{length, replicate}
use native.Mathlib.Omega.{arith}
use Rattle.lists.specs.Tests.{Decides, ◌among◌}
use Rattle.lists.proofs.Deciding.{yes_decides, no_decides, ltb_decides}
use Rattle.rows.specs.declared.Row.{Row}
use Rattle.rows.specs.Rows.{Bytes}
use Rattle.machine.specs.declared.Verdict.{Verdict}
use Rattle.machine.specs.declared.Verdict.TheVariants.{NonEmpty, Empty}
use Rattle.machine.specs.declared.Phase.TheVariants.{Settled}
use Rattle.machine.specs.Machine.{Machine, open_with, fresh}
use Rattle.machine.specs.Text.{text}
use Rattle.machine.specs.Sheet.{line, sheet}
use Rattle.machine.specs.Calls.{Call, load, round, verdict, print, expression, Outcome, done, wrote, decided, refused, Next, call, run, settle, second, Brings}
use Rattle.machine.specs.Program.{shown, going_on, after_load, outcome, batch_verdict, batch_expression, program, VerdictGiven, not_loaded, settles_so, ExpressionGiven, load_stops, no_word, tells_so, does_not_fit, ProgramWrites, too_long, refusal, sheet_of}
use Rattle.machine.specs.Causes.{Writes}
use Rattle.machine.specs.WellFormed.{Table, WellFormed}
use Rattle.machine.specs.Statements.{Expresses}
use Rattle.machine.proofs.Settling.{Settles, settles}
use Rattle.machine.proofs.Tables.{no_rows}
use Rattle.machine.proofs.Outcomes.{Done, load_done, Comes, comes}
use Rattle.machine.proofs.History.{opened_formed, run_formed, call_formed, settle_runs}
use Rattle.machine.proofs.Statements.{second_settles, sheet_fits, print_accepts}
use Rattle.machine.proofs.Rising.{verdict_of_rounds}
use Rattle.machine.proofs.Expressing.{expressed}

rounds_bring : (n : ℕ) (c : Call) → c among replicate n round → Brings c
rounds_bring zero c m = absurd (Memᴰ.not-nil m)
rounds_bring (suc n) c m = ⊎_elim (λ e. subst Brings (sym e) tt) (rounds_bring n c) (Memᴰ.cases_cons m)

settle_brings : (c : Call) → c among settle → Brings c
settle_brings c m = ⊎_elim (λ e. subst Brings (sym e) tt) (rounds_bring 129 c) (Memᴰ.cases_cons m)

-- a table of rows, closed and settled, is what calls make
pub settled_formed : (rows : List Row) → Table rows → WellFormed (run (open_with rows) settle)
settled_formed rows t = run_formed (open_with rows) settle settle_brings (opened_formed rows t)

-- it has a sheet that fits
module _ (rows : List Row) (t : Table rows) where
  abbrev s : Settles rows
  s = settles rows

  m : Machine
  m = run (open_with rows) settle

  phase : m.phase ≡ Settled s.verdict
  unfolding m
  phase = ap (λ (x : Machine). x.phase) (settle_runs rows t) ∙ s.phase

  formed : WellFormed m
  unfolding m
  formed = settled_formed rows t

  is_second : second rows ≡ m
  unfolding m
  is_second = second_settles rows t

  -- a buffer of 6,400 bytes or more is long enough
  prints_sheet : (size : ℕ) → 6400 ≤ size → (call (run (open_with rows) settle) (print size)).answer ≡ wrote (sheet s.verdict (second rows))
  unfolding m
  prints_sheet size h = print_accepts m formed size s.verdict phase (omega (arith, sheet_fits m formed s.verdict phase)) ∙ ap (λ x. wrote (sheet s.verdict x)) (sym is_second)

  settled_second : (second rows).phase ≡ Settled s.verdict
  settled_second = ap (λ (x : Machine). x.phase) is_second ∙ phase

  -- it is asked for its expression as the second machine is, of which all is said
  asked_second : (size : ℕ) → (call (run (open_with rows) settle) (expression size)).answer ≡ (call (second rows) (expression size)).answer
  unfolding m
  asked_second size = ap (λ (x : Machine). (call x (expression size)).answer) (sym is_second)

  second_expresses : (size : ℕ) → Expresses (second rows) size
  second_expresses size = expressed (second rows) (subst WellFormed (sym is_second) formed) size

-- an accepted load leaves an open machine with its rows
loaded_is : {l : List ℕ} {m : Machine} → Done fresh (load l) m → m ≡ open_with m.rows
loaded_is (load_done l rows e f) = refl

settled_sheet : (m : Machine) (t : Table m.rows) → m ≡ open_with m.rows → (size : ℕ) → 6400 ≤ size
    → (call (run m settle) (print size)).answer ≡ wrote (sheet (s m.rows t).verdict (second m.rows))
settled_sheet m t e size h = ap (λ x. (call (run x settle) (print size)).answer) e ∙ prints_sheet m.rows t size h

-- a load writes nothing, and gives no verdict
load_writes : {l k : List ℕ} {size : ℕ} → Writes fresh (load l) k size → ⊥
load_writes = elim [ ]

load_decides : {l : List ℕ} → load l ≡ verdict → ⊥
load_decides e = let z : ◌≡◌ {A = ℕ} 0 1 = cc in omega arith

-- what a settled machine prints
abbrev pub printed : ℕ → Machine → Outcome
printed size m = (call (run m settle) (print size)).answer

module _ (l : List ℕ) (b : Bytes l) where
  on_answer : (m : Machine) (a : Outcome) → length l ≤ 65536 → call fresh (load l) ≡ record { machine = m; answer = a } → Comes fresh (load l) m a → WellFormed m → ProgramWrites l (shown (going_on (printed 6400) m a))
  on_answer m done h e d w =
      subst (λ x. ProgramWrites l (shown x)) (sym (settled_sheet m w.table (loaded_is d) 6400 (omega arith))) (sheet_of m (s m.rows w.table).verdict h e (settled_second m.rows w.table))
  on_answer m (wrote k) h e d w = absurd (load_writes d.2)
  on_answer m (decided v) h e d w = absurd (load_decides d.1)
  on_answer m (refused n place) h e d w = refusal n place h (d.1 no_rows b)

  same_ending : (m : Machine) (a : Outcome) (size : ℕ) → 6400 ≤ size → Comes fresh (load l) m a → WellFormed m → going_on (printed size) m a ≡ going_on (printed 6400) m a
  same_ending m done size h d w = settled_sheet m w.table (loaded_is d) size h ∙ sym (settled_sheet m w.table (loaded_is d) 6400 (omega arith))
  same_ending m (wrote k) size h d w = refl
  same_ending m (decided v) size h d w = refl
  same_ending m (refused n place) size h d w = refl

  n : Next
  n = call fresh (load l)

  came : Comes fresh (load l) n.machine n.answer
  unfolding n
  came = comes fresh (load l) n.answer refl

  formed_then : WellFormed n.machine
  unfolding n
  formed_then = call_formed fresh (load l) b (opened_formed [] no_rows)

  on_verdict : (m : Machine) (a : Outcome) → call fresh (load l) ≡ record { machine = m; answer = a } → Comes fresh (load l) m a → WellFormed m → VerdictGiven l (going_on (λ x. (call x verdict).answer) m a)
  on_verdict m done e d w = let r = verdict_of_rounds m w in let v = r.answers in
      subst (VerdictGiven l) (sym v.1) (settles_so m v.0 e ((r.by_rounds v.0).0 v.1))
  on_verdict m (wrote k) e d w = absurd (load_writes d.2)
  on_verdict m (decided v) e d w = absurd (load_decides d.1)
  on_verdict m (refused n place) e d w = not_loaded n place (d.1 no_rows b)

  -- what an accepted load leads to, by the verdict and by the length of the bytes that tell the walk
  module _ (m : Machine) (t : Table m.rows) (e : call fresh (load l) ≡ record { machine = m; answer = done }) (size : ℕ) where
    abbrev x : Expresses (second m.rows) size
    x = second_expresses m.rows t size

    by_verdict : (v : Verdict) → (second m.rows).phase ≡ Settled v → ExpressionGiven l size (call (second m.rows) (expression size)).answer
    by_verdict Empty p = subst (ExpressionGiven l size) (sym (x.when_empty p)) (no_word m e p)
    by_verdict NonEmpty p = let b = x.some_bytes p in by (ltb size (length b.0)) (ltb_decides size (length b.0))
      where
        by : (y : Bool) → Decides y (size < length (x.some_bytes p).0) → ExpressionGiven l size (call (second m.rows) (expression size)).answer
        by true d = let b = x.some_bytes p in subst (ExpressionGiven l size) (sym (x.too_short p b.0 b.1 (yes_decides d))) (does_not_fit m b.0 e p b.1 (yes_decides d))
        by false d = let b = x.some_bytes p in let n = no_decides d in let h : length b.0 ≤ size = omega arith in
            subst (ExpressionGiven l size) (sym ((x.accepted b.0).1 (p, b.1, h))) (tells_so m b.0 e p b.1 h)

  -- what a settled machine is asked for here
  abbrev expressed_in : ℕ → Machine → Outcome
  expressed_in size m = (call (run m settle) (expression size)).answer

  on_expression : (m : Machine) (a : Outcome) (size : ℕ) → call fresh (load l) ≡ record { machine = m; answer = a } → Comes fresh (load l) m a → WellFormed m → ExpressionGiven l size (going_on (expressed_in size) m a)
  on_expression m done size e d w =
      subst (ExpressionGiven l size) (sym (ap (expressed_in size) (loaded_is d) ∙ asked_second m.rows w.table size))
      (by_verdict m w.table e size (s m.rows w.table).verdict (settled_second m.rows w.table))
  on_expression m (wrote k) size e d w = absurd (load_writes d.2)
  on_expression m (decided v) size e d w = absurd (load_decides d.1)
  on_expression m (refused n place) size e d w = load_stops n place (d.1 no_rows b)

  -- a longer buffer changes nothing
  pub outcome_size : (size : ℕ) → 6400 ≤ size → outcome l size ≡ outcome l 6400
  unfolding after_load n
  outcome_size size h = same_ending n.machine n.answer size h came formed_then

  pub verdict_given : VerdictGiven l (batch_verdict l)
  unfolding after_load n
  verdict_given = on_verdict n.machine n.answer refl came formed_then

  pub expression_given : (size : ℕ) → ExpressionGiven l size (batch_expression l size)
  unfolding after_load n
  expression_given size = on_expression n.machine n.answer size refl came formed_then

  pub program_shows : ProgramWrites l (program l)
  unfolding program after_load n
  program_shows = by (ltb 65536 (length l)) (ltb_decides 65536 (length l))
    where
      by : (x : Bool) → Decides x (65536 < length l) → ProgramWrites l (elim x [ true ↦ line (text "too long") | false ↦ shown (going_on (printed 6400) n.machine n.answer) ])
      by true d = too_long (yes_decides d)
      by false d = let h = no_decides d in on_answer n.machine n.answer (omega arith) refl came formed_then

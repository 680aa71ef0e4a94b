-- Request C-21 at the file of an automaton that is converted, loaded, closed and settled (`settles_file`; `file_refused` where it is not converted).
use Prim.Native.Nat.{ℕ, zero, suc, ◌≤◌}
use mathlib.Core.Path.{◌≡◌, ap, sym, ◌∙◌, subst}
use mathlib.Core.Bool.{Bool, true, false, cond}
use mathlib.Core.Logic.{⊎_elim}
use mathlib.Core.List.Memᴰ
use mathlib.Core.List.{List, [], ◌∷◌}
use lib.Dec.{ltb}
use lib.ListN.{length, take, replicate, length-take}
use native.Mathlib.Omega.{arith}
use Rattle.rows.specs.declared.Row.{Row}
use Rattle.rows.specs.Rows.{batch_of, Bytes}
use Rattle.rows.proofs.Batch.{batch_bytes}
use Rattle.machine.specs.Calls.{Answer}
use Rattle.std.specs.Prelude.{Ok}
use Rattle.machine.specs.declared.Success.TheVariants.{Wrote}
use Rattle.machine.specs.declared.Phase.TheVariants.{Settled}
use Rattle.machine.specs.Machine.{Machine, open_with}
use Rattle.machine.specs.Calls.{load, close, round, wrote, refused, Next, run, second}
use Rattle.machine.specs.Program.{shown}
use Rattle.machine.specs.Marks.{fresh_marked, on, marked_run, MarkedBrings}
use Rattle.machine.specs.Statements.{AllBring, after_calls, Number}
use Rattle.machine.proofs.Answers.{text_by}
use Rattle.machine.proofs.Outcomes.{rounds_no_batch, rows_kept}
use Rattle.machine.proofs.Statements.{every_print}
use Rattle.hoa_files.specs.Automata.{Buchi, Readable}
use Rattle.hoa_files.specs.Files.{IsFileOf, FileCause}
use Rattle.hoa_files.specs.Tables.{RowsOf}
use Rattle.hoa_files.specs.Promise.{HasTable, Converts}
use Rattle.hoa_files.proofs.Fresh.{rows_table, loads}
use Rattle.hoa_files.proofs.IntoMasks.{some_rows}
use Rattle.hoa_files.proofs.Verdicts.{by_number}
use Rattle.session.specs.declared.Session.{Session}
use Rattle.session.proofs.Whole.{phase_of}
use Rattle.callers.specs.Handed.{RoundsAfter, worked, FileWorked, SettlesFile}
use Rattle.callers.proofs.Handed.{handed_is, on_rounds}

rounds_bring : (k : ℕ) → AllBring (replicate k (on round))
rounds_bring zero c i = absurd (Memᴰ.not-nil i)
rounds_bring (suc k) c i = ⊎_elim (λ e. subst MarkedBrings (sym e) tt) (rounds_bring k c) (Memᴰ.cases_cons i)

-- load, close and rounds bring bytes
work_brings : (batch : List ℕ) (k : ℕ) → Bytes batch → AllBring (worked batch k)
work_brings batch k b c i = ⊎_elim (λ e. subst MarkedBrings (sym e) b) (λ j. ⊎_elim (λ e. subst MarkedBrings (sym e) tt) (rounds_bring k c) (Memᴰ.cases_cons j)) (Memᴰ.cases_cons i)

module _ (h : Buchi) (rows : List Row) (ok : Readable h) (of : RowsOf h rows) where
  -- after load, close and rounds the rows stand
  rows_stand : (k : ℕ) → (after_calls (worked (batch_of rows) k)).rows ≡ rows
  rows_stand k = ap (λ (m : Machine). m.rows) (on_rounds fresh_marked (load (batch_of rows) ∷ close ∷ []) k ∙ ap (λ (n : Next). run n.machine (close ∷ replicate k round)) (loads h ok rows of))
      ∙ rows_kept (open_with rows) (close ∷ replicate k round) (tt, rounds_no_batch k)

  -- and the session is settled by the graph of the automaton
  file_worked : (s : Session) → RoundsAfter (on (load (batch_of rows)) ∷ on close ∷ []) s → FileWorked h (batch_of rows) s
  file_worked s x =
      let cs = worked (batch_of rows) x.count in
      let m = after_calls cs in
      let phase : s.phase ≡ Settled x.verdict = phase_of (marked_run fresh_marked cs) s (handed_is cs s x.handed) ∙ x.settled in
      let n = (every_print cs (work_brings (batch_of rows) x.count (batch_bytes rows (rows_table h ok rows of).fit)) 0).numbered x.verdict x.settled in
      let by = by_number h ok rows of x.verdict _ (subst (λ (l : List Row). Number l x.verdict (second m.rows).rounds) (rows_stand x.count) n.1) in
      record {
        count = x.count;
        few = x.few;
        handed = x.handed;
        settles_with = x.verdict;
        settled = phase;
        non_empty = ((λ e. by.0 (sym phase ∙ e)), λ c. phase ∙ by.1 c);
      }

-- a text that fits is the one that is written
wrote_is : (b : Bool) (l m : List ℕ) → cond b (refused 12 0) (wrote l) ≡ wrote m → m ≡ l
wrote_is true l m e = let z : ◌≡◌ {A = ℕ} 0 1 = cc in absurd (omega arith)
wrote_is false l m e = sym (ap shown e)

-- what was written are the rows of the automaton
pub settles_file : (file old new : List ℕ) (r : Answer) (n : ℕ) (s : Session) → Converts file old new r → r ≡ Ok (Wrote n) → RoundsAfter (on (load (take n new)) ∷ on close ∷ []) s
    → SettlesFile file old new (record { converted = r; session = s })
settles_file file old new r n s c w x = record { converts = c; worked_so = by }
  where
    by : (h : Buchi) (k : ℕ) → IsFileOf file h → r ≡ Ok (Wrote k) → FileWorked h (take k new) s
    by h k i e =
        let t = some_rows h i.0 in
        let b = text_by (c.accepted t.0 (record { automaton = h; file_is = i; rows_are = t.1 })) n w in
        let same : n ≡ k = cc in
        let is : take n new ≡ batch_of t.0 = b.3 ∙ wrote_is (ltb (length old) (length (batch_of t.0))) (batch_of t.0) b.0 b.1 in
        subst (λ j. FileWorked h (take j new) s) same
        (subst (λ (l : List ℕ). FileWorked h l s) (sym is) (file_worked h t.0 i.0 t.1 s (subst (λ (l : List ℕ). RoundsAfter (on (load l) ∷ on close ∷ []) s) is x)))

-- the bytes that were written are within the buffer
pub converted_fits : (file old new : List ℕ) (r : Answer) → Converts file old new r → (n : ℕ) → r ≡ Ok (Wrote n) → n ≤ length new
converted_fits file old new r c n w = ⊎_elim
    (λ (t : (rows : List Row) × HasTable file rows). let b = text_by (c.accepted t.0 t.1) n w in omega (arith, b.2, ap (length {A = ℕ}) b.3, length-take n new))
    (λ (t : (k : ℕ) × ((place : ℕ) × FileCause file k place)). let b = text_by (c.refuses t.0 t.1.0 t.1.1) n w in let e = b.1 in let z : ◌≡◌ {A = ℕ} 0 1 = cc in absurd (omega arith))
    c.some_outcome

-- nothing was written
pub file_refused : (file old new : List ℕ) (r : Answer) (s : Session) → Converts file old new r → ((n : ℕ) → r ≡ Ok (Wrote n) → ⊥) → SettlesFile file old new (record { converted = r; session = s })
file_refused file old new r s c no_text = record { converts = c; worked_so = λ h n i w. absurd (no_text n w) }

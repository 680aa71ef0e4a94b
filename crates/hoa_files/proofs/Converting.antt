-- What reading and writing tell of a file is the promise of the call (`converts_read`, `converts_refused`).
use Prim.Native.Nat.{ℕ}
use mathlib.Core.Path.{◌≡◌, refl, sym, ◌∙◌, subst}
use mathlib.Core.Logic.{inl, inr}
use mathlib.Core.List.{List}
use Rattle.rows.specs.declared.Row.{Row}
use Rattle.rows.specs.Rows.{batch_of}
use Rattle.std.specs.Prelude.{Ok, Err}
use Rattle.causes.specs.Numbers.{number_of}
use Rattle.machine.specs.declared.Refusal.{Refusal}
use Rattle.machine.specs.Calls.{refused, Answer, due, TellsText}
use Rattle.buchi_rows.specs.declared.BuchiMasks.{BuchiMasks}
use Rattle.hoa_files.specs.Automata.{Buchi}
use Rattle.hoa_files.specs.Files.{IsFileOf}
use Rattle.hoa_files.specs.Tables.{RowsOf}
use Rattle.hoa_files.specs.Reading.{TellsFile}
use Rattle.hoa_files.specs.Promise.{HasTable, Converts}
use Rattle.hoa_files.proofs.Causes.{file_has_no_cause, cause_once}
use Rattle.hoa_files.proofs.Telling.{one_buchi}
use Rattle.hoa_files.proofs.FromMasks.{masked_table, rows_of}
use Rattle.hoa_files.proofs.Fresh.{one_table}

-- bytes are the file of one automaton
one_file : (l : List ℕ) (h h' : Buchi) → IsFileOf l h → IsFileOf l h' → h ≡ h'
one_file l h h' i j = one_buchi h h' (sym i.1 ∙ j.1)

-- and have the rows of one table
pub has_one_table : (l : List ℕ) (rows rows' : List Row) → HasTable l rows → HasTable l rows' → rows ≡ rows'
has_one_table l rows rows' t u =
    one_table u.automaton rows rows' u.file_is.0 (subst (λ (h : Buchi). RowsOf h rows) (one_file l t.automaton u.automaton t.file_is u.file_is) t.rows_are) u.rows_are

pub converts_read : (l old new : List ℕ) (a : BuchiMasks) (r : Answer) → TellsFile l (Ok a) → TellsText (batch_of (rows_of a)) old new r → Converts l old new r
converts_read l old new a r (h, i, p) w = record {
  some_outcome = inl (rows_of a, t);
  accepted = λ rows u. subst (λ (k : List Row). TellsText (batch_of k) old new r) (has_one_table l (rows_of a) rows t u) w;
  refuses = λ n place c. absurd (file_has_no_cause l h n place i c);
}
  where
    t : HasTable l (rows_of a)
    t = record { automaton = h; file_is = i; rows_are = masked_table h a i.0 p }

pub converts_refused : (l old : List ℕ) (r : Refusal) → TellsFile l (Err r) → Converts l old old (Err r)
converts_refused l old r c = record {
  some_outcome = inr (number_of r.cause, (r.place, c));
  accepted = λ rows u. absurd (file_has_no_cause l u.automaton (number_of r.cause) r.place u.file_is c);
  refuses = λ n place d. let e = cause_once l (number_of r.cause) n r.place place c d in record { answer_is = λ x. due (refused (e.0 x) (e.1 x)); buffer_is = refl };
}

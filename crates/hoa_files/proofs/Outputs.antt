-- What the program writes for its input: one text (`writes_once`), which is short (`batch_short`), and what it shows by the answer of the call
-- (`shows_wrote`, `shows_refused`).
use Prim.Native.Nat.{ℕ, ◌≤◌}
use mathlib.Core.Path.{◌≡◌, refl, ap, sym, ◌∙◌, subst}
use mathlib.Core.Logic.{◌⊎◌, inl, inr}
use mathlib.Core.List.{List, ◌++◌}
use lib.ListN.{length, drop, length-append}
use native.Mathlib.Omega.{arith}
use borrow.Author.Tests.{le-ltb}
use Rattle.lists.specs.Tests.{gather}
use Rattle.lists.specs.Writing.{Wrote}
use Rattle.rows.specs.declared.Row.{Row}
use Rattle.rows.specs.Rows.{batch_of}
use Rattle.machine.specs.declared.Verdict.{Verdict}
use Rattle.std.specs.Prelude.{Ok, Err}
use Rattle.causes.specs.Numbers.{number_of}
use Rattle.machine.specs.declared.Success.{Success}
use Rattle.machine.specs.declared.Success.TheVariants.{Done, Wrote as WroteCount, Decided}
use Rattle.machine.specs.declared.Refusal.{Refusal}
use Rattle.machine.specs.Sheet.{line}
use Rattle.machine.specs.Program.{refusal_line}
use Rattle.machine.specs.Calls.{Outcome, wrote, refused, Answer, returned, due, Tells, TellsText}
use Rattle.machine.proofs.Answers.{done_by, wrote_by, decided_by, refused_by, answer_by}
use Rattle.hoa_files.specs.Automata.{Buchi, Readable}
use Rattle.hoa_files.specs.Files.{FileCause, other_form, number_outside}
use Rattle.hoa_files.specs.Tables.{RowsOf}
use Rattle.hoa_files.specs.Promise.{HasTable, Converts, HoaWrites, too_long, refusal, batch, WritesShown}
use Rattle.hoa_files.proofs.Causes.{file_has_no_cause, cause_once}
use Rattle.buchi_rows.proofs.Kept.{masked_short}
use Rattle.hoa_files.proofs.FromMasks.{masked_table, rows_of}
use Rattle.hoa_files.proofs.IntoMasks.{some_masks}
use Rattle.hoa_files.proofs.Fresh.{one_table}
use Rattle.hoa_files.proofs.Converting.{has_one_table}

-- ---- one text

cause_or_table : (l : List ℕ) (n place : ℕ) (rows : List Row) → FileCause l n place → ¬ HasTable l rows
cause_or_table l n place rows c t = file_has_no_cause l t.automaton n place t.file_is c

pub writes_once : (l t u : List ℕ) → HoaWrites l t → HoaWrites l u → t ≡ u
writes_once l t u (too_long g) (too_long g') = refl
writes_once l t u (too_long g) (refusal n place g' c) = absurd (omega arith)
writes_once l t u (too_long g) (batch rows g' i) = absurd (omega arith)
writes_once l t u (refusal n place g c) (too_long g') = absurd (omega arith)
writes_once l t u (refusal n place g c) (refusal n' place' g' c') = let e = cause_once l n n' place place' c c' in λ x. refusal_line (e.0 x) (e.1 x)
writes_once l t u (refusal n place g c) (batch rows g' i) = absurd (cause_or_table l n place rows c i)
writes_once l t u (batch rows g i) (too_long g') = absurd (omega arith)
writes_once l t u (batch rows g i) (refusal n place g' c) = absurd (cause_or_table l n place rows c i)
writes_once l t u (batch rows g i) (batch rows' g' i') = ap batch_of (has_one_table l rows rows' i i')

-- ---- a batch is short

-- the rows of a readable automaton have few bytes
pub batch_short : (h : Buchi) (rows : List Row) → Readable h → RowsOf h rows → length (batch_of rows) ≤ 778
batch_short h rows ok of = let p = some_masks h ok in let a = p.0 in
    let e : rows_of a ≡ rows = one_table h _ rows ok (masked_table h a ok p.1) of in
    subst (λ (l : List Row). length (batch_of l) ≤ 778) e (masked_short a.states a.start a.marked a.edges a.at_most_six)

-- ---- by the answer

-- a buffer with room holds the batch, and a refusal leaves it
pub data ConvertAnswers (l old new : List ℕ) (r : Answer) : Type 0 where
  with_table : (rows : List Row) → HasTable l rows → r ≡ Ok (WroteCount (length (batch_of rows))) → new ≡ batch_of rows ++ drop (length (batch_of rows)) old → ConvertAnswers l old new r
  with_cause : (n place : ℕ) → FileCause l n place → returned r ≡ due (refused n place) → new ≡ old → ConvertAnswers l old new r

pub call_answers : (l old new : List ℕ) (r : Answer) → 778 ≤ length old → Converts l old new r → ConvertAnswers l old new r
call_answers l old new r h c = by c.some_outcome
  where
    fits : (rows : List Row) → HasTable l rows → TellsText (batch_of rows) old new r → Tells (wrote (batch_of rows)) old new r
    fits rows i t = let k : length (batch_of rows) ≤ length old = omega (arith, batch_short i.automaton rows i.file_is.0 i.rows_are) in rw (le-ltb (length old) (length (batch_of rows)) k) at t

    by : ((rows : List Row) × HasTable l rows) ⊎ ((n : ℕ) × ((place : ℕ) × FileCause l n place)) → ConvertAnswers l old new r
    by (inl (rows, i)) = let t = fits rows i (c.accepted rows i) in with_table rows i (answer_by t) t.buffer_is
    by (inr (n, (place, i))) = let t = c.refuses n place i in with_cause n place i t.answer_is t.buffer_is

-- a refusal is one of no success
refused_once : {n place : ℕ} (s : Success) → returned (Ok s) ≡ due (refused n place) → ⊥
refused_once {n} {place} s e = by (refused n place) s (sym e) refl
  where
    by : (o : Outcome) (s : Success) → due o ≡ returned (Ok s) → o ≡ refused n place → ⊥
    by o Done e i = let d = done_by o e in absurd (cc (d, i))
    by o (WroteCount k) e i = let d = wrote_by o k e in absurd (cc (d.1, i))
    by o (Decided v) e i = let d = decided_by o v e in absurd (cc (d, i))

pub never_done : {l old new : List ℕ} {r : Answer} → ConvertAnswers l old new r → ¬ (r ≡ Ok Done)
never_done (with_table rows i e b) d = let z : ◌≡◌ {A = ℕ} 0 1 = cc in omega arith
never_done (with_cause n place i e b) d = refused_once Done (rw d at e)

pub never_decided : {l old new : List ℕ} {r : Answer} (v : Verdict) → ConvertAnswers l old new r → ¬ (r ≡ Ok (Decided v))
never_decided v (with_table rows i e b) d = let z : ◌≡◌ {A = ℕ} 0 1 = cc in omega arith
never_decided v (with_cause n place i e b) d = refused_once (Decided v) (rw d at e)

pub shows_wrote : {l old new : List ℕ} {r : Answer} (n : ℕ) → length l ≤ 65536 → ConvertAnswers l old new r → r ≡ Ok (WroteCount n) → WritesShown l old new n
shows_wrote n g (with_table rows i e b) d = let k : n ≡ length (batch_of rows) = cc in (batch_of rows, batch rows g i, record { length_is = k; bytes_are = b })
shows_wrote n g (with_cause m place i e b) d = absurd (refused_once (WroteCount n) (rw d at e))

-- the place of a cause is within the file
pub cause_within : {l : List ℕ} {n place : ℕ} → FileCause l n place → place ≤ length l
cause_within {l} (other_form before rest e w f g) = omega (arith, ap length e, length-append (gather line before) rest)
cause_within {l} (number_outside before next more e w f g) = omega (arith, ap length e, length-append (gather line before) (line next ++ more))

-- a refusal keeps the buffer
pub refused_keeps : {l old new : List ℕ} {r : Answer} (s : Refusal) → ConvertAnswers l old new r → r ≡ Err s → FileCause l (number_of s.cause) s.place × (new ≡ old)
refused_keeps s (with_table rows i e b) d = let z : ◌≡◌ {A = ℕ} 0 1 = cc in absurd (omega arith)
refused_keeps {l} s (with_cause m at i e b) d =
    let q = refused_by (refused m at) s (sym e ∙ ap returned d) in
    let n : m ≡ number_of s.cause = cc in
    let p : at ≡ s.place = cc in
    (rw (← n, ← p) i, b)

pub shows_refused : {l old mid new : List ℕ} {r : Answer} (s : Refusal) (count : ℕ) → length l ≤ 65536 → ConvertAnswers l old mid r → r ≡ Err s
    → Wrote (refusal_line (number_of s.cause) s.place) mid new count → WritesShown l old new count
shows_refused {l} {old} {mid} {new} s count g c d w = let k = refused_keeps s c d in let n = number_of s.cause in
    (refusal_line n s.place, refusal n s.place g k.0, subst (λ (x : List ℕ). Wrote (refusal_line n s.place) x new count) k.1 w)

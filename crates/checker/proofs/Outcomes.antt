-- What a fresh machine comes to after one batch, by the answer of its load.
use Prim.Native.Nat.{ℕ, ◌<◌, ◌≤◌}
use mathlib.Core.Path.{◌≡◌, refl, ap, sym, ◌∙◌, subst}
use mathlib.Core.Bool.{Bool, true, false}
use mathlib.Core.List.{List, [], ◌++◌}
use lib.ListN.{length, drop}
use native.Mathlib.Omega.{arith}
use Rattle.lists.specs.Writing.{Wrote}
use Rattle.lists.proofs.Deciding.{not_so, ltb_decides}
use Rattle.rows.specs.declared.Row.{Row}
use Rattle.rows.specs.Rows.{Bytes}
use Rattle.rows.specs.Batch.{Fed, fed, failed, feed}
use Rattle.std.specs.Prelude.{Ok, Err}
use Rattle.causes.specs.Numbers.{number_of}
use Rattle.machine.specs.declared.Refusal.{Refusal}
use Rattle.machine.specs.declared.Success.TheVariants.{Done, Wrote as WroteCount, Decided}
use Rattle.machine.specs.declared.Verdict.{Verdict}
use Rattle.machine.specs.Machine.{Machine, open_with, fresh, load_row}
use Rattle.machine.specs.Calls.{Answer, Outcome, done, wrote, decided, refused, Next, with_rows, buffer_after, Tells}
use Rattle.machine.specs.WellFormed.{Table}
use Rattle.machine.specs.Text.{text}
use Rattle.machine.specs.Sheet.{line}
use Rattle.machine.specs.Program.{batch_verdict, refusal_line, shown, going_on, after_load, outcome, program}
use Rattle.machine.proofs.Answers.{done_by, wrote_by, decided_by, refused_by, tells_as, tells_refused}
use Rattle.machine.proofs.Outcomes.{deciding}
use Rattle.machine.proofs.Phases.{load_feeds}
use Rattle.machine.proofs.Program.{outcome_size}
use Rattle.row_table.specs.Arrays.{Comes}
use Rattle.checker.specs.declared.Asked.TheVariants.{Verdict as AskedVerdict}
use Rattle.checker.specs.Promise.{asking, Checks}

-- ---- the answer of the load

-- what a load comes to, and what the machine then answers
module _ (then : Machine → Outcome) (l : List ℕ) {A : Type 0} (Has : A → List Row → Type 0) where
  fed_after : (x : Fed (List Row)) → feed load_row [] l ≡ x → after_load then l ≡ going_on then (with_rows fresh x).machine (with_rows fresh x).answer
  unfolding after_load
  fed_after x f = ap (λ (y : Next). going_on then y.machine y.answer) ((load_feeds l).in_open fresh ∙ ap (with_rows fresh) f)

  pub load_refused : {e : Refusal} (old : List ℕ) → Comes Has (feed load_row [] l) (Err e) → Tells (after_load then l) old old (Err e)
  load_refused {e} old = go (feed load_row [] l) refl
    where
      go : (x : Fed (List Row)) → feed load_row [] l ≡ x → Comes Has x (Err e) → Tells (after_load then l) old old (Err e)
      go (fed rows) f h = absurd h
      go (failed n place) f h = tells_as (sym (fed_after (failed n place) f)) (rw (← h.0, ← h.1) (tells_refused e.cause e.place old))

  pub load_done : {a : A} {old new : List ℕ} {r : Answer} → Comes Has (feed load_row [] l) (Ok a)
      → ((rows : List Row) → Table rows → Has a rows → Tells (then (open_with rows)) old new r) → Tells (after_load then l) old new r
  load_done {a} {old} {new} {r} comes ends = go (feed load_row [] l) refl comes
    where
      go : (x : Fed (List Row)) → feed load_row [] l ≡ x → Comes Has x (Ok a) → Tells (after_load then l) old new r
      go (fed rows) f h = tells_as (sym (fed_after (fed rows) f)) (ends rows h.0 h.1)
      go (failed n place) f h = absurd h

-- a batch that is asked for its verdict writes nothing
verdict_keeps : (l old : List ℕ) → buffer_after (batch_verdict l) old ≡ old
unfolding after_load
verdict_keeps l old = ap (λ (y : Next). buffer_after (going_on (asking AskedVerdict 0) y.machine y.answer) old) ((load_feeds l).in_open fresh) ∙ go (feed load_row [] l)
  where
    go : (x : Fed (List Row)) → buffer_after (going_on (asking AskedVerdict 0) (with_rows fresh x).machine (with_rows fresh x).answer) old ≡ old
    go (fed rows) = ap (λ (y : Next). buffer_after y.answer old) (deciding (open_with rows))
    go (failed n place) = refl

pub verdict_told : (l : List ℕ) {new : List ℕ} {r : Answer} → Tells (after_load (asking AskedVerdict 0) l) [] new r → Tells (batch_verdict l) [] [] r
verdict_told l t = record { answer_is = t.answer_is; buffer_is = sym (verdict_keeps l []) }

-- ---- what the program writes

-- what the program writes is in the buffer
abbrev Shows : List ℕ → List ℕ → List ℕ → ℕ → Type 0
Shows input old new r = Wrote (program input) old new r

shows_by : (input old new : List ℕ) (r : ℕ) (t : List ℕ) → program input ≡ t → Wrote t old new r → Shows input old new r
shows_by input old new r t e w = subst (λ x. Wrote x old new r) (sym e) w

-- input longer than a batch may be
pub shows_long : (input old new : List ℕ) (r : ℕ) → 65536 < length input → Wrote (line (text "too long")) old new r → Shows input old new r
unfolding program
shows_long input old new r g w = shows_by input old new r (line (text "too long"))
    (ap (λ (b : Bool). elim b [ true ↦ line (text "too long") | false ↦ shown (outcome input 6400) ]) ((ltb_decides 65536 (length input)).of g)) w

program_is : (input : List ℕ) (size : ℕ) → Bytes input → 6400 ≤ size → length input ≤ 65536 → program input ≡ shown (outcome input size)
unfolding program
program_is input size b h g =
    ap (λ (x : Bool). elim x [ true ↦ line (text "too long") | false ↦ shown (outcome input 6400) ]) (not_so (ltb_decides 65536 (length input)) (λ k. absurd (omega arith)))
    ∙ ap shown (sym (outcome_size input b size h))

-- a refusal keeps the buffer
pub kept_buffer : (input old mid : List ℕ) (e : Refusal) → Checks input old mid (Err e) → mid ≡ old
kept_buffer input old mid e c = c.buffer_is ∙ ap (λ (a : Outcome). buffer_after a old) (refused_by (outcome input (length old)) e (sym c.answer_is))

-- a batch whose answer is known
module _ (input old : List ℕ) (b : Bytes input) (h : 6400 ≤ length old) (g : length input ≤ 65536) where
  shows_told : (a : Outcome) (new : List ℕ) (r : ℕ) → outcome input (length old) ≡ a → Wrote (shown a) old new r → Shows input old new r
  shows_told a new r e w = shows_by input old new r (shown a) (program_is input (length old) b h g ∙ ap shown e) w

  -- the check wrote what is shown
  shows_written : (a : Outcome) (new : List ℕ) (r : ℕ) {b : Answer} → Checks input old new b → outcome input (length old) ≡ a → r ≡ length (shown a)
      → buffer_after a old ≡ shown a ++ drop (length (shown a)) old → Shows input old new r
  shows_written a new r c e i j = shows_told a new r e (record { length_is = i; bytes_are = c.buffer_is ∙ ap (λ (a : Outcome). buffer_after a old) e ∙ j })

  pub shows_done : (new : List ℕ) → Checks input old new (Ok Done) → Shows input old new 0
  shows_done new c = shows_written done new 0 c (done_by (outcome input (length old)) (sym c.answer_is)) refl refl

  pub shows_wrote : (n : ℕ) (new : List ℕ) → Checks input old new (Ok (WroteCount n)) → Shows input old new n
  shows_wrote n new c = let e = wrote_by (outcome input (length old)) n (sym c.answer_is) in shows_written (wrote e.0) new n c e.1 e.2 refl

  pub shows_decided : (v : Verdict) (new : List ℕ) → Checks input old new (Ok (Decided v)) → Shows input old new 0
  shows_decided v new c = shows_written (decided v) new 0 c (decided_by (outcome input (length old)) v (sym c.answer_is)) refl refl

  pub shows_refused : (e : Refusal) (mid new : List ℕ) (r : ℕ) → Checks input old mid (Err e) → Wrote (refusal_line (number_of e.cause) e.place) mid new r → Shows input old new r
  shows_refused e mid new r c w =
      shows_told (refused (number_of e.cause) e.place) new r (refused_by (outcome input (length old)) e (sym c.answer_is))
      (subst (λ (l : List ℕ). Wrote (refusal_line (number_of e.cause) e.place) l new r) (kept_buffer input old mid e c) w)

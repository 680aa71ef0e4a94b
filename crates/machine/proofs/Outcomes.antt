-- What each call comes to, in each phase: it is done, it writes, it gives a verdict, or it has a cause that refuses it (`comes`); what
-- writes or is refused keeps the machine (`writes_keep`, `refused_keeps`), and so does a verdict (`deciding`). A call
-- that brings no batch keeps the rows (`rows_kept`).
use Prim.Native.Nat.{ℕ, zero, suc, ◌≤◌, ◌<◌}
use mathlib.Core.Path.{◌≡◌, refl, ap, ◌∙◌, subst, sym}
use mathlib.Core.Bool.{Bool, true, false, cond}
use mathlib.Core.List.{List, [], ◌∷◌}
use lib.Dec.{ltb}
use lib.ListN.{length, replicate}
use native.Mathlib.Omega.{arith}
use Rattle.lists.specs.Tests.{Decides}
use Rattle.lists.proofs.Deciding.{yes_decides, no_decides, not_so, ltb_decides}
use Rattle.rows.specs.declared.Row.{Row}
use Rattle.rows.specs.Batch.{Fed, fed, failed, feed}
use Rattle.rows.proofs.Batch.{feed_fails}
use Rattle.machine.specs.declared.Verdict.TheVariants.{NonEmpty, Empty}
use Rattle.machine.specs.declared.Phase.{Phase}
use Rattle.machine.specs.declared.Phase.TheVariants.{Open, Running, Settled}
use Rattle.machine.specs.Machine.{Machine, load_row, withdraw_row, closed, next_round, reopened}
use Rattle.machine.specs.Calls.{Call, load, withdraw, close, round, reopen, verdict, print, save, expression, Outcome, done, wrote, decided, refused, Next, with_rows, write, saved, verdict_of, decide, call_in, call, run, Brings}
use Rattle.machine.specs.Causes.{NotOpen, running, settled, loading, withdrawing, closing, reopening, rounding, printing, expressing, to_print, to_express, Writes, sheets, saves, expresses, Cause, not_open, load_fails, withdraw_fails, still_open, round_settled, still_running, short_buffer, verdict_empty}
use Rattle.machine.specs.Sheet.{sheet}
use Rattle.machine.specs.Expression.{expression_of}
use Rattle.machine.specs.WellFormed.{Table}
use Rattle.machine.proofs.Failing.{load_fails_iff, withdraw_fails_iff}

-- the machine with other rows
abbrev pub rows_to : Machine → List Row → Machine
rows_to m rows = record { rows = rows; phase = m.phase; openings = m.openings; rounds = m.rounds }

-- the machine after a call that is done, and why it is done
pub data Done (m : Machine) : Call → Machine → Type 0 where
  load_done : (l : List ℕ) (rows : List Row) → m.phase ≡ Open → feed load_row m.rows l ≡ fed rows → Done m (load l) (rows_to m rows)
  withdraw_done : (l : List ℕ) (rows : List Row) → m.phase ≡ Open → feed withdraw_row m.rows l ≡ fed rows → Done m (withdraw l) (rows_to m rows)
  close_done : m.phase ≡ Open → Done m close (closed m)
  round_done : m.phase ≡ Running → Done m round (next_round m)
  reopen_done : NotOpen m.phase → Done m reopen (reopened m)

-- what a call comes to that leaves the machine m' and gives an answer: done, text, a verdict, or a refusal with its cause; only done changes
-- the machine
abbrev pub Comes : Machine → Call → Machine → Outcome → Type 0
Comes m c m' done = Done m c m'
Comes m c m' (wrote l) = (m' ≡ m) × (size : ℕ) × Writes m c l size × (length l ≤ size)
Comes m c m' (decided v) = (m' ≡ m) × (c ≡ verdict) × (v ≡ verdict_of m.rows)
Comes m c m' (refused n place) = (m' ≡ m) × (Table m.rows → Brings c → Cause m c n place)

abbrev To : Machine → Call → Next → Type 0
To m c x = Comes m c x.machine x.answer

module _ (m : Machine) where
  fed_comes : (c : Call) (x : Fed (List Row)) → ((rows : List Row) → x ≡ fed rows → Done m c (rows_to m rows)) → ((n place : ℕ) → x ≡ failed n place → Table m.rows → Brings c → Cause m c n place)
      → To m c (with_rows m x)
  fed_comes c (fed rows) f g = f rows refl
  fed_comes c (failed n place) f g = (refl, g n place refl)

  write_comes : (c : Call) (l : List ℕ) (size : ℕ) → Writes m c l size → To m c (write m size l)
  write_comes c l size w = by (ltb size (length l)) (ltb_decides size (length l))
    where
      by : (b : Bool) → Decides b (size < length l) → To m c (record { machine = m; answer = cond b (refused 12 0) (wrote l) })
      by true d = (refl, λ t b. short_buffer c l size w (yes_decides d))
      by false d = (refl, size, w, let n = no_decides d in omega arith)

  comes_in : (p : Phase) (c : Call) → m.phase ≡ p → To m c (call_in p m c)
  unfolding call_in
  comes_in Open (load l) e = fed_comes (load l) (feed load_row m.rows l) (λ rows i. load_done l rows e i) (λ n place i t b. load_fails l n place e ((load_fails_iff m.rows t l n place).0 ((feed_fails load_row m.rows l n place b).0 i)))
  comes_in Open (withdraw l) e = fed_comes (withdraw l) (feed withdraw_row m.rows l) (λ rows i. withdraw_done l rows e i) (λ n place i t b. withdraw_fails l n place e ((withdraw_fails_iff m.rows t l n place).0 ((feed_fails withdraw_row m.rows l n place b).0 i)))
  comes_in Open close e = close_done e
  comes_in Open round e = (refl, λ t b. still_open round rounding e)
  comes_in Open reopen e = (refl, λ t b. still_open reopen reopening e)
  comes_in Open verdict e = (refl, refl, refl)
  comes_in Open (print size) e = (refl, λ t b. still_open (print size) (printing size) e)
  comes_in Open (save size) e = write_comes (save size) (saved m) size (saves size)
  comes_in Open (expression size) e = (refl, λ t b. still_open (expression size) (expressing size) e)
  comes_in Running (load l) e = (refl, λ t b. not_open (load l) (loading l) (rw e running))
  comes_in Running (withdraw l) e = (refl, λ t b. not_open (withdraw l) (withdrawing l) (rw e running))
  comes_in Running close e = (refl, λ t b. not_open close closing (rw e running))
  comes_in Running round e = round_done e
  comes_in Running reopen e = reopen_done (rw e running)
  comes_in Running verdict e = (refl, refl, refl)
  comes_in Running (print size) e = (refl, λ t b. still_running (print size) (to_print size) e)
  comes_in Running (save size) e = write_comes (save size) (saved m) size (saves size)
  comes_in Running (expression size) e = (refl, λ t b. still_running (expression size) (to_express size) e)
  comes_in (Settled v) (load l) e = (refl, λ t b. not_open (load l) (loading l) (rw e (settled v)))
  comes_in (Settled v) (withdraw l) e = (refl, λ t b. not_open (withdraw l) (withdrawing l) (rw e (settled v)))
  comes_in (Settled v) close e = (refl, λ t b. not_open close closing (rw e (settled v)))
  comes_in (Settled v) round e = (refl, λ t b. round_settled v e)
  comes_in (Settled v) reopen e = reopen_done (rw e (settled v))
  comes_in (Settled v) verdict e = (refl, refl, refl)
  comes_in (Settled v) (print size) e = write_comes (print size) (sheet v m) size (sheets v size e)
  comes_in (Settled v) (save size) e = write_comes (save size) (saved m) size (saves size)
  comes_in (Settled NonEmpty) (expression size) e = write_comes (expression size) (expression_of m) size (expresses size e)
  comes_in (Settled Empty) (expression size) e = (refl, λ t b. verdict_empty size e)

  pub comes : (c : Call) (a : Outcome) → (call m c).answer ≡ a → Comes m c (call m c).machine a
  comes c a e = subst (Comes m c (call m c).machine) e (comes_in m.phase c refl)

  pub writes_keep : (c : Call) (l : List ℕ) → (call m c).answer ≡ wrote l → (call m c).machine ≡ m
  writes_keep c l e = (comes c (wrote l) e).0

  pub refused_keeps : (c : Call) (n place : ℕ) → (call m c).answer ≡ refused n place → (call m c).machine ≡ m
  refused_keeps c n place e = (comes c (refused n place) e).0

  -- what a call that writes comes to
  pub writing : {c : Call} {l : List ℕ} {size : ℕ} → Writes m c l size → call m c ≡ write m size l
  unfolding call_in
  writing (sheets v size e) = ap (λ (p : Phase). call_in p m (print size)) e
  writing (expresses size e) = ap (λ (p : Phase). call_in p m (expression size)) e
  writing (saves size) = by m.phase
    where
      by : (p : Phase) → call_in p m (save size) ≡ write m size (saved m)
      by Open = refl
      by Running = refl
      by (Settled v) = refl

  -- a text that fits is written
  pub fitting : {c : Call} {l : List ℕ} {size : ℕ} → Writes m c l size → length l ≤ size → (call m c).answer ≡ wrote l
  fitting {c} {l} {size} w h = ap (λ (x : Next). x.answer) (writing w) ∙ rw (not_so (ltb_decides size (length l)) (λ i. omega arith))

  -- a verdict, in any phase
  pub deciding : call m verdict ≡ decide m
  unfolding call_in
  deciding = by m.phase
    where
      by : (p : Phase) → call_in p m verdict ≡ decide m
      by Open = refl
      by Running = refl
      by (Settled v) = refl

-- each of some calls is so
abbrev pub EachCall : (Call → Type 0) → List Call → Type 0
EachCall P [] = Unit {0}
EachCall P (c ∷ cs) = P c × EachCall P cs

-- a call whose batch, if it brings one, is so
abbrev pub OfBatch : (List ℕ → Type 0) → (List ℕ → Type 0) → Call → Type 0
OfBatch L W (load l) = L l
OfBatch L W (withdraw l) = W l
OfBatch L W close = Unit {0}
OfBatch L W round = Unit {0}
OfBatch L W reopen = Unit {0}
OfBatch L W verdict = Unit {0}
OfBatch L W (print size) = Unit {0}
OfBatch L W (save size) = Unit {0}
OfBatch L W (expression size) = Unit {0}

-- the rows after a call: those before it, or what a batch makes of them
pub data RowsAfter (m : Machine) : Call → List Row → Type 0 where
  kept_rows : (c : Call) → RowsAfter m c m.rows
  loaded_rows : (l : List ℕ) (rows : List Row) → feed load_row m.rows l ≡ fed rows → RowsAfter m (load l) rows
  withdrawn_rows : (l : List ℕ) (rows : List Row) → feed withdraw_row m.rows l ≡ fed rows → RowsAfter m (withdraw l) rows

pub rows_after : (m : Machine) (c : Call) → RowsAfter m c (call m c).machine.rows
unfolding closed next_round
rows_after m c = by (call m c).answer (call m c).machine (comes m c (call m c).answer refl)
  where
    done_rows : {c : Call} {m' : Machine} → Done m c m' → RowsAfter m c m'.rows
    done_rows (load_done l rows e f) = loaded_rows l rows f
    done_rows (withdraw_done l rows e f) = withdrawn_rows l rows f
    done_rows (close_done e) = kept_rows close
    done_rows (round_done e) = kept_rows round
    done_rows (reopen_done e) = kept_rows reopen

    same : (m' : Machine) → m' ≡ m → RowsAfter m c m'.rows
    same m' e = subst (λ (x : Machine). RowsAfter m c x.rows) (sym e) (kept_rows c)

    by : (a : Outcome) (m' : Machine) → Comes m c m' a → RowsAfter m c m'.rows
    by done m' d = done_rows d
    by (wrote l) m' k = same m' k.0
    by (decided v) m' k = same m' k.0
    by (refused p place) m' k = same m' k.0

-- calls that bring no batch keep the rows
abbrev pub NoBatches : List Call → Type 0
NoBatches cs = EachCall (OfBatch (λ l. ⊥) (λ l. ⊥)) cs

pub rounds_no_batch : (k : ℕ) → NoBatches (replicate k round)
rounds_no_batch zero = tt
rounds_no_batch (suc k) = (tt, rounds_no_batch k)

row_kept : (m : Machine) (c : Call) → OfBatch (λ l. ⊥) (λ l. ⊥) c → (call m c).machine.rows ≡ m.rows
row_kept m c n = by (rows_after m c) n
  where
    by : {c : Call} {rows : List Row} → RowsAfter m c rows → OfBatch (λ l. ⊥) (λ l. ⊥) c → rows ≡ m.rows
    by (kept_rows c) n = refl
    by (loaded_rows l rows f) n = absurd n
    by (withdrawn_rows l rows f) n = absurd n

pub rows_kept : (m : Machine) (cs : List Call) → NoBatches cs → (run m cs).rows ≡ m.rows
rows_kept m [] n = refl
rows_kept m (c ∷ cs) n = rows_kept (call m c).machine cs n.1 ∙ row_kept m c n.0

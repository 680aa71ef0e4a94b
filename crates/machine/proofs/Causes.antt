-- Document 01, "Causes and numbers": a call is refused with a number and at a place exactly where the table has a cause for it
-- (`refusals`); each number is that of a cause (`numbered`), and none is 13 (`no_13`).
use Prim.Native.Nat.{ℕ}
use mathlib.Core.Path.{◌≡◌, refl, ap, ◌∙◌}
use mathlib.Core.Logic.{◌⊎◌, inl, inr, ◌↔◌, ◌≢◌}
use mathlib.Core.List.{List, ◌++◌}
use lib.ListN.{length}
use native.Mathlib.Omega.{arith}
use Rattle.lists.proofs.Deciding.{so, ltb_decides}
use Rattle.rows.specs.declared.Row.{Row}
use Rattle.rows.specs.Rows.{row_bytes, Fits}
use Rattle.rows.specs.Reading.{Malformed, unknown_kind, cut_short, high_state, zero_set}
use Rattle.rows.proofs.Batch.{feed_fails}
use Rattle.machine.specs.declared.Verdict.TheVariants.{Empty}
use Rattle.machine.specs.declared.Phase.{Phase}
use Rattle.machine.specs.declared.Phase.TheVariants.{Open, Running, Settled}
use Rattle.machine.specs.Machine.{Machine, load_row, withdraw_row}
use Rattle.machine.specs.Calls.{Call, load, withdraw, round, expression, refused, Next, refuse_at, call_in, call, Brings}
use Rattle.machine.specs.Causes.{full, sets_full, absent, Cause, not_open, load_fails, withdraw_fails, still_open, round_settled, still_running, short_buffer, verdict_empty, LoadStops, WithdrawStops}
use Rattle.machine.specs.WellFormed.{Table}
use Rattle.machine.proofs.Failing.{load_fails_iff, withdraw_fails_iff}
use Rattle.machine.proofs.Phases.{not_open_refuses, open_refuses, settled_refuses, running_refuses, empty_refuses, load_feeds, withdraw_feeds}
use Rattle.machine.proofs.Outcomes.{comes, writing}
use Rattle.machine.proofs.Answers.{Numbered}

module _ (m : Machine) where
  in_phase : (p : Phase) (c : Call) (n place : ℕ) → m.phase ≡ p → call_in p m c ≡ refuse_at m n place → (call m c).answer ≡ refused n place
  in_phase p c n place e h = ap (λ (p : Phase). (call_in p m c).answer) e ∙ ap (λ (x : Next). x.answer) h

  refuses : {c : Call} {n place : ℕ} → Table m.rows → Brings c → Cause m c n place → (call m c).answer ≡ refused n place
  refuses t b (not_open c w p) = ap (λ (x : Next). x.answer) (not_open_refuses w p m)
  refuses t b (load_fails l n place e f) = in_phase Open (load l) n place e ((load_feeds l).in_open m ∙ rw ((feed_fails load_row m.rows l n place b).1 ((load_fails_iff m.rows t l n place).1 f)))
  refuses t b (withdraw_fails l n place e f) = in_phase Open (withdraw l) n place e ((withdraw_feeds l).in_open m ∙ rw ((feed_fails withdraw_row m.rows l n place b).1 ((withdraw_fails_iff m.rows t l n place).1 f)))
  refuses t b (still_open c w e) = in_phase Open c 9 0 e (open_refuses w m)
  refuses t b (round_settled v e) = in_phase (Settled v) round 10 0 e (settled_refuses v m)
  refuses t b (still_running c w e) = in_phase Running c 11 0 e (running_refuses w m)
  refuses t b (short_buffer c l size w h) = ap (λ (x : Next). x.answer) (writing m w) ∙ rw (so (ltb_decides size (length l)) h)
  refuses t b (verdict_empty size e) = in_phase (Settled Empty) (expression size) 17 0 e (empty_refuses size m)

  pub refusals : (c : Call) (n place : ℕ) → Table m.rows → Brings c → ((call m c).answer ≡ refused n place) ↔ Cause m c n place
  refusals c n place t b = ((λ e. (comes m c (refused n place) e).1 t b), refuses t b)

-- the number of a row that fails is that of a cause
row_numbered : {rest : List ℕ} {n : ℕ} (A : Row → ℕ → Type 0) → ((r : Row) → A r n → Numbered n) → Malformed rest n ⊎ ((r : Row) × (tail : List ℕ) × Fits r × (rest ≡ row_bytes r ++ tail) × A r n) → Numbered n
row_numbered A f (inl (unknown_kind k)) = refl
row_numbered A f (inl (cut_short k h)) = refl
row_numbered A f (inl (high_state k i w m h)) = refl
row_numbered A f (inl (zero_set k j w g m h)) = refl
row_numbered A f (inr p) = f p.0 p.4

load_numbered : {rows : List Row} {r : Row} {n : ℕ} → LoadStops rows r n → Numbered n
load_numbered (full i h) = refl
load_numbered (sets_full P i h k j g) = refl

withdraw_numbered : {rows : List Row} {r : Row} {n : ℕ} → WithdrawStops rows r n → Numbered n
withdraw_numbered (absent i) = refl

-- each number of the table is that of a cause
pub numbered : {m : Machine} {c : Call} {n place : ℕ} → Cause m c n place → Numbered n
numbered (not_open k w p) = refl
numbered (load_fails l k at p f) = row_numbered (LoadStops f.now) (λ r. load_numbered) f.cause
numbered (withdraw_fails l k at p f) = row_numbered (WithdrawStops f.now) (λ r. withdraw_numbered) f.cause
numbered (still_open k w p) = refl
numbered (round_settled v p) = refl
numbered (still_running k w p) = refl
numbered (short_buffer k l size w h) = refl
numbered (verdict_empty size p) = refl

-- the table has no number 13
pub no_13 : (m : Machine) (c : Call) (n place : ℕ) → Cause m c n place → n ≢ 13
no_13 m c n place h e = let z : ◌≡◌ {A = ℕ} 24 13 = rw e at (numbered h) in omega arith

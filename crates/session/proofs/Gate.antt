-- The gate at the head of the calls: what a call does by the state of its session, and what it does where it is done or refused.
use Prim.Native.Nat.{ℕ}
use mathlib.Core.Path.{◌≡◌, refl, ap, sym, ◌∙◌, subst}
use mathlib.Core.List.{List}
use native.Mathlib.Omega.{arith}
use lib.ListN.{length}
use Rattle.std.specs.Prelude.{Result, Ok, Err}
use Rattle.causes.specs.declared.Cause.{Cause}
use Rattle.causes.specs.declared.Cause.TheVariants.{ForeignRecord}
use Rattle.causes.specs.Numbers.{number_of}
use Rattle.machine.specs.declared.Success.TheVariants.{Done}
use Rattle.machine.specs.declared.Verdict.{Verdict}
use Rattle.machine.specs.declared.Phase.{Phase}
use Rattle.machine.specs.declared.Phase.TheVariants.{Running, Settled}
use Rattle.machine.specs.Machine.{Machine}
use Rattle.machine.specs.Marks.{Marked, MarkedCall, on, marked_call}
use Rattle.machine.specs.Calls.{Call, Next, accept, refuse, refuse_at, call_in, call, Tells}
use Rattle.machine.specs.Causes.{NotOpen, running, settled}
use Rattle.machine.proofs.Answers.{refusal, tells_as, tells_refused}
use Rattle.machine.proofs.Ending.{rounds_done}
use Rattle.session.specs.declared.Session.{Session}
use Rattle.session.specs.declared.Reply.{Reply}
use Rattle.session.specs.Record.{record_of, Represents}
use Rattle.session.specs.Promise.{Does, Keeps, Ranged, IsForeign, Promised, HasPhase}
use Rattle.session.specs.Standing.{reply, with_now}
use Rattle.session.proofs.Whole.{count_of, set_count_of, phase_of, rounds_count, mark_count_of}

-- ---- what is done for one machine

-- the machine is in the record's phase
pub in_phase : (x : Marked) (s : Session) → Represents x s → {p : Phase} → s.phase ≡ p → x.now.phase ≡ p
in_phase x s k e = sym (phase_of x s k) ∙ e

module _ (x : Marked) (c : Call) {old new : List ℕ} {r : Reply} where
  pub does_as : (n : Next) → call x.now c ≡ n → r.session ≡ record_of (with_now x n.machine) → Tells n.answer old new r.answer → Does x (on c) old new r
  unfolding marked_call
  does_as n e f t = record { session_is = f ∙ ap (λ (y : Next). record_of (with_now x y.machine)) (sym e); tells = tells_as (ap (λ (y : Next). y.answer) (sym e)) t }

module _ (x : Marked) (c : Call) (old : List ℕ) {r : Reply} where
  pub does_done : {to : Machine} {t : Session} → call x.now c ≡ accept to → t ≡ record_of (with_now x to) → r ≡ reply t (Ok Done) → Does x (on c) old old r
  does_done {to} e f g = does_as x c (accept to) e (ap (λ (y : Reply). y.session) g ∙ f) (rw g (record { answer_is = refl; buffer_is = refl }))

  pub does_refused : {s : Session} {cause : Cause} {place : ℕ} → Represents x s → call x.now c ≡ refuse_at x.now (number_of cause) place → r ≡ reply s (Err (refusal cause place))
      → Does x (on c) old old r
  does_refused {s} {cause} {place} p e g = does_as x c (refuse_at x.now (number_of cause) place) e (ap (λ (y : Reply). y.session) g ∙ p.whole) (rw g (tells_refused cause place old))

-- ---- what a record is

-- the counts of a machine's record are within the arrays, and it has done no more rounds than calls lead to
pub ranged : (x : Marked) (s : Session) → Represents x s → Ranged s
ranged x s p = let w = p.formed.now_formed in record {
  few = omega (arith, count_of x s p, w.table.few);
  few_sets = omega (arith, set_count_of x s p, w.table.few_sets);
  few_rounds = rw (rounds_count x s p, phase_of x s p) (rounds_done x.now w);
  few_marks = omega (arith, mark_count_of x s p, p.formed.few);
}

-- a foreign record is that of no machine
pub foreign_none : (x : Marked) (s : Session) → Represents x s → ¬ IsForeign s
foreign_none x s p f = f (ranged x s p)

-- in the phase that was found
pub known : (s : Session) {q p : Phase} → HasPhase s (Ok q) → q ≡ p → HasPhase s (Ok p)
known s h e = subst (λ (p : Phase). HasPhase s (Ok p)) e h

-- settled, with the verdict that was found
pub settled_as : (s : Session) (v : Verdict) {w : Verdict} → HasPhase s (Ok (Settled v)) → v ≡ w → HasPhase s (Ok (Settled w))
settled_as s v h e = known s h (ap Settled e)

-- running or settled
pub closed_running : (s : Session) {q : Phase} → HasPhase s (Ok q) → q ≡ Running → Ranged s × NotOpen s.phase
closed_running s h e = (h.0, subst NotOpen (sym (h.1 ∙ e)) running)

pub closed_settled : (s : Session) {q : Phase} {v : Verdict} → HasPhase s (Ok q) → q ≡ Settled v → Ranged s × NotOpen s.phase
closed_settled s {v = v} h e = (h.0, subst NotOpen (sym (h.1 ∙ e)) (settled v))

-- in any phase
pub in_any_phase : (s : Session) (x : Result Phase Cause) {p : Phase} → HasPhase s x → x ≡ Ok p → Ranged s
in_any_phase s x {p} h e = (subst (HasPhase s) e h).0

-- ---- what is promised

module _ {s : Session} {c : MarkedCall} {old new : List ℕ} {r : Reply} where
  pub promised : Ranged s → length new ≡ length old → Keeps s c old new r → Promised s c old new r
  promised g l k = record { keeps = k; foreign = λ f. absurd (f g); free = l }

module _ (s : Session) {c : Call} {old : List ℕ} {r : Reply} where
  -- refused in a phase
  refuses : {p : Phase} {cause : Cause} → Ranged s × (s.phase ≡ p) → ((m : Machine) → call_in p m c ≡ refuse m (number_of cause)) → r ≡ reply s (Err (refusal cause 0))
      → Promised s (on c) old old r
  refuses h f g = promised h.0 refl (λ x k. does_refused x c old k (ap (λ (y : Phase). call_in y x.now c) (in_phase x s k h.1) ∙ f x.now) g)

  -- done in a phase
  pub done_in : {p : Phase} {t : Session} (to : Machine → Machine) → Ranged s × (s.phase ≡ p) → ((m : Machine) → call_in p m c ≡ accept (to m))
      → ((x : Marked) → Represents x s → t ≡ record_of (with_now x (to x.now))) → r ≡ reply t (Ok Done) → Promised s (on c) old old r
  done_in to h f t g = promised h.0 refl
      (λ x k. does_done x c old (ap (λ (y : Phase). call_in y x.now c) (in_phase x s k h.1) ∙ f x.now) (t x k) g)

-- foreign, and refused
pub away : (s : Session) {c : MarkedCall} {old : List ℕ} {r : Reply} {cause : Cause} → HasPhase s (Err cause) → r ≡ reply s (Err (refusal cause 0)) → Promised s c old old r
away s {old = old} h g = let made = g ∙ ap (λ (k : Cause). reply s (Err (refusal k 0))) h.1 in record {
  keeps = λ y p. absurd (foreign_none y s p h.0);
  foreign = λ i. record { session_is = ap (λ (y : Reply). y.session) g; tells = rw made (tells_refused ForeignRecord 0 old) };
  free = refl;
}

-- refused, in the phase that was found
pub refused_in : (s : Session) {c : Call} {old : List ℕ} {r : Reply} {q p : Phase} {cause : Cause} → HasPhase s (Ok q) → q ≡ p
    → r ≡ reply s (Err (refusal cause 0)) → ((m : Machine) → call_in p m c ≡ refuse m (number_of cause)) → Promised s (on c) old old r
refused_in s h e g f = refuses s (known s h e) f g

-- what a call's arms ask; what the machine refuses there is listed beside it
pub ruleset gate = (known, away, refused_in)

-- Each call in each phase, as equations.
use Prim.Native.Nat.{ℕ}
use mathlib.Core.Path.{◌≡◌, refl}
use mathlib.Core.List.{List}
use Rattle.rows.specs.declared.Row.{Row}
use Rattle.rows.specs.Batch.{Turn, feed}
use Rattle.machine.specs.declared.Verdict.{Verdict}
use Rattle.machine.specs.declared.Verdict.TheVariants.{Empty}
use Rattle.machine.specs.declared.Phase.{Phase}
use Rattle.machine.specs.declared.Phase.TheVariants.{Open, Running, Settled}
use Rattle.machine.specs.Machine.{Machine, load_row, withdraw_row, closed, next_round, reopened}
use Rattle.machine.specs.Calls.{Call, load, withdraw, close, round, reopen, expression, accept, refuse, with_rows, call_in}
use Rattle.machine.specs.Causes.{NotOpen, running, settled, NeedsOpen, loading, withdrawing, closing, NeedsClosed, reopening, rounding, printing, expressing, NeedsSettled, to_print, to_express}

-- ---- refusals

-- load, withdraw and close of a machine that is not open
pub not_open_refuses : {c : Call} → NeedsOpen c → {p : Phase} → NotOpen p → (m : Machine) → call_in p m c ≡ refuse m 1
unfolding call_in
not_open_refuses (loading l) running m = refl
not_open_refuses (withdrawing l) running m = refl
not_open_refuses closing running m = refl
not_open_refuses (loading l) (settled v) m = refl
not_open_refuses (withdrawing l) (settled v) m = refl
not_open_refuses closing (settled v) m = refl

-- reopen, round, print and expression of an open one
pub open_refuses : {c : Call} → NeedsClosed c → (m : Machine) → call_in Open m c ≡ refuse m 9
unfolding call_in
open_refuses reopening m = refl
open_refuses rounding m = refl
open_refuses (printing size) m = refl
open_refuses (expressing size) m = refl

-- round of a settled one
pub settled_refuses : (v : Verdict) (m : Machine) → call_in (Settled v) m round ≡ refuse m 10
unfolding call_in
settled_refuses v m = refl

-- print and expression of a running one
pub running_refuses : {c : Call} → NeedsSettled c → (m : Machine) → call_in Running m c ≡ refuse m 11
unfolding call_in
running_refuses (to_print size) m = refl
running_refuses (to_express size) m = refl

-- expression of one settled as empty
pub empty_refuses : (size : ℕ) (m : Machine) → call_in (Settled Empty) m (expression size) ≡ refuse m 17
unfolding call_in
empty_refuses size m = refl

-- ---- what is done

-- the rule of a call that feeds a batch to an open machine
pub record Feeds (c : Call) (rule : Row → List Row → Turn (List Row)) (batch : List ℕ) : Type 0 where
  pub in_open : (m : Machine) → call_in Open m c ≡ with_rows m (feed rule m.rows batch)

pub load_feeds : (batch : List ℕ) → Feeds (load batch) load_row batch
unfolding call_in
load_feeds batch = record { in_open = λ m. refl }

pub withdraw_feeds : (batch : List ℕ) → Feeds (withdraw batch) withdraw_row batch
unfolding call_in
withdraw_feeds batch = record { in_open = λ m. refl }

pub open_closes : (m : Machine) → call_in Open m close ≡ accept (closed m)
unfolding call_in
open_closes m = refl

pub running_rounds : (m : Machine) → call_in Running m round ≡ accept (next_round m)
unfolding call_in
running_rounds m = refl

pub not_open_reopens : {p : Phase} → NotOpen p → (m : Machine) → call_in p m reopen ≡ accept (reopened m)
unfolding call_in
not_open_reopens running m = refl
not_open_reopens (settled v) m = refl

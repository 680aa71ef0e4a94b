-- Load and withdraw on the record: what their arrays come to is what the machine comes to.
use Prim.Native.Nat.{ℕ}
use mathlib.Core.Path.{◌≡◌, refl, ap, ◌∙◌}
use mathlib.Core.List.{List, []}
use Rattle.std.specs.Prelude.{Result, Ok, Err}
use Rattle.rows.specs.declared.Row.{Row}
use Rattle.rows.specs.Batch.{Turn, Fed, fed, failed, feed}
use Rattle.machine.specs.declared.Refusal.{Refusal}
use Rattle.machine.specs.declared.Success.TheVariants.{Done}
use Rattle.machine.specs.declared.Phase.{Phase}
use Rattle.machine.specs.declared.Phase.TheVariants.{Open}
use Rattle.machine.specs.Marks.{Marked, on}
use Rattle.machine.specs.Calls.{Call, load, withdraw, with_rows, call_in, call}
use Rattle.machine.specs.Machine.{load_row, withdraw_row}
use Rattle.machine.specs.WellFormed.{Table}
use Rattle.machine.proofs.Phases.{Feeds, load_feeds, withdraw_feeds}
use Rattle.row_table.specs.declared.RowKeys.{RowKeys}
use Rattle.row_table.specs.declared.RowSets.{RowSets}
use Rattle.row_table.specs.Arrays.{Keyed, SetsIn, Filed, Comes}
use Rattle.row_table.specs.Promise.{LoadsRows, WithdrawsRows}
use Rattle.session.specs.declared.Session.{Session}
use Rattle.session.specs.declared.Reply.{Reply}
use Rattle.session.specs.Record.{Represents}
use Rattle.session.specs.Promise.{Does, Promised, HasPhase}
use Rattle.session.specs.Standing.{standing, reply, with_table, HoldsTable}
use Rattle.session.proofs.Whole.{keyed_of, sets_in_of, rows_table}
use Rattle.session.proofs.Gate.{in_phase, does_done, does_refused, promised}

-- what a batch comes to in the arrays, it comes to in the machine
module _ {c : Call} {rule : Row → List Row → Turn (List Row)} {batch : List ℕ} (feeds : Feeds c rule batch) (s : Session) (opened : HasPhase s (Ok Open))
    (Has : List Row → Type 0) where
  fed_call : (x : Marked) → Represents x s → (y : Fed (List Row)) → feed rule x.now.rows batch ≡ y → call x.now c ≡ with_rows x.now y
  fed_call x p y f = ap (λ (p : Phase). call_in p x.now c) (in_phase x s p opened.1) ∙ feeds.in_open x.now ∙ ap (with_rows x.now) f

  done_fed : {r : Reply} {t : Session} → ((x : Marked) → Represents x s → Comes {A = Unit {0}} (λ u. Has) (feed rule x.now.rows batch) (Ok tt))
      → ((rows : List Row) → Table rows → Has rows → t ≡ with_table s rows) → r ≡ reply t (Ok Done) → Promised s (on c) [] [] r
  done_fed {r} {t} comes holds made = promised opened.0 refl (λ x p. by x p (feed rule x.now.rows batch) refl (comes x p))
    where
      by : (x : Marked) → Represents x s → (y : Fed (List Row)) → feed rule x.now.rows batch ≡ y → Comes {A = Unit {0}} (λ u. Has) y (Ok tt) → Does x (on c) [] [] r
      by x p (fed rows) f h = does_done x c [] (fed_call x p (fed rows) f) (holds rows h.0 h.1 ∙ rows_table x s p (in_phase x s p opened.1) rows h.0) made
      by x p (failed n place) f h = absurd h

  refused_fed : {r : Reply} {e : Refusal} → ((x : Marked) → Represents x s → Comes {A = Unit {0}} (λ u. Has) (feed rule x.now.rows batch) (Err e))
      → r ≡ reply s (Err e) → Promised s (on c) [] [] r
  refused_fed {r} {e} comes made = promised opened.0 refl (λ x p. by x p (feed rule x.now.rows batch) refl (comes x p))
    where
      by : (x : Marked) → Represents x s → (y : Fed (List Row)) → feed rule x.now.rows batch ≡ y → Comes {A = Unit {0}} (λ u. Has) y (Err e) → Does x (on c) [] [] r
      by x p (fed rows) f h = absurd h
      by x p (failed n place) f h = does_refused x c [] p (rw (h.0, h.1) (fed_call x p (failed n place) f)) made

module _ (s : Session) (opened : HasPhase s (Ok Open)) (keys : RowKeys) (keyed : Keyed (standing s) keys.keys keys.count) (batch : List ℕ) where
  module _ (sets : RowSets) (same : sets.sets ≡ s.sets) (count : sets.count ≡ s.set_count) (Has : List Row → Type 0) where
    loads : (a : Result (Unit {0}) Refusal) → LoadsRows (Filed keys.keys sets.sets keys.count sets.count) Has batch a → (x : Marked) → Represents x s → Comes (λ u. Has) (feed load_row x.now.rows batch) a
    loads a h x p = h x.now.rows p.formed.now_formed.table (keyed_of x s p keys.keys keys.count keyed, rw (same, count) (sets_in_of x s p))

    pub load_done : LoadsRows (Filed keys.keys sets.sets keys.count sets.count) Has batch (Ok tt) → {r : Reply} {t : Session}
        → ((rows : List Row) → Table rows → Has rows → t ≡ with_table s rows) → r ≡ reply t (Ok Done) → Promised s (on (load batch)) [] [] r
    load_done h = done_fed (load_feeds batch) s opened Has (loads (Ok tt) h)

    pub load_refused : {r : Reply} {e : Refusal} → LoadsRows (Filed keys.keys sets.sets keys.count sets.count) Has batch (Err e) → r ≡ reply s (Err e) → Promised s (on (load batch)) [] [] r
    load_refused {e = e} h = refused_fed (load_feeds batch) s opened Has (loads (Err e) h)

  module _ (keys' : RowKeys) where
    abbrev Has : List Row → Type 0
    Has rows = Keyed rows keys'.keys keys'.count

    withdraws : (a : Result (Unit {0}) Refusal) → WithdrawsRows (λ rows. Keyed rows keys.keys keys.count) Has batch a → (x : Marked) → Represents x s → Comes (λ u. Has) (feed withdraw_row x.now.rows batch) a
    withdraws a h x p = h x.now.rows p.formed.now_formed.table (keyed_of x s p keys.keys keys.count keyed)

    pub withdraw_done : WithdrawsRows (λ rows. Keyed rows keys.keys keys.count) Has batch (Ok tt) → (sets : RowSets) → {r : Reply}
        → ((rows : List Row) → Table rows → Keyed rows keys'.keys keys'.count → SetsIn rows sets.sets sets.count) → {t : Session} → HoldsTable s keys' sets t
        → r ≡ reply t (Ok Done) → Promised s (on (withdraw batch)) [] [] r
    withdraw_done h sets in_sets holds = done_fed (withdraw_feeds batch) s opened Has (withdraws _ h) (λ rows t k. holds rows t (k, in_sets rows t k))

    pub withdraw_refused : {r : Reply} {e : Refusal} → WithdrawsRows (λ rows. Keyed rows keys.keys keys.count) Has batch (Err e) → r ≡ reply s (Err e) → Promised s (on (withdraw batch)) [] [] r
    withdraw_refused h = refused_fed (withdraw_feeds batch) s opened Has (withdraws _ h)

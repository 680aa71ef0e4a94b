-- Marks on the record: what a mark keeps (`contents_of`); the session with its marks alone (`emptied_is`), with the rows that are kept (`reloads_of`), worked on (`works_up_to`,
-- `reworked_open`, `reworked_running`, `reworked_settled`) until it is what was kept (`brought_back`); the two calls (`marks_done`, `returns_done`, and what they refuse).
use Prim.Native.Nat.{ℕ, ◌≤◌, ◌<◌}
use mathlib.Core.Path.{◌≡◌, refl, ap, sym, ◌∙◌, subst}
use mathlib.Core.Logic.{inl, ⊎_elim}
use mathlib.Core.Option.{none}
use mathlib.Core.List.{List, [], ◌∷◌}
use native.Mathlib.Omega.{arith}
use lib.ListN.{replicate}
use Rattle.rows.specs.declared.Row.{Row}
use Rattle.std.specs.Prelude.{Ok, Err, Option, Some, None}
use Rattle.causes.specs.declared.Cause.{Cause}
use Rattle.causes.specs.declared.Cause.TheVariants.{BadName, NoMark, TooManyMarks}
use Rattle.causes.specs.Numbers.{number_of}
use Rattle.machine.specs.declared.Success.TheVariants.{Done}
use Rattle.machine.specs.declared.Verdict.{Verdict}
use Rattle.machine.specs.declared.Phase.{Phase}
use Rattle.machine.specs.declared.Phase.TheVariants.{Open, Running, Settled}
use Rattle.machine.specs.Machine.{Machine, open_with, fresh}
use Rattle.machine.specs.Calls.{close, round, run}
use Rattle.machine.specs.Causes.{NotOpen, running, settled}
use Rattle.machine.specs.WellFormed.{Table, Made, WellFormed}
use Rattle.machine.specs.WellFormed as WellFormed
use Rattle.machine.specs.Marks.{Name, Marked, mark_under, kept_under, MarkedCall, mark, return_to, MarkedNext, accept_marked, refuse_marked, marked_call, BringsName}
use Rattle.machine.proofs.Answers.{refusal, tells_as, tells_refused}
use Rattle.machine.proofs.Tables.{no_rows}
use Rattle.machine.proofs.Outcomes.{rows_kept, rounds_no_batch}
use Rattle.machine.proofs.Settling.{after_after}
use Rattle.machine.proofs.Ending.{rounds_end}
use Rattle.machine.proofs.History.{opened_formed, work_runs}
use Rattle.machine.proofs.Marks.{now_then, back_formed, misnamed_is, mark_is, fifth_is, return_is, unmarked_is}
use Rattle.row_table.specs.declared.RowKeys.{RowKeys}
use Rattle.row_table.specs.declared.RowSets.{RowSets}
use Rattle.row_table.specs.Arrays.{Keyed, SetsIn}
use Rattle.search.specs.Graph.{graph_of}
use Rattle.automaton.specs.declared.Automaton.{Automaton}
use Rattle.rounds.specs.declared.Progress.{Progress}
use Rattle.rounds.specs.Promises.{WorksUpTo}
use Rattle.marks.specs.declared.Kept.{Kept}
use Rattle.marks.specs.declared.Marks.{Marks}
use Rattle.marks.specs.Record.{kept_of}
use Rattle.marks.specs.Promise.{Keeps, HoldsKeys, place_under, StandsFor, PlaceFound, FindsPlace, PutsMark, HoldsKept}
use Rattle.marks.proofs.Placing.{put_count, Place, new_place, mark_place, place_kept}
use Rattle.session.specs.declared.Session.{Session}
use Rattle.session.specs.declared.Reply.{Reply}
use Rattle.session.specs.Record.{record_of, Represents}
use Rattle.session.specs.Promise.{Does, Ranged, Promised, HasPhase}
use Rattle.session.specs.Standing.{standing, reply, with_rounds, Reads, with_now, with_marks, Contents, emptied, HoldsTable, WorkedOn, ReworkedTo, Reloads, BringsBack}
use Rattle.session.proofs.Whole.{phase_of, keyed_of, rounds_count, marks_in, mark_count_of, open_is, rows_table}
use Rattle.session.proofs.Gate.{in_phase, ranged, promised}
use Rattle.session.proofs.Rounded.{given_of, kept_record}

-- ---- what a mark keeps

pub contents_of : (s : Session) (keys : RowKeys) → Keyed (standing s) keys.keys keys.count → (r : Kept) → Keeps keys.keys keys.count s.phase s.rounds r → Contents s r
contents_of s keys keyed r keeps x p =
    keeps x.now p.formed.now_formed.table.fit (keyed_of x s p keys.keys keys.count keyed) (phase_of x s p) (rounds_count x s p)

-- ---- the session with its marks alone

module _ (x : Marked) (s : Session) (p : Represents x s) where
  pub emptied_is : Represents (with_now x fresh) (emptied s)
  unfolding record_of
  emptied_is = record { formed = now_then x p.formed fresh (opened_formed [] no_rows); whole = rw (marks_in x s p) refl }

-- ---- worked on

pub works_up_to : (s : Session) (a : Automaton) → Reads s a → (k : ℕ) (now : Progress) → WorksUpTo (graph_of a.graph) a.initials a.finals s.set_count k now
    → {r : Reply} → r ≡ reply (with_rounds s now) (Ok Done) → WorkedOn s k r
works_up_to s a reads k now w made x p =
    let rows = x.now.rows in
    made ∙ ap (λ (t : Session). reply t (Ok Done))
    (kept_record x s p (run (open_with rows) (close ∷ replicate k round)) now (rows_kept (open_with rows) (close ∷ replicate k round) (tt, rounds_no_batch k)) (w rows (given_of x s p a reads)))

-- an open machine is its rows
pub reworked_open : (s : Session) → HasPhase s (Ok Open) → {phase : Phase} (k : ℕ) → phase ≡ Open → ReworkedTo s phase k (reply s (Ok Done))
reworked_open s h k e x p m w same i j =
    let now : x.now ≡ m = open_is x s p (in_phase x s p h.1) ∙ ap open_with same ∙ sym (subst (Made m) (i ∙ e) w.made) in
    ap (λ (t : Session). reply t (Ok Done)) (p.whole ∙ ap (λ (y : Machine). record_of (with_now x y)) now)

-- another is what its rows come to after its rounds
reworked_on : (s : Session) {phase : Phase} → NotOpen phase → (k : ℕ) {r : Reply} → WorkedOn s k r → ReworkedTo s phase k r
reworked_on s n k worked x p m w same i j = worked x p ∙ ap (λ (y : Machine). reply (record_of (with_now x y)) (Ok Done)) (by n i)
  where
    again : WellFormed.Worked m → run (open_with x.now.rows) (close ∷ replicate k round) ≡ m
    again h =
        let count : h.0 ≡ k = sym (ap (λ (y : Machine). y.rounds) h.1 ∙ (after_after m.rows h.0).count) ∙ j in
        rw (same, ← count) (work_runs m.rows h.0 h.0 (omega arith) h.2 (inl refl) ∙ sym h.1)

    by : {phase : Phase} → NotOpen phase → m.phase ≡ phase → run (open_with x.now.rows) (close ∷ replicate k round) ≡ m
    by running e = again (subst (Made m) e w.made)
    by (settled v) e = again (subst (Made m) e w.made)

pub reworked_running : (s : Session) {phase : Phase} (k : ℕ) {r : Reply} → phase ≡ Running → WorkedOn s k r → ReworkedTo s phase k r
reworked_running s k e = reworked_on s (subst NotOpen (sym e) running) k

pub reworked_settled : (s : Session) {phase : Phase} {v : Verdict} (k : ℕ) {r : Reply} → phase ≡ Settled v → WorkedOn s k r → ReworkedTo s phase k r
reworked_settled s {v = v} k e = reworked_on s (subst NotOpen (sym e) (settled v)) k

-- ---- brought back

-- the rows of the keys that are kept
pub reloads_of : (s : Session) (kept : Kept) (keys : RowKeys) → HoldsKeys kept keys → (sets : RowSets)
    → ((rows : List Row) → Table rows → Keyed rows keys.keys keys.count → SetsIn rows sets.sets sets.count) → (e : Session) → e ≡ emptied s
    → (r : Session) → HoldsTable e keys sets r → Reloads s kept r
reloads_of s kept keys held sets in_sets e j r holds x p m w k =
    let rows = m.rows in
    let keyed = held m k in
    record {
      formed = now_then x p.formed (open_with rows) (opened_formed rows w.table);
      whole = (rw j at holds) rows w.table (keyed, in_sets rows w.table keyed) ∙ rows_table (with_now x fresh) (emptied s) (emptied_is x s p) refl rows w.table;
    }

module _ (s : Session) (kept : Kept) where
  -- what no mark keeps
  pub never_full : 256 < kept.row_count → (r : Reply) → BringsBack s kept r
  unfolding kept_of
  never_full h r x p m w e = absurd (omega (arith, ap (λ (k : Kept). k.row_count) e, w.table.few))

  pub never_many : 129 < kept.rounds → (r : Reply) → BringsBack s kept r
  unfolding kept_of
  never_many h r x p m w e = absurd (omega (arith, ap (λ (k : Kept). k.rounds) e, (rounds_end m w).so_far))

  module _ (loaded : Session) (reloads : Reloads s kept loaded) where
    pub brought_back : {phase : Phase} {k : ℕ} {r : Reply} → phase ≡ kept.phase → k ≡ kept.rounds → ReworkedTo loaded phase k r → BringsBack s kept r
    unfolding kept_of
    brought_back i j h x p m w e = h (with_now x (open_with m.rows)) (reloads x p m w e) m w refl (sym (i ∙ ap (λ (k : Kept). k.phase) e)) (sym (j ∙ ap (λ (k : Kept). k.rounds) e))

    -- they always load
    pub never_foreign : {cause : Cause} → HasPhase loaded (Err cause) → (r : Reply) → BringsBack s kept r
    never_foreign f r x p m w e = absurd (f.0 (ranged (with_now x (open_with m.rows)) loaded (reloads x p m w e)))

    never_closed : {q : Phase} → loaded.phase ≡ q → NotOpen q → (r : Reply) → BringsBack s kept r
    never_closed i n r x p m w e = by n (sym (phase_of (with_now x (open_with m.rows)) loaded (reloads x p m w e)) ∙ i)
      where
        by : {q : Phase} → NotOpen q → Open ≡ q → r ≡ reply (record_of (with_now x m)) (Ok Done)
        by running i = let z : ◌≡◌ {A = ℕ} 0 1 = cc in absurd (omega arith)
        by (settled v) i = let z : ◌≡◌ {A = ℕ} 0 1 = cc in absurd (omega arith)

    pub never_running : HasPhase loaded (Ok Running) → (r : Reply) → BringsBack s kept r
    never_running h r = never_closed h.1 running r

    pub never_settled : {v : Verdict} → HasPhase loaded (Ok (Settled v)) → (r : Reply) → BringsBack s kept r
    never_settled {v} h r = never_closed h.1 (settled v) r

-- ---- the calls

-- the marks of a session are those of its machine
marks_stand : (x : Marked) (s : Session) → Represents x s → StandsFor s.marks x.marks
marks_stand x s p = record { named = p.formed.named; few = p.formed.few; whole = marks_in x s p }

-- a call on the marks that is accepted
does_accept : (x : Marked) {y : Marked} {c : MarkedCall} {r : Reply} → marked_call x c ≡ accept_marked y → r ≡ reply (record_of y) (Ok Done) → Does x c [] [] r
does_accept x is made = record {
  session_is = ap (λ (z : Reply). z.session) made ∙ ap (λ (z : MarkedNext). record_of z.machine) (sym is);
  tells = tells_as (ap (λ (z : MarkedNext). z.answer) (sym is)) (rw made (record { answer_is = refl; buffer_is = refl }));
}

module _ (s : Session) (g : Ranged s) where
  refuses_marked : {c : MarkedCall} {cause : Cause} {r : Reply} → r ≡ reply s (Err (refusal cause 0)) → ((x : Marked) → Represents x s → marked_call x c ≡ refuse_marked x (number_of cause)) → Promised s c [] [] r
  refuses_marked {c} {cause} made is = promised g refl (λ x p. record {
    session_is = ap (λ (y : Reply). y.session) made ∙ p.whole ∙ ap (λ (y : MarkedNext). record_of y.machine) (sym (is x p));
    tells = tells_as (ap (λ (y : MarkedNext). y.answer) (sym (is x p))) (rw made (tells_refused cause 0 []));
  })

  pub misnamed_refused : {c : MarkedCall} {name : List ℕ} {r : Reply} {p : Option ℕ} → FindsPlace s.marks name p → p ≡ None → r ≡ reply s (Err (refusal BadName 0)) → BringsName c name → Promised s c [] [] r
  misnamed_refused {name = name} f e made i = refuses_marked made (λ x p. misnamed_is x name i (rw e at f))

  -- a name has a place
  pub found_at : {name : List ℕ} {at : ℕ} {p : Option ℕ} → FindsPlace s.marks name p → p ≡ Some at → PlaceFound s.marks name at
  found_at f e = rw e at f

  module _ (name : List ℕ) (at : ℕ) (f : PlaceFound s.marks name at) where
    n : Name name
    n = f.is_name

    -- where the mark is, or a new one's
    at_place : (x : Marked) → Represents x s → at ≡ place_under name x.marks
    at_place x p = f.place_is x.marks (marks_stand x s p)

    pub fifth_refused : {r : Reply} → 4 ≤ at → r ≡ reply s (Err (refusal TooManyMarks 0)) → Promised s (mark name) [] [] r
    fifth_refused h made = refuses_marked made (λ x p. fifth_is x name n (λ l. ⊎_elim
        (λ e. omega (arith, e.0, e.1, at_place x p)) (λ e. omega (arith, e.0, e.1, at_place x p, p.formed.few)) (put_count name x.now x.marks)))

    pub marks_done : at < 4 → (kept : Kept) → Contents s kept → (marks : Marks) → PutsMark s.marks at name kept marks → Promised s (mark name) [] [] (reply (record {
      rows = s.rows;
      row_count = s.row_count;
      sets = s.sets;
      set_count = s.set_count;
      loop_rounds = s.loop_rounds;
      mix_rounds = s.mix_rounds;
      phase = s.phase;
      rounds = s.rounds;
      marks = marks;
    }) (Ok Done))
    unfolding record_of
    marks_done h kept k marks put = promised g refl (λ x p. let y : Marked = record { now = x.now; marks = mark_under name x.now x.marks } in
        does_accept x {y = y}
        (mark_is x name n (⊎_elim (λ e. omega (arith, e.0, e.1, at_place x p)) (λ e. omega (arith, e.1, p.formed.few)) (put_count name x.now x.marks)))
        (rw (put x.marks x.now (marks_stand x s p) (at_place x p) (k x p)) (ap (λ (t : Session). reply (with_marks (record_of y) t) (Ok Done)) p.whole)))

    -- the machine that is kept, or none
    kept_at : (x : Marked) → Represents x s → Place name x.marks
    kept_at x p = place_kept name x.marks

    pub unmarked_refused : {r : Reply} → at ≡ s.marks.count → r ≡ reply s (Err (refusal NoMark 0)) → Promised s (return_to name) [] [] r
    unmarked_refused e made = refuses_marked made (λ x p. unmarked_is x name n (by x p (kept_at x p)))
      where
        by : (x : Marked) → Represents x s → Place name x.marks → kept_under name x.marks ≡ none
        by x p (new_place i j) = j
        by x p (mark_place m i j) = absurd (omega (arith, at_place x p, mark_count_of x s p))

    pub returns_done : ¬ (at ≡ s.marks.count) → (kept : Kept) → HoldsKept s.marks at kept → {r : Reply} → BringsBack s kept r → Promised s (return_to name) [] [] r
    returns_done d kept holds {r} back = promised g refl (λ x p. by x p (kept_at x p))
      where
        by : (x : Marked) → Represents x s → Place name x.marks → Does x (return_to name) [] [] r
        by x p (new_place i j) = absurd (d (omega (arith, at_place x p, mark_count_of x s p)))
        by x p (mark_place m i j) = does_accept x (return_is x name n m j)
            (back x p m (back_formed x p.formed name m j) (holds x.marks name m (marks_stand x s p) (at_place x p) j))

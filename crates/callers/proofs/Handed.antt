-- Callers: calls go on a list of calls from a fresh session (`more`, `one_more`), and what holds at every call holds at it (`at_call`). The
-- lists: rounds until settled, and a print (`prints_after`); refusals (`refuses_first`); verdicts (`judges_twice`); save and load (`saves_again`,
-- `saves_short`).
use Prim.Native.Nat.{ℕ, zero, suc, ◌+◌, ◌≤◌, ◌<◌}
use mathlib.Core.Path.{◌≡◌, refl, ap, sym, ◌∙◌, subst}
use mathlib.Core.Bool.{Bool, true, false, cond}
use mathlib.Core.Logic.{◌⊎◌, inl, inr, ⊎_elim}
use mathlib.Core.List.{List, [], ◌∷◌, ◌++◌, map, map-append, append_assoc, append-nil}
use lib.ListN.{length, take, replicate, replicate-append-replicate}
use lib.Dec.{ltb}
use native.Mathlib.Omega.{arith}
use Rattle.lists.specs.Tests.{Decides}
use Rattle.lists.proofs.Deciding.{yes_decides, no_decides, ltb_decides}
use Rattle.rows.specs.declared.Row.{Row}
use Rattle.rows.specs.Batch.{Fed, fed, failed, feed}
use Rattle.orderings.specs.Decide.{accepts?}
use Rattle.orderings.specs.MoreRows.{Grows, StrikesNothing}
use Rattle.machine.specs.Calls.{Answer}
use Rattle.std.specs.Prelude.{Ok, Err}
use Rattle.causes.specs.declared.Cause.TheVariants.{StillOpen, ShortBuffer}
use Rattle.machine.specs.declared.Refusal.{Refusal}
use Rattle.machine.specs.declared.Success.TheVariants as Successes
use Rattle.machine.specs.declared.Success.TheVariants.{Done, Wrote, Decided}
use Rattle.machine.specs.declared.Verdict.{Verdict}
use Rattle.machine.specs.declared.Phase.{Phase}
use Rattle.machine.specs.declared.Phase.TheVariants.{Open, Running, Settled}
use Rattle.machine.specs.Machine.{Machine, fresh, load_row, judged, closed, opened_next, nothing?, next_round, open_claims}
use Rattle.machine.specs.Calls.{Call, load, close, round, reopen, verdict, print, save, done, wrote, refused, returned, Next, with_rows, saved, call_in, call, run, second, Brings, Tells}
use Rattle.machine.specs.Causes.{NotOpen, running, settled, NeedsClosed, rounding, printing, saves, still_open}
use Rattle.machine.specs.Marks.{Marked, fresh_marked, MarkedCall, on, marked_call, marked_run, by_table}
use Rattle.machine.specs.Statements.{after_calls}
use Rattle.machine.proofs.Answers.{done_by, answer_by, answer_due, tells_as}
use Rattle.machine.proofs.Phases.{open_closes, settled_refuses}
use Rattle.machine.proofs.Outcomes.{Done as RoundDone, round_done, comes, writing, deciding, rounds_no_batch, rows_kept}
use Rattle.machine.proofs.Ending.{rounds_done}
use Rattle.machine.proofs.Marks.{run_append, run_on}
use Rattle.machine.proofs.MoreRows.{EachOnlyAdds, run_grows}
use Rattle.session.specs.declared.Session.{Session}
use Rattle.session.specs.declared.Reply.{Reply}
use Rattle.session.specs.Record.{record_of, Represents}
use Rattle.session.specs.Standing.{reply}
use Rattle.session.proofs.Whole.{phase_of}
use Rattle.demands.specs.Trace.{Exchange, Trace, given, Served, onward, plain_after, exchange}
use Rattle.demands.specs.Demands.{EveryCall, Answered, Refuses, PrintsTrue, SavesRows, ExactPrint}
use Rattle.demands.specs.Requests.{OneRound, OneVerdict, Printed, SheetsGrow}
use Rattle.callers.specs.Handed.{HandedBack, FirstCall, RoundsAfter, worked, PrintedAfter, reworked, AddedLate, RefusedFirst, judged_and_worked, VerdictFirst, SavedAgain}
use Rattle.demands.proofs.Reached.{Stands, told, step, fresh_is, reached}
use Rattle.demands.proofs.Demand1.{demand_1}
use Rattle.demands.proofs.Demand2.{demand_2}
use Rattle.demands.proofs.Demand3.{demand_3}
use Rattle.demands.proofs.Requests.{request_14, request_22, request_15}

-- ---- more calls

trace_more : (es ds : List (Exchange MarkedCall Reply)) (s : Session) → Trace onward Served s es → Trace onward Served (given onward s es) ds → Trace onward Served s (es ++ ds)
trace_more [] ds s t k = k
trace_more (e ∷ es) ds s t k = (t.0, trace_more es ds e.reply.session t.1 k)

given_more : (es ds : List (Exchange MarkedCall Reply)) (s : Session) → given onward s (es ++ ds) ≡ given onward (given onward s es) ds
given_more [] ds s = refl
given_more (e ∷ es) ds s = given_more es ds e.reply.session

pub no_calls : HandedBack [] (record_of fresh_marked)
no_calls = record { exchanges = []; asked_are = refl; trace = tt; last = refl }

module _ (cs : List MarkedCall) (s : Session) (h : HandedBack cs s) (ds : List (Exchange MarkedCall Reply)) (k : Trace onward Served s ds) where
  pub longer : Trace onward Served (record_of fresh_marked) (h.exchanges ++ ds)
  longer = trace_more h.exchanges ds (record_of fresh_marked) h.trace (subst (λ (t : Session). Trace onward Served t ds) (sym h.last) k)

  pub more : HandedBack (cs ++ map (λ e. e.asked) ds) (given onward s ds)
  more = record {
    exchanges = h.exchanges ++ ds;
    asked_are = map-append (λ (e : Exchange MarkedCall Reply). e.asked) h.exchanges ds ∙ ap (λ (x : List MarkedCall). x ++ map (λ e. e.asked) ds) h.asked_are;
    trace = longer;
    last = given_more h.exchanges ds (record_of fresh_marked) ∙ ap (λ (t : Session). given onward t ds) h.last;
  }

module _ (cs : List MarkedCall) (s : Session) (h : HandedBack cs s) (e : Exchange MarkedCall Reply) (k : Served s e) where
  pub one_more : HandedBack (cs ++ (e.asked ∷ [])) e.reply.session
  one_more = more cs s h (e ∷ []) (k, tt)

  -- what holds at every call
  pub at_call : (Then : Marked → Session → Exchange MarkedCall Reply → Type 0) → EveryCall Then → Then (marked_run fresh_marked cs) s e
  at_call Then every = let r = every (record_of fresh_marked) refl (h.exchanges ++ (e ∷ [])) (longer cs s h (e ∷ []) (k, tt)) h.exchanges [] e refl in
      subst (λ (x : List MarkedCall). Then (marked_run fresh_marked x) s e) h.asked_are (subst (λ (t : Session). Then (plain_after h.exchanges) t e) h.last r)

-- the session is the record of the machine that was fed the calls
record_after : (es : List (Exchange MarkedCall Reply)) (x : Marked) (s : Session) → Represents x s → Trace onward Served s es → Represents (marked_run x (map (λ d. d.asked) es)) (given onward s es)
record_after [] x s h t = h
record_after (e ∷ es) x s h t = record_after es (marked_call x e.asked).machine e.reply.session (step (record { record_is = h; served = t.0 })) t.1

pub handed_is : (cs : List MarkedCall) (s : Session) → HandedBack cs s → Represents (marked_run fresh_marked cs) s
handed_is cs s h = subst (λ (x : List MarkedCall). Represents (marked_run fresh_marked x) s) h.asked_are
    (subst (λ (t : Session). Represents (plain_after h.exchanges) t) h.last (record_after h.exchanges fresh_marked (record_of fresh_marked) (fresh_is (record_of fresh_marked) refl) h.trace))

-- calls and rounds, none on the marks, are those of the plain machine
map_rounds : (k : ℕ) → map on (replicate k round) ≡ replicate k (on round)
map_rounds zero = refl
map_rounds (suc k) = ap (λ (l : List MarkedCall). on round ∷ l) (map_rounds k)

pub on_rounds : (x : Marked) (cs : List Call) (k : ℕ) → (marked_run x (map on cs ++ replicate k (on round))).now ≡ run x.now (cs ++ replicate k round)
on_rounds x cs k = ap (λ (l : List MarkedCall). (marked_run x l).now) (ap (λ (l : List MarkedCall). map on cs ++ l) (sym (map_rounds k)) ∙ sym (map-append on cs (replicate k round)))
    ∙ ap (λ (y : Marked). y.now) (run_on x (cs ++ replicate k round))

-- ---- what an arm of a caller's `match` knows of an answer

-- an answer that is a success, and which one
pub told_as : {a : Answer} {d e : Successes.the_data} → a ≡ Ok d → d ≡ e → a ≡ Ok e
told_as i j = i ∙ ap Ok j

pub refused_no_success : {a : Answer} {r : Refusal} {d : Successes.the_data} → a ≡ Err r → a ≡ Ok d → ⊥
refused_no_success i j = let z : ◌≡◌ {A = ℕ} 0 1 = cc in absurd (omega arith)

pub wrote_not_done : {a : Answer} {n : ℕ} → a ≡ Ok (Wrote n) → a ≡ Ok Done → ⊥
wrote_not_done i j = let z : ◌≡◌ {A = ℕ} 0 1 = cc in absurd (omega arith)

pub decided_not_done : {a : Answer} {v : Verdict} → a ≡ Ok (Decided v) → a ≡ Ok Done → ⊥
decided_not_done i j = let z : ◌≡◌ {A = ℕ} 0 1 = cc in absurd (omega arith)

pub decided_not_wrote : {a : Answer} {v : Verdict} {n : ℕ} → a ≡ Ok (Decided v) → a ≡ Ok (Wrote n) → ⊥
decided_not_wrote i j = let z : ◌≡◌ {A = ℕ} 0 1 = cc in absurd (omega arith)

-- ---- rounds until one is refused

-- judged, a machine is not open
judged_not_open : (b vain : Bool) → NotOpen (judged b vain)
judged_not_open true vain = settled _
judged_not_open false true = settled _
judged_not_open false false = running

-- calls, and k rounds that were done
pub record Rounding (cs : List MarkedCall) (k : ℕ) (s : Session) : Type 0 where
  pub handed : HandedBack (cs ++ replicate k (on round)) s
  pub not_open : NotOpen (after_calls (cs ++ replicate k (on round))).phase
  pub done : k ≤ (after_calls (cs ++ replicate k (on round))).rounds

-- a round after any calls
pub round_on : (cs : List MarkedCall) (s : Session) → HandedBack cs s → (r : Reply) → Served s (exchange (on round) [] [] r) → OneRound (after_calls cs) s (exchange (on round) [] [] r)
round_on cs s h r k = at_call cs s h (exchange (on round) [] [] r) k (λ x t e. e.asked ≡ on round → OneRound x.now t e) request_14.rounds refl

pub rounding_start : (cs : List MarkedCall) (s : Session) → HandedBack cs s → NotOpen (after_calls cs).phase → Rounding cs 0 s
rounding_start cs s h n = let e : cs ++ [] ≡ cs = append-nil cs in record { handed = rw e h; not_open = rw e n; done = omega arith }

module _ (cs : List MarkedCall) (k : ℕ) (s : Session) (h : Rounding cs k s) where
  abbrev so_far : List MarkedCall
  so_far = cs ++ replicate k (on round)

  abbrev m : Machine
  m = after_calls so_far

  one_round : cs ++ replicate (k + 1) (on round) ≡ so_far ++ (on round ∷ [])
  one_round = ap (λ (x : List MarkedCall). cs ++ x) (sym (replicate-append-replicate k 1 (on round))) ∙ sym (append_assoc cs (replicate k (on round)) (on round ∷ []))

  -- a machine that has done a round
  after_round : {m' : Machine} → RoundDone m round m' → NotOpen m'.phase × (m'.rounds ≡ suc m.rounds)
  unfolding next_round
  after_round (round_done e) = (judged_not_open (accepts? m.rows (open_claims (next_round m))) (nothing? (opened_next m)), refl)

  module _ (r : Reply) (served : Served s (exchange (on round) [] [] r)) where
    abbrev e : Exchange MarkedCall Reply
    e = exchange (on round) [] [] r

    answered : Answered (marked_run fresh_marked so_far) s e
    answered = at_call so_far s h.handed e served Answered demand_1

    handed_on : HandedBack (cs ++ replicate (k + 1) (on round)) r.session
    handed_on = subst (λ (x : List MarkedCall). HandedBack x r.session) (sym one_round) (one_more so_far s h.handed e served)

    fed_on : after_calls (cs ++ replicate (k + 1) (on round)) ≡ (call m round).machine
    unfolding marked_call
    fed_on = ap after_calls one_round ∙ ap (λ (x : Marked). x.now) (run_append fresh_marked so_far (on round ∷ []))

    pub rounding_more : r.answer ≡ Ok Done → Rounding cs (k + 1) r.session
    unfolding marked_call
    rounding_more i = let n = after_round (comes m round done (done_by (call m round).answer (sym answered.result ∙ ap returned i))) in
        record { handed = handed_on; not_open = rw fed_on n.0; done = rw fed_on (omega (arith, n.1, h.done)) }

    -- a round that is not done: the machine was settled
    pub rounding_stop : k < 129 → (r.answer ≡ Ok Done → ⊥) → RoundsAfter cs r.session
    rounding_stop l not_done = by m.phase h.not_open refl
      where
        by : (p : Phase) → NotOpen p → m.phase ≡ p → RoundsAfter cs r.session
        by _ running f = absurd (not_done ((round_on so_far s h.handed r served).accepted.1 f))
        by _ (settled v) f = record {
          count = k + 1;
          few = omega arith;
          handed = handed_on;
          verdict = v;
          settled = ap (λ (x : Machine). x.phase) (fed_on ∙ ap (λ (x : Next). x.machine) (ap (λ (p : Phase). call_in p m round) f ∙ settled_refuses v m)) ∙ f;
        }

  -- no machine runs after 129 rounds
  pub rounding_full : k ≤ 129 → 129 ≤ k → RoundsAfter cs s
  rounding_full few l = by m.phase h.not_open refl
    where
      by : (p : Phase) → NotOpen p → m.phase ≡ p → RoundsAfter cs s
      by _ running f = absurd (omega (arith, h.done, rw f at (rounds_done m (handed_is so_far s h.handed).formed.now_formed)))
      by _ (settled v) f = record { count = k; few = few; handed = h.handed; verdict = v; settled = f }

-- ---- load, close, rounds and print

-- an open machine that was loaded is open, and closed it is not
loaded_open : (m : Machine) → m.phase ≡ Open → (batch : List ℕ) → (call m (load batch)).machine.phase ≡ Open
unfolding call_in
loaded_open m e batch = subst (λ (p : Phase). (call_in p m (load batch)).machine.phase ≡ Open) (sym e) (by (feed load_row m.rows batch))
  where
    by : (x : Fed (List Row)) → (with_rows m x).machine.phase ≡ Open
    by (fed rows) = e
    by (failed n place) = e

close_closes : (m : Machine) → m.phase ≡ Open → NotOpen (call m close).machine.phase
unfolding closed
close_closes m e = subst (λ (x : Next). NotOpen x.machine.phase) (sym (ap (λ (p : Phase). call_in p m close) e ∙ open_closes m)) (judged_not_open (accepts? m.rows []) false)

load_closes : (m : Machine) → m.phase ≡ Open → (batch : List ℕ) → NotOpen (run m (load batch ∷ close ∷ [])).phase
load_closes m e batch = close_closes (call m (load batch)).machine (loaded_open m e batch)

pub closed_not_open : (batch : List ℕ) → NotOpen (after_calls (on (load batch) ∷ on close ∷ [])).phase
unfolding marked_call
closed_not_open batch = load_closes fresh refl batch

pub first_handed : (c : MarkedCall) (old new : List ℕ) (r : Reply) → FirstCall c old new r → HandedBack (c ∷ []) r.session
first_handed c old new r k = one_more [] (record_of fresh_marked) no_calls (exchange c old new r) k

pub prints_after : (batch old new : List ℕ) (t : Session) (r : Reply) → RoundsAfter (on (load batch) ∷ on close ∷ []) t → Served t (exchange (on (print (length old))) old new r)
    → PrintedAfter batch old new r
prints_after batch old new t r w k = let cs = worked batch w.count in let e = exchange (on (print (length old))) old new r in record {
  count = w.count;
  few = w.few;
  handed = one_more cs t w.handed e k;
  verdict = w.verdict;
  settled = w.settled;
  true_sheet = at_call cs t w.handed e k (λ x s e. (size : ℕ) → e.asked ≡ on (print size) → PrintsTrue x.now e.old e.new e.reply.answer) demand_2.prints (length old) refl;
  exact = at_call cs t w.handed e k (λ x s e. (size : ℕ) → e.asked ≡ on (print size) → ExactPrint x.now e.old e.new e.reply.answer) demand_3.prints (length old) refl;
}

-- ---- rows added late

-- after reopen a machine is open
reopened_open : (m : Machine) → (call m reopen).machine.phase ≡ Open
unfolding call_in
reopened_open m = by m.phase refl
  where
    by : (p : Phase) → m.phase ≡ p → (call_in p m reopen).machine.phase ≡ Open
    by Open e = e
    by Running e = refl
    by (Settled v) e = refl

rounds_keep : (k : ℕ) → EachOnlyAdds (replicate k round)
rounds_keep zero = tt
rounds_keep (suc k) = (tt, rounds_keep k)

-- the calls of `add_late` up to its rounds
abbrev late : ℕ → List ℕ → List Call
late size batch = print size ∷ reopen ∷ load batch ∷ close ∷ []

-- what they came to
pub record Reworked (cs : List MarkedCall) (batch old new : List ℕ) (p : Reply) (s : Session) : Type 0 where
  pub before : Session
  pub handed_before : HandedBack cs before
  pub printed : Served before (exchange (on (print (length old))) old new p)
  pub brings : Brings (load batch)
  pub handed : HandedBack (cs ++ map on (late (length old) batch)) s
  pub not_open : NotOpen (after_calls (cs ++ map on (late (length old) batch))).phase

pub reworks : (cs : List MarkedCall) (s : Session) → HandedBack cs s → (batch old new : List ℕ) (p o l c : Reply) → Served s (exchange (on (print (length old))) old new p)
    → Served p.session (exchange (on reopen) [] [] o) → Served o.session (exchange (on (load batch)) [] [] l) → Served l.session (exchange (on close) [] [] c)
    → Reworked cs batch old new p c.session
unfolding marked_call
reworks cs s h batch old new p o l c a b d e =
    record {
      before = s;
      handed_before = h;
      printed = a;
      brings = d.brings;
      handed = more cs s h (exchange (on (print (length old))) old new p ∷ exchange (on reopen) [] [] o ∷ exchange (on (load batch)) [] [] l ∷ exchange (on close) [] [] c ∷ [])
          (a, (b, (d, (e, tt))));
      not_open = let m = (call (after_calls cs) (print (length old))).machine in
          subst (λ (x : Marked). NotOpen x.now.phase) (sym (run_append fresh_marked cs (map on (late (length old) batch)))) (load_closes (call m reopen).machine (reopened_open m) batch);
    }

pub adds_late : (cs : List MarkedCall) (batch old new old' new' : List ℕ) (p r : Reply) (s t : Session) → Reworked cs batch old new p s
    → RoundsAfter (cs ++ map on (late (length old) batch)) t → Served t (exchange (on (print (length old'))) old' new' r)
    → AddedLate cs batch old new old' new' (record { printed = p.answer; again = r })
adds_late cs batch old new old' new' p r s t w x k =
    let ds = reworked (length old) batch x.count in
    let i : (cs ++ map on (late (length old) batch)) ++ replicate x.count (on round) ≡ cs ++ ds = append_assoc cs _ (replicate x.count (on round)) in
    let h : HandedBack (cs ++ ds) t = subst (λ (y : List MarkedCall). HandedBack y t) i x.handed in
    let e = exchange (on (print (length old))) old new p in
    let e' = exchange (on (print (length old'))) old' new' r in
    let after : after_calls (cs ++ ds) ≡ run (after_calls cs) (late (length old) batch ++ replicate x.count round) =
    ap (λ (y : Marked). y.now) (run_append fresh_marked cs ds) ∙ on_rounds (marked_run fresh_marked cs) (late (length old) batch) x.count in
    let up : StrikesNothing batch → Grows (after_calls cs).rows (after_calls (cs ++ ds)).rows = λ none.
    subst (λ (y : Machine). Grows (after_calls cs).rows y.rows) (sym after)
    (run_grows (after_calls cs) (late (length old) batch ++ replicate x.count round) (tt, (tt, ((w.brings, none), (tt, rounds_keep x.count))))) in
    record {
      count = x.count;
      few = x.few;
      handed = subst (λ (y : List MarkedCall). HandedBack y r.session) (append_assoc cs ds (on (print (length old')) ∷ [])) (one_more (cs ++ ds) t h e' k);
      verdict = x.verdict;
      settled = subst (λ (y : List MarkedCall). (after_calls y).phase ≡ Settled x.verdict) i x.settled;
      sheets = λ none n n' a a'.
          at_call (cs ++ ds) t h e' k (λ y' s' f. Grows (after_calls cs).rows y'.now.rows → (l l' : List ℕ) → Printed e l → Printed f l' → SheetsGrow l l')
          (at_call cs w.before w.handed_before e w.printed (λ y s d. EveryCall (λ y' s' f. Grows y.now.rows y'.now.rows → (l l' : List ℕ) → Printed d l → Printed f l' → SheetsGrow l l')) request_15.sheets)
          (up none) (take n new) (take n' new')
          (record { size = length old; asked_is = refl; count = n; answer_is = a; bytes_are = refl })
          (record { size = length old'; asked_is = refl; count = n'; answer_is = a'; bytes_are = refl });
    }

-- ---- refusals

first_answered : (c : MarkedCall) (old new : List ℕ) (r : Reply) → FirstCall c old new r → Answered fresh_marked (record_of fresh_marked) (exchange c old new r)
first_answered c old new r k = at_call [] (record_of fresh_marked) no_calls (exchange c old new r) k Answered demand_1

-- reopen, round and print of a fresh session
first_refused : {c : Call} → NeedsClosed c → (old new : List ℕ) (r : Reply) → FirstCall (on c) old new r → Refuses r.answer StillOpen × (r.session ≡ record_of fresh_marked) × (new ≡ old)
first_refused {c} x old new r k = let a = first_answered (on c) old new r k in let i = (a.refused 9 0).1 (by_table c 9 0 (still_open c x refl)) in
    (answer_due (refused 9 0) r.answer i, (a.unchanged 9 0 i).0, (a.unchanged 9 0 i).1)

same_answered : (c : MarkedCall) (old new : List ℕ) (r : Reply) → FirstCall c old new r → r.session ≡ record_of fresh_marked
    → Answered fresh_marked (record_of fresh_marked) (exchange c old new (reply (record_of fresh_marked) r.answer))
same_answered c old new r k i = subst (λ (s : Session). Answered fresh_marked (record_of fresh_marked) (exchange c old new (reply s r.answer))) i (first_answered c old new r k)

pub refuses_first : (batch old new : List ℕ) (s : Session) (p q l : Reply) → s ≡ record_of fresh_marked → Served s (exchange (on (print (length old))) old new p)
    → Served p.session (exchange (on round) [] [] q) → Served q.session (exchange (on (load batch)) [] [] l)
    → RefusedFirst batch old new (record { printed = p.answer; rounded = q.answer; loaded = l })
refuses_first batch old new s p q l f a b c =
    let d = on (print (length old)) in
    let a' : FirstCall d old new p = subst (λ (t : Session). Served t (exchange d old new p)) f a in
    let i = first_refused (printing (length old)) old new p a' in
    let b' : FirstCall (on round) [] [] q = subst (λ (t : Session). Served t (exchange (on round) [] [] q)) i.1 b in
    let j = first_refused rounding [] [] q b' in
    let c' : FirstCall (on (load batch)) [] [] l = subst (λ (t : Session). Served t (exchange (on (load batch)) [] [] l)) j.1 c in
    record {
      handed = more [] (record_of fresh_marked) no_calls (exchange d old new p ∷ exchange (on round) [] [] q ∷ exchange (on (load batch)) [] [] l ∷ []) (a', (b, (c, tt)));
      printed = i.0;
      unchanged = i.2;
      print_answered = same_answered d old new p a' i.1;
      rounded = j.0;
      round_answered = same_answered (on round) [] [] q b' j.1;
      load_answered = first_answered (on (load batch)) [] [] l c';
    }

-- ---- verdicts

verdict_at : (cs : List MarkedCall) (s : Session) → HandedBack cs s → (r : Reply) → Served s (exchange (on verdict) [] [] r) → OneVerdict (after_calls cs) s (exchange (on verdict) [] [] r)
verdict_at cs s h r k = at_call cs s h (exchange (on verdict) [] [] r) k (λ x t e. e.asked ≡ on verdict → OneVerdict x.now t e) request_22 refl

-- a verdict before the close changes nothing
pub asked_not_open : (batch : List ℕ) → NotOpen (after_calls (on (load batch) ∷ on verdict ∷ on close ∷ [])).phase
unfolding marked_call
asked_not_open batch = subst (λ (x : Next). NotOpen (call x.machine close).machine.phase) (sym (deciding (call fresh (load batch)).machine)) (closed_not_open batch)

module _ (batch : List ℕ) (l v : Reply) (first : FirstCall (on (load batch)) [] [] l) (k : Served l.session (exchange (on verdict) [] [] v)) where
  loads : HandedBack (on (load batch) ∷ []) l.session
  loads = first_handed (on (load batch)) [] [] l first

  pub asked_handed : (c : Reply) → Served v.session (exchange (on close) [] [] c) → HandedBack (on (load batch) ∷ on verdict ∷ on close ∷ []) c.session
  asked_handed c d = more (on (load batch) ∷ []) l.session loads (exchange (on verdict) [] [] v ∷ exchange (on close) [] [] c ∷ []) (k, (d, tt))

  pub judges_twice : (t : Session) (w : Reply) → RoundsAfter (on (load batch) ∷ on verdict ∷ on close ∷ []) t → Served t (exchange (on verdict) [] [] w)
      → VerdictFirst batch (record { first = v.answer; again = w })
  judges_twice t w x d =
      let cs = judged_and_worked batch x.count in
      let a = verdict_at (on (load batch) ∷ []) l.session loads v k in
      let b = verdict_at cs t x.handed w d in
      let phase : t.phase ≡ Settled x.verdict = phase_of (marked_run fresh_marked cs) t (handed_is cs t x.handed) ∙ x.settled in
      let again = b.own x.verdict phase in
      let then = marked_run fresh_marked (on (load batch) ∷ []) in
      let same : (after_calls cs).rows ≡ then.now.rows = ap (λ (m : Machine). m.rows) (on_rounds then (verdict ∷ close ∷ []) x.count)
      ∙ rows_kept then.now (verdict ∷ close ∷ replicate x.count round) (tt, (tt, rounds_no_batch x.count)) in
      record {
        count = x.count;
        few = x.few;
        handed = one_more cs t x.handed (exchange (on verdict) [] [] w) d;
        settles_with = x.verdict;
        settled = ap (λ (s : Session). s.phase) b.kept ∙ phase;
        first = (a.by_rounds x.verdict).1 (subst (λ (rows : List Row). (second rows).phase ≡ Settled x.verdict) same ((b.by_rounds x.verdict).0 again));
        again = again;
      }

-- ---- save and load

module _ (batch old new : List ℕ) (l r : Reply) (first : FirstCall (on (load batch)) [] [] l) (k : Served l.session (exchange (on (save (length old))) old new r)) where
  abbrev then : Machine
  then = after_calls (on (load batch) ∷ [])

  abbrev saving : Exchange MarkedCall Reply
  saving = exchange (on (save (length old))) old new r

  before : HandedBack (on (load batch) ∷ []) l.session
  before = first_handed (on (load batch)) [] [] l first

  tells : Tells (cond (ltb (length old) (length (saved then))) (refused 12 0) (wrote (saved then))) old new r.answer
  tells = tells_as (ap (λ (x : Next). x.answer) (writing then (saves (length old))))
      (told (at_call (on (load batch) ∷ []) l.session before saving k Stands reached) save (λ n. refl) (length old) refl)

  -- the rows fit into the buffer, or it is too short
  fits_or_short : ((length (saved then) ≤ length old) × (r.answer ≡ Ok (Wrote (length (saved then)))))
      ⊎ ((length old < length (saved then)) × Refuses r.answer ShortBuffer × (new ≡ old))
  fits_or_short = by (ltb (length old) (length (saved then))) (ltb_decides (length old) (length (saved then))) tells
    where
      by : (b : Bool) → Decides b (length old < length (saved then)) → Tells (cond b (refused 12 0) (wrote (saved then))) old new r.answer
          → ((length (saved then) ≤ length old) × (r.answer ≡ Ok (Wrote (length (saved then))))) ⊎ ((length old < length (saved then)) × Refuses r.answer ShortBuffer × (new ≡ old))
      by true d t = inr (yes_decides d, answer_by t, t.buffer_is)
      by false d t = let n = no_decides d in inl (omega arith, answer_by t)

  -- the count of bytes is within the buffer
  pub count_fits : (n : ℕ) → r.answer ≡ Ok (Wrote n) → n ≤ length new
  count_fits n i = ⊎_elim
      (λ p. let j = p.1 in let g : n ≡ length (saved then) = cc in
      omega (arith, p.0, (at_call (on (load batch) ∷ []) l.session before saving k Answered demand_1).buffered.1))
      (λ p. let j = p.1 in let z : ◌≡◌ {A = ℕ} 0 1 = cc in absurd (omega arith)) fits_or_short

  pub saves_again : (n : ℕ) → r.answer ≡ Ok (Wrote n) → (t : Reply) → FirstCall (on (load (take n new))) [] [] t → SavedAgain batch old new t
  saves_again n i t f =
      let a = at_call (on (load batch) ∷ []) l.session before saving k (λ x s e. (size : ℕ) → e.asked ≡ on (save size) → SavesRows x.now e.old e.new e.reply.answer) demand_2.saves (length old) refl n i in
      record {
        again = λ h. ⊎_elim
            (λ p. let j = p.1 in let g : n ≡ length (saved then) = cc in let o = a.1 (record_of fresh_marked) t refl f.keeps in
            (subst (λ (x : ℕ). take x new ≡ saved then) g a.0, o.0, o.1))
            (λ p. absurd (omega (arith, p.0))) fits_or_short;
        short = λ h. ⊎_elim (λ p. absurd (omega (arith, p.0))) (λ p. let j = p.1 in let z : ◌≡◌ {A = ℕ} 0 1 = cc in absurd (omega arith)) fits_or_short;
      }

  pub saves_short : ((n : ℕ) → r.answer ≡ Ok (Wrote n) → ⊥) → SavedAgain batch old new r
  saves_short no_text = record {
    again = λ h. ⊎_elim (λ p. absurd (no_text (length (saved then)) p.1)) (λ p. absurd (omega (arith, p.0))) fits_or_short;
    short = λ h. ⊎_elim (λ p. absurd (omega (arith, p.0))) (λ p. (p.1, p.2)) fits_or_short;
  }

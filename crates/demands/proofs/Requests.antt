-- The requests but C-11 and C-12, at one call and at every one: `request_14`, `request_22`, `request_15`.
use Prim.Native.Nat.{ℕ, suc, ◌≤◌}
use mathlib.Core.Path.{◌≡◌, refl, ap, sym, ◌∙◌}
use mathlib.Core.Logic.{◌↔◌}
use mathlib.Core.List.{List}
use lib.ListN.{length}
use native.Mathlib.Omega.{arith}
use Rattle.std.specs.Prelude.{Ok}
use Rattle.machine.specs.declared.Success.TheVariants.{Done, Decided}
use Rattle.machine.specs.declared.Verdict.{Verdict}
use Rattle.machine.specs.declared.Verdict.TheVariants.{NonEmpty}
use Rattle.machine.specs.declared.Phase.{Phase}
use Rattle.machine.specs.declared.Phase.TheVariants.{Running, Settled}
use Rattle.machine.specs.Machine.{Machine, next_round}
use Rattle.machine.specs.Sheet.{sheet}
use Rattle.machine.specs.Calls.{Call, round, verdict, print, Outcome, done, decided, returned, due, Next, accept, call_in, call}
use Rattle.machine.specs.Marks.{Marked, MarkedCall, on, marked_call}
use Rattle.machine.specs.Statements.{said, NeverLess, SheetSays}
use Rattle.machine.proofs.Answers.{done_by, decided_by, answer_of, answer_by, text_by}
use Rattle.machine.proofs.Phases.{running_rounds}
use Rattle.machine.proofs.Outcomes.{comes}
use Rattle.machine.proofs.Rounding.{round_rounded}
use Rattle.machine.proofs.Statements.{second_is, prints}
use Rattle.machine.proofs.Second.{second_works}
use Rattle.machine.proofs.Rising.{verdict_of_rounds}
use Rattle.machine.proofs.Ending.{rounds_from, rounds_end}
use Rattle.machine.proofs.MoreRows.{never_less}
use Rattle.machine.proofs.Says.{sheet_says, says_one}
use Rattle.session.specs.declared.Session.{Session}
use Rattle.session.specs.declared.Reply.{Reply}
use Rattle.session.specs.Record.{record_of, Represents}
use Rattle.session.specs.Standing.{with_now}
use Rattle.session.proofs.Whole.{phase_of, rounds_count}
use Rattle.demands.specs.Trace.{Exchange, plain_after}
use Rattle.demands.specs.Requests.{OneRound, Request14, OneVerdict, Request22, Printed, SheetsGrow, Request15}
use Rattle.demands.proofs.Reached.{Stands, does, told, step, reached}

-- a machine that runs does its round
runs : (m : Machine) → m.phase ≡ Running → call m round ≡ accept (next_round m)
runs m e = ap (λ (p : Phase). call_in p m round) e ∙ running_rounds m

-- the record of a machine has done as many rounds as it, at most 129
most_done : (x : Marked) (s : Session) → Represents x s → s.rounds ≤ 129
most_done x s h = omega (arith, rounds_count x s h, (rounds_end x.now h.formed.now_formed).so_far)

-- at a call on the machine as it is now, the session answers what the machine does
module _ (x : Marked) (s : Session) (e : Exchange MarkedCall Reply) (h : Stands x s e) {c : Call} (i : e.asked ≡ on c) where
  answer_iff : (o : Outcome) → ((q : Outcome) → due q ≡ returned (answer_of o) → q ≡ o) → (e.reply.answer ≡ answer_of o) ↔ ((call x.now c).answer ≡ o)
  unfolding marked_call
  answer_iff o by = (
    (λ d. ap (λ (y : MarkedCall). (marked_call x y).answer) (sym i) ∙ by (marked_call x e.asked).answer (sym (does h).tells.answer_is ∙ ap returned d)),
    λ d. answer_by (does h).tells ∙ ap (λ (y : MarkedCall). answer_of (marked_call x y).answer) i ∙ ap answer_of d,
  )

  -- and the machine is then what the call makes of it
  now_is : (marked_call x e.asked).machine ≡ record { now = (call x.now c).machine; marks = x.marks }
  unfolding marked_call
  now_is = ap (λ (y : MarkedCall). (marked_call x y).machine) i

  -- where it stays as it was, the session handed back is the one that came
  pub session_kept : (call x.now c).machine ≡ x.now → e.reply.session ≡ s
  session_kept k = (does h).session_is ∙ ap record_of now_is ∙ ap (λ (m : Machine). record_of (with_now x m)) k ∙ sym h.record_is.whole

module _ (x : Marked) (s : Session) (e : Exchange MarkedCall Reply) (h : Stands x s e) (i : e.asked ≡ on round) where
  done_running : e.reply.answer ≡ Ok Done → x.now.phase ≡ Running
  done_running d = rounds_from x.now (comes x.now round done ((answer_iff x s e h i done done_by).0 d))

  running_done : x.now.phase ≡ Running → e.reply.answer ≡ Ok Done
  running_done r = (answer_iff x s e h i done done_by).1 (ap (λ (y : Next). y.answer) (runs x.now r))

  round_counted : OneRound x.now s e
  round_counted = record {
    accepted = (done_running, running_done);
    counted = λ d.
        let after : (marked_call x e.asked).machine.now ≡ next_round x.now = ap (λ (y : Marked). y.now) (now_is x s e h i) ∙ ap (λ (y : Next). y.machine) (runs x.now (done_running d)) in (
          rounds_count (marked_call x e.asked).machine e.reply.session (step h) ∙ ap (λ (m : Machine). m.rounds) after ∙ (round_rounded x.now).count ∙ ap suc (sym (rounds_count x s h.record_is)),
          most_done (marked_call x e.asked).machine e.reply.session (step h),
        );
  }

pub request_14 : Request14
request_14 = record {
  rounds = λ s f es t before later e i. round_counted (plain_after before) _ e (reached s f es t before later e i);
  ends = λ s f es t before later e i. let h = reached s f es t before later e i in
      (rounds_end (plain_after before).now h.record_is.formed.now_formed, most_done (marked_call (plain_after before) e.asked).machine e.reply.session (step h));
}

-- ---- C-22

module _ (x : Marked) (s : Session) (e : Exchange MarkedCall Reply) (h : Stands x s e) (i : e.asked ≡ on verdict) where
  told_iff : (v : Verdict) → (e.reply.answer ≡ Ok (Decided v)) ↔ ((call x.now verdict).answer ≡ decided v)
  told_iff v = answer_iff x s e h i (decided v) (λ q. decided_by q v)

  one_verdict : OneVerdict x.now s e
  one_verdict = let w = h.record_is.formed.now_formed in let r = verdict_of_rounds x.now w in record {
    answers = (r.answers.0, (told_iff r.answers.0).1 r.answers.1);
    kept = session_kept x s e h i r.kept;
    by_rounds = λ v. ((λ d. (r.by_rounds v).0 ((told_iff v).0 d)), λ k. (told_iff v).1 ((r.by_rounds v).1 k));
    worked = second_works x.now.rows w.table;
    own = λ v k. (told_iff v).1 (r.own v (sym (phase_of x s h.record_is) ∙ k));
    meaning = ((λ d. r.meaning.0 ((told_iff NonEmpty).0 d)), λ a. (told_iff NonEmpty).1 (r.meaning.1 a));
  }

pub request_22 : Request22
request_22 s f es t before later e i = one_verdict (plain_after before) _ e (reached s f es t before later e i)

-- ---- C-15

-- the bytes of an accepted print at its place say what its machine came to
pub record Says (m : Machine) (l : List ℕ) : Type 0 where
  pub verdict : Verdict
  pub settled : m.phase ≡ Settled verdict
  pub bytes : l ≡ sheet verdict m
  pub says : SheetSays l (said verdict m)

pub print_says : (x : Marked) (s : Session) (e : Exchange MarkedCall Reply) → Stands x s e → (l : List ℕ) → Printed e l → Says x.now l
print_says x s e h l p =
    let w = h.record_is.formed.now_formed in
    let t = text_by (told h print (λ n. refl) p.size p.asked_is) p.count p.answer_is in
    let v = ((prints x.now w (length e.old)).accepted t.0).0 t.1 in
    let k : l ≡ sheet v.0 x.now = sym p.bytes_are ∙ t.3 ∙ v.2 ∙ ap (sheet v.0) (second_is x.now w v.0 v.1) in
    record { verdict = v.0; settled = v.1; bytes = k; says = rw k (sheet_says x.now v.0 w v.1) }

-- whatever is read from two sheets is what their machines came to
grows : (m m' : Machine) (l l' : List ℕ) → NeverLess m m' → Says m l → Says m' l' → SheetsGrow l l'
grows m m' l l' n t t' = record {
  smaller = (said t.verdict m, t.says);
  larger = (said t'.verdict m', t'.says);
  no_less = λ s s' h h'. rw (says_one h t.says, says_one h' t'.says) (n.says t.verdict t'.verdict t.settled t'.settled);
}

pub request_15 : Request15
request_15 = record {
  claims = λ s f es t before later e i s' f' es' t' before' later' e' i' up.
      (never_less (plain_after before).now (plain_after before').now (reached s f es t before later e i).record_is.formed.now_formed (reached s' f' es' t' before' later' e' i').record_is.formed.now_formed up).claims;
  sheets = λ s f es t before later e i s' f' es' t' before' later' e' i' up l l' p p'.
      let x = plain_after before in let x' = plain_after before' in
      let h = reached s f es t before later e i in let h' = reached s' f' es' t' before' later' e' i' in
      grows x.now x'.now l l' (never_less x.now x'.now h.record_is.formed.now_formed h'.record_is.formed.now_formed up) (print_says x _ e h l p) (print_says x' _ e' h' l' p');
}

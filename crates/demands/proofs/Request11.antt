-- Request C-11, at every list of calls: a mark and a return (`back_again`), the marks that other calls keep, and sheets by the rows alone.
use mathlib.Core.Path.{◌≡◌, refl, ap, sym, ◌∙◌, subst}
use mathlib.Core.Logic.{◌≢◌}
use mathlib.Core.List.{List, [], ◌∷◌, ◌++◌, map, map-append, append_assoc}
use Prim.Native.Nat.{ℕ}
use Rattle.machine.specs.Machine.{Machine}
use Rattle.machine.specs.Calls.{done, returned, second}
use Rattle.machine.specs.WellFormed.{WellFormed}
use Rattle.machine.specs.Marks.{Marked, fresh_marked, MarkedCall, mark, return_to, MarkedNext, marked_call, marked_run}
use Rattle.machine.specs.Statements.{Returns}
use Rattle.machine.proofs.Answers.{done_by, answer_of, answer_by}
use Rattle.machine.proofs.Statements.{second_is}
use Rattle.machine.proofs.Marks.{Came, came_on, came_misnamed, came_marked, came_full, came_back, came_absent, came, run_append, every_return, mark_and_return}
use Rattle.marks.specs.Record.{marks_of}
use Rattle.session.specs.declared.Session.{Session}
use Rattle.session.specs.declared.Reply.{Reply}
use Rattle.session.specs.Record.{record_of, Represents}
use Rattle.session.specs.Promise.{Fresh}
use Rattle.session.specs.Standing.{with_marks}
use Rattle.session.proofs.Whole.{marks_in}
use Rattle.demands.specs.Trace.{Exchange, Trace, given, Served, onward, plain_after}
use Rattle.demands.specs.Requests.{ReturnLater, BackAgain, Request11}
use Rattle.demands.proofs.Reached.{marked_same, Stands, does, step, reached}
use Rattle.demands.proofs.Requests.{Says, print_says}

-- ---- a mark and a return

-- calls after calls
fed : (x : Marked) (es later : List (Exchange MarkedCall Reply))
    → marked_run x (map (λ e. e.asked) (es ++ later)) ≡ marked_run (marked_run x (map (λ e. e.asked) es)) (map (λ e. e.asked) later)
fed x es later = ap (marked_run x) (map-append (λ (e : Exchange MarkedCall Reply). e.asked) es later) ∙ run_append x (map (λ e. e.asked) es) (map (λ e. e.asked) later)

-- the record of one machine with the marks of another
with_marks_of : (x y : Marked) (s t : Session) → Represents x s → Represents y t → record_of (record { now = x.now; marks = y.marks }) ≡ with_marks t s
unfolding record_of
with_marks_of x y s t p q = rw (p.whole, q.whole) refl

module _ (s : Session) (f : Fresh s) (es : List (Exchange MarkedCall Reply)) (t : Trace onward Served s es) (r : ReturnLater s es) where
  -- the machine that is marked, and the one that returns
  abbrev then : Marked
  then = plain_after r.before

  abbrev at_last : Marked
  at_last = plain_after (r.before ++ (r.marking ∷ r.between))

  at_mark : Stands then (given onward s r.before) r.marking
  at_mark = reached s f es t r.before (r.between ++ (r.returning ∷ r.later)) r.marking r.calls_are

  at_return : Stands at_last (given onward s (r.before ++ (r.marking ∷ r.between))) r.returning
  at_return = reached s f es t (r.before ++ (r.marking ∷ r.between)) r.later r.returning
      (r.calls_are ∙ sym (append_assoc r.before (r.marking ∷ r.between) (r.returning ∷ r.later)))

  mark_done : (marked_call then (mark r.name)).answer ≡ done
  mark_done = ap (λ (c : MarkedCall). (marked_call then c).answer) (sym r.marks)
      ∙ done_by (marked_call then r.marking.asked).answer (sym (does at_mark).tells.answer_is ∙ ap returned r.accepted)

  last_is : at_last ≡ marked_run (marked_call then (mark r.name)).machine (map (λ e. e.asked) r.between)
  last_is = fed fresh_marked r.before (r.marking ∷ r.between)
      ∙ ap (λ (c : MarkedCall). marked_run (marked_call then c).machine (map (λ e. e.asked) r.between)) r.marks

  returns : Returns then r.name at_last
  returns = subst (Returns then r.name) (sym last_is) (every_return then r.name (map (λ e. e.asked) r.between) mark_done r.none_marks)

  handed_back : r.returning.reply.session ≡ record_of (marked_call at_last (return_to r.name)).machine
  handed_back = (does at_return).session_is ∙ ap (λ (c : MarkedCall). record_of (marked_call at_last c).machine) r.returns

  back_again : BackAgain s r
  back_again = record {
    accepted = answer_by (does at_return).tells ∙ ap (λ (c : MarkedCall). answer_of (marked_call at_last c).answer) r.returns ∙ ap answer_of returns.accepted;
    back = handed_back ∙ ap record_of (marked_same returns.now_is returns.marks_are) ∙ with_marks_of then at_last _ _ at_mark.record_is at_return.record_is;
    plain_back = ap (λ (l : List (Exchange MarkedCall Reply)). (plain_after l).now) (sym (append_assoc r.before (r.marking ∷ r.between) (r.returning ∷ [])))
        ∙ ap (λ (x : Marked). x.now) (fed fresh_marked (r.before ++ (r.marking ∷ r.between)) (r.returning ∷ []))
        ∙ ap (λ (c : MarkedCall). (marked_call at_last c).machine.now) r.returns
        ∙ returns.now_is;
    same = λ e. let i : at_last ≡ (marked_call then (mark r.name)).machine = last_is ∙ ap (λ (l : List (Exchange MarkedCall Reply)). marked_run (marked_call then (mark r.name)).machine (map (λ e. e.asked) l)) e in
        handed_back
        ∙ ap (λ (x : Marked). record_of (marked_call x (return_to r.name)).machine) i
        ∙ ap record_of (mark_and_return then r.name mark_done)
        ∙ ap (λ (c : MarkedCall). record_of (marked_call then c).machine) (sym r.marks)
        ∙ sym (does at_mark).session_is;
  }

-- ---- the other calls keep the marks

marks_kept : (x : Marked) {c : MarkedCall} {n : MarkedNext} → Came x c n → ((name : List ℕ) → c ≢ mark name) → n.machine.marks ≡ x.marks
marks_kept x (came_on c) d = refl
marks_kept x (came_misnamed c name i k) d = refl
marks_kept x (came_marked name k h) d = absurd (d name refl)
marks_kept x (came_full name k h) d = refl
marks_kept x (came_back name m k e) d = refl
marks_kept x (came_absent name k i) d = refl

call_keeps : (x : Marked) (s : Session) (e : Exchange MarkedCall Reply) → Stands x s e → ((name : List ℕ) → e.asked ≢ mark name) → e.reply.session.marks ≡ s.marks
call_keeps x s e h d = marks_in (marked_call x e.asked).machine e.reply.session (step h) ∙ ap marks_of (marks_kept x (came x e.asked) d) ∙ sym (marks_in x s h.record_is)

-- ---- sheets

-- two settled machines with the same rows are the same
one_sheet : (m m' : Machine) (l l' : List ℕ) → WellFormed m → WellFormed m' → m.rows ≡ m'.rows → Says m l → Says m' l' → l ≡ l'
one_sheet m m' l l' w w' e a b =
    let i : m ≡ m' = sym (second_is m w a.verdict a.settled) ∙ ap second e ∙ second_is m' w' b.verdict b.settled in
    let j : a.verdict ≡ b.verdict = cc (ap (λ (k : Machine). k.phase) i, a.settled, b.settled) in
    cc (a.bytes, b.bytes)

pub request_11 : Request11
request_11 = record {
  back = back_again;
  kept = λ s f es t before later e i. call_keeps (plain_after before) _ e (reached s f es t before later e i);
  sheets = λ s f es t before later e i s' f' es' t' before' later' e' i' same l l' p p'.
      let x = plain_after before in let x' = plain_after before' in
      let h = reached s f es t before later e i in let h' = reached s' f' es' t' before' later' e' i' in
      one_sheet x.now x'.now l l' h.record_is.formed.now_formed h'.record_is.formed.now_formed same (print_says x _ e h l p) (print_says x' _ e' h' l' p');
}

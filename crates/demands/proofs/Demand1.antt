-- Demand 1, at one call and at every one.
use Prim.Native.Nat.{ℕ, ◌≤◌}
use mathlib.Core.Path.{◌≡◌, refl, ap, sym, ◌∙◌}
use mathlib.Core.List.{List, [], ◌∷◌, ◌++◌}
use lib.ListN.{length, drop, length-append, length-drop}
use native.Mathlib.Omega.{arith}
use Rattle.machine.specs.Calls.{Call, load, withdraw, close, round, reopen, verdict, print, save, expression, Outcome, done, wrote, decided, refused, Returned, due, call, buffer_after}
use Rattle.machine.specs.Marks.{Marked, MarkedCall, on, mark, return_to, MarkedNext, marked_call}
use Rattle.machine.specs.Causes.{Writes, sheets, saves, expresses}
use Rattle.machine.proofs.Outcomes.{comes}
use Rattle.machine.proofs.Marks.{Came, came_on, came_misnamed, came_marked, came_full, came_back, came_absent, came, marked_refusals, refused_same}
use Rattle.session.specs.declared.Session.{Session}
use Rattle.session.specs.declared.Reply.{Reply}
use Rattle.session.specs.Record.{record_of}
use Rattle.demands.specs.Trace.{Exchange, given, lent, Buffered, onward, plain_after}
use Rattle.demands.specs.Demands.{RefusedAs, Answered, Demand1}
use Rattle.demands.proofs.Reached.{Stands, does, reached}

empty : (l : List ℕ) → length l ≡ 0 → l ≡ []
empty [] e = refl
empty (x ∷ l) e = absurd (omega arith)

-- a buffer that is left as it was
same_buffer : (c : MarkedCall) (old new : List ℕ) → length old ≡ lent c → new ≡ old → Buffered c old new
same_buffer (on (load b)) old new l e = let f = empty old l in (f, e ∙ f)
same_buffer (on (withdraw b)) old new l e = let f = empty old l in (f, e ∙ f)
same_buffer (on close) old new l e = let f = empty old l in (f, e ∙ f)
same_buffer (on round) old new l e = let f = empty old l in (f, e ∙ f)
same_buffer (on reopen) old new l e = let f = empty old l in (f, e ∙ f)
same_buffer (on verdict) old new l e = let f = empty old l in (f, e ∙ f)
same_buffer (on (print size)) old new l e = (l, ap length e ∙ l)
same_buffer (on (save size)) old new l e = (l, ap length e ∙ l)
same_buffer (on (expression size)) old new l e = (l, ap length e ∙ l)
same_buffer (mark name) old new l e = let f = empty old l in (f, e ∙ f)
same_buffer (return_to name) old new l e = let f = empty old l in (f, e ∙ f)

module _ (x : Marked) where
  -- a text in it leaves its length
  text_buffer : {c : Call} {text : List ℕ} {size : ℕ} → Writes x.now c text size → (old new : List ℕ) → length old ≡ lent (on c) → length text ≤ size → new ≡ text ++ drop (length text) old
      → Buffered (on c) old new
  text_buffer (sheets v size e) old new l h j = (l, ap length j ∙ simp (length-append, length-drop) (omega arith))
  text_buffer (saves size) old new l h j = (l, ap length j ∙ simp (length-append, length-drop) (omega arith))
  text_buffer (expresses size e) old new l h j = (l, ap length j ∙ simp (length-append, length-drop) (omega arith))

  now_buffered : (c : Call) (o : Outcome) → (call x.now c).answer ≡ o → (old new : List ℕ) → length old ≡ lent (on c) → new ≡ buffer_after o old → Buffered (on c) old new
  now_buffered c done k old new l j = same_buffer (on c) old new l j
  now_buffered c (wrote text) k old new l j = let w = comes x.now c (wrote text) k in text_buffer w.2 old new l w.3 j
  now_buffered c (decided v) k old new l j = same_buffer (on c) old new l j
  now_buffered c (refused n place) k old new l j = same_buffer (on c) old new l j

  -- the calls on the marks write nothing
  buffered : {c : MarkedCall} {r : MarkedNext} → Came x c r → (old new : List ℕ) → length old ≡ lent c → new ≡ buffer_after r.answer old → Buffered c old new
  buffered (came_on c) old new l j = now_buffered c (call x.now c).answer refl old new l j
  buffered (came_misnamed c name i k) old new l j = same_buffer c old new l j
  buffered (came_marked name k h) old new l j = same_buffer (mark name) old new l j
  buffered (came_full name k h) old new l j = same_buffer (mark name) old new l j
  buffered (came_back name m k h) old new l j = same_buffer (return_to name) old new l j
  buffered (came_absent name k h) old new l j = same_buffer (return_to name) old new l j

-- the outcome for which a refusal is due
due_refused : (o : Outcome) {n place : ℕ} → due o ≡ due (refused n place) → o ≡ refused n place
due_refused done e = let v = ap (λ (x : Returned). x.number) e in let z : ◌≡◌ {A = ℕ} 0 1 = cc in absurd (omega arith)
due_refused (wrote l) e = let v = ap (λ (x : Returned). x.number) e in let z : ◌≡◌ {A = ℕ} 0 1 = cc in absurd (omega arith)
due_refused (decided w) e = let v = ap (λ (x : Returned). x.number) e in let z : ◌≡◌ {A = ℕ} 0 1 = cc in absurd (omega arith)
due_refused (refused k at) {n} {place} e =
    let v = ap (λ (x : Returned). x.number) e in let w = ap (λ (x : Returned). x.values) e in let i : k ≡ n = cc in let j : at ≡ place = cc in cc

answered : (x : Marked) (s : Session) (e : Exchange MarkedCall Reply) → Stands x s e → Answered x s e
answered x s e h = record {
  result = (does h).tells.answer_is;
  refused = λ n place. (
    (λ i. (marked_refusals x e.asked n place h.record_is.formed h.served.brings).0 (by n place i)),
    λ c. (does h).tells.answer_is ∙ ap due ((marked_refusals x e.asked n place h.record_is.formed h.served.brings).1 c),
  );
  unchanged = λ n place i. (
    (does h).session_is ∙ ap record_of (refused_same x e.asked n place (by n place i)) ∙ sym h.record_is.whole,
    (does h).tells.buffer_is ∙ ap (λ (o : Outcome). buffer_after o e.old) (by n place i),
  );
  buffered = buffered x (came x e.asked) e.old e.new h.served.lends (does h).tells.buffer_is;
}
  where
    by : (n place : ℕ) → RefusedAs e.reply.answer n place → (marked_call x e.asked).answer ≡ refused n place
    by n place i = due_refused (marked_call x e.asked).answer (sym (does h).tells.answer_is ∙ i)

pub demand_1 : Demand1
demand_1 s f es t before later e i = answered (plain_after before) (given onward s before) e (reached s f es t before later e i)

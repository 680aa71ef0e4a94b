-- Request C-12, at one call of expression and at every one.
use Prim.Native.Nat.{ℕ}
use mathlib.Core.Path.{◌≡◌, refl, ap, ◌∙◌}
use mathlib.Core.List.{List}
use lib.ListN.{length}
use Rattle.machine.specs.Calls.{Answer}
use Rattle.std.specs.Prelude.{Ok}
use Rattle.machine.specs.declared.Success.TheVariants.{Wrote}
use Rattle.machine.specs.Calls.{expression, Outcome, done, wrote, decided, refused, call, Tells}
use Rattle.machine.specs.Marks.{Marked, MarkedCall, on}
use Rattle.machine.specs.Statements.{Expresses}
use Rattle.machine.proofs.Answers.{answer_of, answer_by, text_by}
use Rattle.machine.proofs.Expressing.{expressed}
use Rattle.session.specs.declared.Session.{Session}
use Rattle.session.specs.declared.Reply.{Reply}
use Rattle.demands.specs.Trace.{Exchange, plain_after}
use Rattle.demands.specs.Requests.{OneExpression, Request12}
use Rattle.demands.proofs.Reached.{Stands, told, reached}
use Rattle.demands.proofs.Demand2.{written}
use Rattle.demands.proofs.Requests.{session_kept}

-- where no text was written, the buffer is as it was
untouched : (o : Outcome) {old new : List ℕ} {a : Answer} → Tells o old new a → ¬ ((n : ℕ) × (a ≡ Ok (Wrote n))) → new ≡ old
untouched done t f = t.buffer_is
untouched (wrote l) t f = absurd (f (length l, answer_by t))
untouched (decided v) t f = t.buffer_is
untouched (refused n place) t f = t.buffer_is

module _ (x : Marked) (s : Session) (e : Exchange MarkedCall Reply) (h : Stands x s e) (size : ℕ) (i : e.asked ≡ on (expression size)) where
  abbrev outcome : Outcome
  outcome = (call x.now (expression (length e.old))).answer

  tells : Tells outcome e.old e.new e.reply.answer
  tells = told h expression (λ n. refl) size i

  -- the machine's half, for any length of buffer
  half : (n : ℕ) → Expresses x.now n
  half n = expressed x.now h.record_is.formed.now_formed n

  -- the answer is that of what the machine comes to
  answers : {o : Outcome} → outcome ≡ o → e.reply.answer ≡ answer_of o
  answers k = answer_by tells ∙ ap answer_of k

  one_expression : OneExpression x.now s e
  one_expression = let p = half (length e.old) in record {
    accepted = (
      (λ a. let t = text_by tells a.0 a.1 in let b = (p.accepted t.0).0 t.1 in (b.0, (t.0, b.1, b.2))),
      λ a. (length a.1.0, answers ((p.accepted a.1.0).1 (a.0, a.1.1, a.1.2))),
    );
    exact = λ n l a w. let t = text_by tells n a in let k : t.0 ≡ l = p.one t.0 l ((p.accepted t.0).0 t.1).1 w in
        (t.2 ∙ ap length k, written outcome e.old e.new t.0 l n tells.buffer_is t.1 t.2 k);
    unwritten = untouched outcome tells;
    when_open = λ a. answers (p.when_open a);
    when_running = λ a. answers (p.when_running a);
    when_empty = λ a. answers (p.when_empty a);
    too_short = λ a l w b. answers (p.too_short a l w b);
    kept = session_kept x s e h i (half size).unchanged;
    plain = p;
  }

pub request_12 : Request12
request_12 s f es t before later e i = one_expression (plain_after before) _ e (reached s f es t before later e i)

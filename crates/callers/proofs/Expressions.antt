-- Request C-12 at an expression after a print (`expresses_after`).
use Prim.Native.Nat.{ℕ, ◌+◌}
use mathlib.Core.Path.{◌≡◌, refl, ap, sym, ◌∙◌, subst}
use mathlib.Core.List.{List, [], ◌∷◌, ◌++◌, append_assoc}
use lib.ListN.{length, take, drop, length-append}
use lib.Seq.{take_at}
use native.Mathlib.Omega.{arith}
use Rattle.machine.specs.Calls.{Answer}
use Rattle.std.specs.Prelude.{Ok}
use Rattle.machine.specs.declared.Success.TheVariants.{Wrote}
use Rattle.machine.specs.declared.Verdict.{Verdict}
use Rattle.machine.specs.declared.Verdict.TheVariants.{NonEmpty}
use Rattle.machine.specs.declared.Phase.{Phase}
use Rattle.machine.specs.declared.Phase.TheVariants.{Open, Running, Settled}
use Rattle.machine.specs.Machine.{Machine}
use Rattle.machine.specs.Sheet.{sheet}
use Rattle.machine.specs.Word.{TellsWalk}
use Rattle.machine.specs.Calls.{print, expression, call_in, call, second}
use Rattle.machine.specs.Marks.{Marked, fresh_marked, MarkedCall, on, marked_call}
use Rattle.machine.specs.Statements.{after_calls}
use Rattle.machine.proofs.Marks.{run_append}
use Rattle.session.specs.declared.Reply.{Reply}
use Rattle.demands.specs.Trace.{Exchange, Served, exchange}
use Rattle.demands.specs.Demands.{PrintsTrue, ExactPrint}
use Rattle.demands.specs.Requests.{OneExpression}
use Rattle.demands.proofs.Request12.{request_12}
use Rattle.callers.specs.Handed.{HandedBack, worked, PrintedAfter, OneWalk, ExpressedAfter}
use Rattle.callers.proofs.Handed.{one_more, at_call}

-- a print leaves the machine as it was
print_keeps : (m : Machine) (size : ℕ) → (call m (print size)).machine ≡ m
unfolding call_in
print_keeps m size = by m.phase
  where
    by : (p : Phase) → (call_in p m (print size)).machine ≡ m
    by Open = refl
    by Running = refl
    by (Settled v) = refl

-- the bytes that an accepted print wrote
printed_sheet : (m : Machine) (old new : List ℕ) (r : Answer) → PrintsTrue m old new r → ExactPrint m old new r → (n : ℕ) → r ≡ Ok (Wrote n) → (v : Verdict) → m.phase ≡ Settled v
    → take n new ≡ sheet v m
printed_sheet m old new r p x n i v e =
    let a = p n i in
    let b = x.exact n v i e in
    let f : a.0 ≡ v = cc (a.2.settled, e) in
    let g : new ≡ sheet v m ++ drop n old = subst (λ (u : Verdict). new ≡ sheet u m ++ drop n old) f a.1 in
    let q : length (sheet v m) + length (drop n old) ≡ length (sheet v (second m.rows)) + length (drop n old) =
    sym (length-append (sheet v m) (drop n old)) ∙ ap length (sym g ∙ b.1) ∙ length-append (sheet v (second m.rows)) (drop n old) in
    ap (take n) g ∙ take_at (sheet v m) (drop n old) n (omega (arith, q, b.0))

-- sheet and expression of one machine
one_walk : (m : Machine) (old new old' new' : List ℕ) (p r : Reply) → PrintsTrue m old new p.answer → ExactPrint m old new p.answer
    → OneExpression m p.session (exchange (on (expression (length old'))) old' new' r) → (n n' : ℕ) → p.answer ≡ Ok (Wrote n) → r.answer ≡ Ok (Wrote n') → OneWalk m (take n new) (take n' new')
one_walk m old new old' new' p r true_sheet exact o n n' i j =
    let a = o.accepted.0 (n', j) in
    let b = o.exact n' a.1.0 j a.1.1 in
    let bytes : take n' new' ≡ a.1.0 = ap (take n') b.1 ∙ take_at a.1.0 (drop n' old') n' (sym b.0) in
    let t : TellsWalk m (take n' new') = subst (TellsWalk m) (sym bytes) a.1.1 in
    (t, printed_sheet m old new p.answer true_sheet exact n i NonEmpty a.0 ∙ o.plain.of_the_sheet a.0 (take n' new') t)

module _ (batch old new old' new' : List ℕ) (p r : Reply) (w : PrintedAfter batch old new p) (k : Served p.session (exchange (on (expression (length old'))) old' new' r)) where
  abbrev cs : List MarkedCall
  cs = worked batch w.count

  abbrev e : Exchange MarkedCall Reply
  e = exchange (on (expression (length old'))) old' new' r

  same : after_calls (cs ++ (on (print (length old)) ∷ [])) ≡ after_calls cs
  unfolding marked_call
  same = ap (λ (x : Marked). x.now) (run_append fresh_marked cs (on (print (length old)) ∷ [])) ∙ print_keeps (after_calls cs) (length old)

  at_expression : OneExpression (after_calls cs) p.session e
  at_expression = subst (λ (m : Machine). OneExpression m p.session e) same
      (at_call (cs ++ (on (print (length old)) ∷ [])) p.session w.handed e k (λ x s e. (size : ℕ) → e.asked ≡ on (expression size) → OneExpression x.now s e) request_12 (length old') refl)

  pub expresses_after : ExpressedAfter batch old new old' new' (record { printed = p.answer; told = r })
  expresses_after = record {
    count = w.count;
    few = w.few;
    before = p.session;
    handed_before = w.handed;
    handed = subst (λ (x : List MarkedCall). HandedBack x r.session) (append_assoc cs (on (print (length old)) ∷ []) (on (expression (length old')) ∷ []))
        (one_more (cs ++ (on (print (length old)) ∷ [])) p.session w.handed e k);
    verdict = w.verdict;
    settled = w.settled;
    expressed = at_expression;
    one_walk = one_walk (after_calls cs) old new old' new' p r w.true_sheet w.exact at_expression;
  }

-- A mark, a load and a return, made by a caller after any calls: request C-11 at them (`tries_variant`).
use Prim.Native.Nat.{ℕ}
use mathlib.Core.Path.{◌≡◌, refl, ap, sym, ◌∙◌}
use mathlib.Core.Logic.{⊎_elim}
use mathlib.Core.List.Memᴰ
use mathlib.Core.List.{List, [], ◌∷◌, ◌++◌}
use native.Mathlib.Omega.{arith}
use Rattle.machine.specs.Calls.{load}
use Rattle.machine.specs.Marks.{fresh_marked, MarkedCall, on, mark, return_to}
use Rattle.session.specs.declared.Session.{Session}
use Rattle.session.specs.declared.Reply.{Reply}
use Rattle.session.specs.Record.{record_of}
use Rattle.session.specs.Standing.{with_marks}
use Rattle.demands.specs.Trace.{Exchange, Trace, given, Served, onward, exchange}
use Rattle.demands.proofs.Request11.{request_11}
use Rattle.callers.specs.Handed.{HandedBack, TriedVariant}
use Rattle.callers.proofs.Handed.{longer, more}

-- the marks of a record are its own
own_marks : (u t s : Session) → u ≡ with_marks t s → u ≡ with_marks u s
own_marks u t s e = e ∙ sym (ap (λ (v : Session). with_marks v s) e)

module _ (cs : List MarkedCall) (s : Session) (h : HandedBack cs s) (name batch : List ℕ) (m l b : Reply)
    (marks : Served s (exchange (mark name) [] [] m)) (loads : Served m.session (exchange (on (load batch)) [] [] l)) (returns : Served l.session (exchange (return_to name) [] [] b))
  where
    abbrev marking : Exchange MarkedCall Reply
    marking = exchange (mark name) [] [] m

    abbrev loading : Exchange MarkedCall Reply
    loading = exchange (on (load batch)) [] [] l

    abbrev calls : List (Exchange MarkedCall Reply)
    calls = marking ∷ loading ∷ exchange (return_to name) [] [] b ∷ []

    served : Trace onward Served s calls
    served = (marks, (loads, (returns, tt)))

    pub tries_variant : TriedVariant cs s name batch (record { marked = m.answer; back = b })
    tries_variant = record {
      handed = more cs s h calls served;
      back = λ done.
          let r = request_11.back (record_of fresh_marked) refl (h.exchanges ++ calls) (longer cs s h calls served) (record {
            name = name;
            before = h.exchanges;
            marking = marking;
            between = loading ∷ [];
            returning = exchange (return_to name) [] [] b;
            later = [];
            calls_are = refl;
            marks = refl;
            accepted = done;
            none_marks = λ i. ⊎_elim (λ e. let z : ◌≡◌ {A = ℕ} 0 1 = cc in omega arith) Memᴰ.not-nil (Memᴰ.cases_cons i);
            returns = refl;
          }) in
          let t = given onward (record_of fresh_marked) (h.exchanges ++ (marking ∷ loading ∷ [])) in
          (r.accepted, own_marks b.session t s (r.back ∙ ap (with_marks t) h.last));
    }

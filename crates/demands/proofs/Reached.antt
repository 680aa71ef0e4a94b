-- Along a trace from a fresh session, each call got the record of the plain machine that was fed the calls before it.
use Prim.Native.Nat.{ℕ}
use mathlib.Core.Path.{◌≡◌, ap, sym, ◌∙◌, subst}
use mathlib.Core.List.{List, [], ◌∷◌, ◌++◌, map}
use lib.ListN.{length}
use Rattle.machine.specs.Machine.{Machine}
use Rattle.machine.specs.Calls.{Call, call, Tells}
use Rattle.machine.specs.Marks.{Mark, Marked, fresh_marked, MarkedCall, on, marked_call, marked_run}
use Rattle.machine.proofs.Marks.{marked_formed, fresh_formed}
use Rattle.session.specs.declared.Session.{Session}
use Rattle.session.specs.declared.Reply.{Reply}
use Rattle.session.specs.Record.{Represents}
use Rattle.session.specs.Promise.{Fresh, Does}
use Rattle.demands.specs.Trace.{Exchange, Trace, given, lent, Served, onward}
use Rattle.demands.specs.Demands.{EveryCall}

-- machines with the same now and the same marks
pub marked_same : {x y : Marked} → x.now ≡ y.now → x.marks ≡ y.marks → x ≡ y
marked_same {x} {y} i j = ap (λ (m : Machine). record { now = m; marks = x.marks }) i ∙ ap (λ (l : List Mark). record { now = y.now; marks = l }) j

-- a call at its place: it got the record of the machine x
pub record Stands (x : Marked) (s : Session) (e : Exchange MarkedCall Reply) : Type 0 where
  pub record_is : Represents x s
  pub served : Served s e

module _ {x : Marked} {s : Session} {e : Exchange MarkedCall Reply} (h : Stands x s e) where
  pub does : Does x e.asked e.old e.new e.reply
  does = h.served.keeps x h.record_is

  -- a call that writes names the length of its buffer
  pub told : (names : ℕ → Call) → ((n : ℕ) → lent (on (names n)) ≡ n) → (size : ℕ) → e.asked ≡ on (names size)
      → Tells (call x.now (names (length e.old))).answer e.old e.new e.reply.answer
  unfolding marked_call
  told names is size j =
      let l : length e.old ≡ size = subst (λ (c : MarkedCall). length e.old ≡ lent c) j h.served.lends ∙ is size in
      subst (λ (c : MarkedCall). Tells (marked_call x c).answer e.old e.new e.reply.answer) (j ∙ ap (λ (n : ℕ). on (names n)) (sym l)) does.tells

  -- it hands back the record of the machine after the call
  pub step : Represents (marked_call x e.asked).machine e.reply.session
  step = record { formed = marked_formed x h.record_is.formed e.asked h.served.brings; whole = does.session_is }

along : (before later : List (Exchange MarkedCall Reply)) (e : Exchange MarkedCall Reply) (x : Marked) (s : Session) → Represents x s → Trace onward Served s (before ++ (e ∷ later))
    → Stands (marked_run x (map (λ d. d.asked) before)) (given onward s before) e
along [] later e x s h t = record { record_is = h; served = t.0 }
along (d ∷ before) later e x s h t = along before later e (marked_call x d.asked).machine d.reply.session (step (record { record_is = h; served = t.0 })) t.1

pub fresh_is : (s : Session) → Fresh s → Represents fresh_marked s
fresh_is s f = record { formed = fresh_formed; whole = f }

pub reached : EveryCall Stands
reached s f es t before later e i = along before later e fresh_marked s (fresh_is s f) (rw i at t)

-- Every list of calls has a result, and one only.
use Rattle.std.specs.Prelude.{ℕ, ◌≡◌, List, [], ◌∷◌, map, length}
use Rattle.machine.specs.Marks.{MarkedCall, MarkedBrings}
use Rattle.session.specs.declared.Session.{Session}
use Rattle.session.specs.declared.Reply.{Reply}
use Rattle.session.specs.Promise.{Fresh}
use Rattle.demands.specs.Trace.{Exchange, Trace, lent, Served, onward}

-- what a caller has before a call: what it asks, and its buffer
abbrev pub Ask : Type 0
Ask = MarkedCall × List ℕ

abbrev pub asks : List (Exchange MarkedCall Reply) → List Ask
asks es = map (λ e. (e.asked, e.old)) es

-- batches hold bytes, and each buffer has the length that its call names
abbrev pub Proper : List Ask → Type 0
Proper [] = Unit {0}
Proper (a ∷ l) = MarkedBrings a.0 × (length a.1 ≡ lent a.0) × Proper l

-- the one trace from the session s with these calls and buffers
pub record OneTrace (s : Session) (l : List Ask) : Type 0 where
  pub exchanges : List (Exchange MarkedCall Reply)
  pub asked_are : asks exchanges ≡ l
  pub trace : Trace onward Served s exchanges
  pub only : (es : List (Exchange MarkedCall Reply)) → asks es ≡ l → Trace onward Served s es → es ≡ exchanges

-- from a fresh session every list of calls has one result
abbrev pub ResultExists : Type 0
ResultExists = (s : Session) → Fresh s → (l : List Ask) → Proper l → OneTrace s l

-- Lists of calls: what their callers brought, and what came back.
use Rattle.std.specs.Prelude.{ℕ, ◌≡◌, List, [], ◌∷◌, map, length}
use Rattle.machine.specs.Calls.{load, withdraw, close, round, reopen, verdict, print, save, expression}
use Rattle.machine.specs.Marks.{Marked, fresh_marked, MarkedCall, on, mark, return_to, marked_run, MarkedBrings}
use Rattle.session.specs.declared.Session.{Session}
use Rattle.session.specs.declared.Reply.{Reply}
use Rattle.session.specs.Promise.{Keeps}

-- one call: what was asked, the caller's buffer before and after, and what came back. A call without a buffer has none before and after
pub record Exchange (C R : Type 0) : Type 0 where
  pub asked : C
  pub old : List ℕ
  pub new : List ℕ
  pub reply : R

-- each call kept a relation to what the one before handed back
abbrev pub Trace : {S C R : Type 0} → (R → S) → (S → Exchange C R → Type 0) → S → List (Exchange C R) → Type 0
Trace next Link s [] = Unit {0}
Trace next Link s (e ∷ es) = Link s e × Trace next Link (next e.reply) es

-- what the last of the calls handed back
abbrev pub given : {S C R : Type 0} → (R → S) → S → List (Exchange C R) → S
given next s [] = s
given next s (e ∷ es) = given next (next e.reply) es

-- ---- calls on a session

-- the length of the buffer that a caller lends: print, save and expression name it, the other calls have none
abbrev pub lent : MarkedCall → ℕ
lent (on (load l)) = 0
lent (on (withdraw l)) = 0
lent (on close) = 0
lent (on round) = 0
lent (on reopen) = 0
lent (on verdict) = 0
lent (on (print size)) = size
lent (on (save size)) = size
lent (on (expression size)) = size
lent (mark name) = 0
lent (return_to name) = 0

-- print, save and expression have a buffer of the length that they name, before and after; the other calls have none
abbrev pub Buffered : MarkedCall → List ℕ → List ℕ → Type 0
Buffered (on (load l)) old new = (old ≡ []) × (new ≡ [])
Buffered (on (withdraw l)) old new = (old ≡ []) × (new ≡ [])
Buffered (on close) old new = (old ≡ []) × (new ≡ [])
Buffered (on round) old new = (old ≡ []) × (new ≡ [])
Buffered (on reopen) old new = (old ≡ []) × (new ≡ [])
Buffered (on verdict) old new = (old ≡ []) × (new ≡ [])
Buffered (on (print size)) old new = (length old ≡ size) × (length new ≡ size)
Buffered (on (save size)) old new = (length old ≡ size) × (length new ≡ size)
Buffered (on (expression size)) old new = (length old ≡ size) × (length new ≡ size)
Buffered (mark name) old new = (old ≡ []) × (new ≡ [])
Buffered (return_to name) old new = (old ≡ []) × (new ≡ [])

-- one call with its buffer before and after and its reply
abbrev pub exchange : MarkedCall → List ℕ → List ℕ → Reply → Exchange MarkedCall Reply
exchange c old new r = record { asked = c; old = old; new = new; reply = r }

-- the call brought bytes, was lent its buffer, and kept the promise of a session that calls make, the first of its method's `ensures`
pub record Served (s : Session) (e : Exchange MarkedCall Reply) : Type 0 where
  pub brings : MarkedBrings e.asked
  pub lends : length e.old ≡ lent e.asked
  pub keeps : Keeps s e.asked e.old e.new e.reply

-- the session that a call hands on
abbrev pub onward : Reply → Session
onward r = r.session

-- the plain machine with marks that was fed the calls
abbrev pub plain_after : List (Exchange MarkedCall Reply) → Marked
plain_after es = marked_run fresh_marked (map (λ e. e.asked) es)

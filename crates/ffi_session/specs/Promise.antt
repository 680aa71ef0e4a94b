-- The calls that bytes name (`call_of`), what the plain machine comes to under them (`after`), and its last answer as a number (`CalledSession`).
use Rattle.std.specs.Prelude.{ℕ, ◌≡◌, cond, List, [], ◌∷◌, eqb, length}
use Rattle.lists.specs.Tests.{gather}
use Rattle.machine.specs.Calls.{Answer}
use Rattle.machine.specs.Calls.{load, withdraw, close, round, reopen, verdict, print, save, expression, Outcome, done, returned, due, buffer_after}
use Rattle.machine.specs.Marks.{Marked, fresh_marked, MarkedCall, on, mark, return_to, marked_call}
use Rattle.session.specs.declared.Reply.{Reply}
use Rattle.session.specs.Record.{Represents}
use Rattle.codes.specs.Coding.{Coded}

-- a byte, and the call that it names
pub data Word : Type 0 where
  says : ℕ → MarkedCall → Word

-- the table of bytes, with the batch and the length of the buffer: l w c r o v p s e; 1 to 4 mark a to d, 5 to 8 return to them
unfoldable pub words : List ℕ → ℕ → List Word
words batch size =
    says 108 (on (load batch))
    ∷ says 119 (on (withdraw batch))
    ∷ says 99 (on close)
    ∷ says 114 (on round)
    ∷ says 111 (on reopen)
    ∷ says 118 (on verdict)
    ∷ says 112 (on (print size))
    ∷ says 115 (on (save size))
    ∷ says 101 (on (expression size))
    ∷ says 49 (mark (97 ∷ []))
    ∷ says 50 (mark (98 ∷ []))
    ∷ says 51 (mark (99 ∷ []))
    ∷ says 52 (mark (100 ∷ []))
    ∷ says 53 (return_to (97 ∷ []))
    ∷ says 54 (return_to (98 ∷ []))
    ∷ says 55 (return_to (99 ∷ []))
    ∷ says 56 (return_to (100 ∷ []))
    ∷ []

-- the call that a table names by a byte, or none
abbrev pub named : ℕ → List Word → List MarkedCall
named b [] = []
named b (says k c ∷ l) = cond (eqb b k) (c ∷ []) (named b l)

unfoldable pub call_of : List ℕ → ℕ → ℕ → List MarkedCall
call_of batch size b = named b (words batch size)

-- what calls leave: the plain machine with marks, the last answer, and the buffer
pub record Left : Type 0 where
  pub machine : Marked
  pub answer : Outcome
  pub buffer : List ℕ

-- no call was made
abbrev pub at_first : List ℕ → Left
at_first old = record { machine = fresh_marked; answer = done; buffer = old }

abbrev pub after_call : Left → MarkedCall → Left
after_call x c =
    record {
      machine = (marked_call x.machine c).machine;
      answer = (marked_call x.machine c).answer;
      buffer = buffer_after (marked_call x.machine c).answer x.buffer;
    }

abbrev pub after : Left → List MarkedCall → Left
after x [] = x
after x (c ∷ cs) = after (after_call x c) cs

-- what the calls leave that the bytes name, on a fresh machine
abbrev pub left_by : List ℕ → List ℕ → List ℕ → Left
left_by batch calls old = after (at_first old) (gather (call_of batch (length old)) calls)

-- a reply and a buffer tell what calls leave
pub record Shows (x : Left) (r : Reply) (l : List ℕ) : Type 0 where
  pub session_is : Represents x.machine r.session
  pub answer_is : returned r.answer ≡ due x.answer
  pub buffer_is : l ≡ x.buffer

-- the call of one byte, after any calls
abbrev pub Makes : List ℕ → ℕ → Reply → List ℕ → List ℕ → Reply → Type 0
Makes batch b before old new r = (x : Left) → Shows x before old → Shows (after x (call_of batch (length old) b)) r new

-- the last answer, and the buffer
pub record Answers (batch calls old new : List ℕ) (a : Answer) : Type 0 where
  pub answer_is : returned a ≡ due (left_by batch calls old).answer
  pub buffer_is : new ≡ (left_by batch calls old).buffer

-- the last answer as a number and a place, and the buffer
pub record CalledSession (batch calls old new : List ℕ) (before after r : ℕ) : Type 0 where
  pub coded : Coded (left_by batch calls old).answer before after r
  pub buffer_is : new ≡ (left_by batch calls old).buffer

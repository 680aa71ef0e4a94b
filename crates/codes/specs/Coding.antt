-- An outcome as a number, a place and a buffer.
use Rattle.std.specs.Prelude.{ℕ, ◌*◌, ◌≡◌, List, length}
use Rattle.machine.specs.declared.Verdict.TheVariants.{NonEmpty, Empty}
use Rattle.machine.specs.Calls.{Answer, Outcome, done, wrote, decided, refused, returned, due, buffer_after}

-- the length of the text, 1 for a non-empty and 0 for an empty verdict, or 2 to the power 32 times the number of the refusal
abbrev pub code_of : Outcome → ℕ
code_of done = 0
code_of (wrote l) = length l
code_of (decided NonEmpty) = 1
code_of (decided Empty) = 0
code_of (refused n place) = n * 4294967296

-- the place of the refusal; without one, what stood there
abbrev pub place_after : Outcome → ℕ → ℕ
place_after done old = old
place_after (wrote l) old = old
place_after (decided v) old = old
place_after (refused n place) old = place

-- an outcome as a number and a place
pub record Coded (o : Outcome) (before after r : ℕ) : Type 0 where
  pub code_is : r ≡ code_of o
  pub place_is : after ≡ place_after o before

-- an answer, of whatever outcome it tells
abbrev pub Codes : Answer → ℕ → ℕ → ℕ → Type 0
Codes a before after r = (o : Outcome) → returned a ≡ due o → Coded o before after r

-- a refusal of any number, of whatever outcome it tells
abbrev pub CodesRefusal : ℕ → ℕ → ℕ → ℕ → ℕ → Type 0
CodesRefusal n place before after r = (o : Outcome) → due (refused n place) ≡ due o → Coded o before after r

-- an outcome as a number, a place and a buffer
pub record CodedIn (o : Outcome) (old new : List ℕ) (before after r : ℕ) : Type 0 where
  pub code_is : r ≡ code_of o
  pub buffer_is : new ≡ buffer_after o old
  pub place_is : after ≡ place_after o before

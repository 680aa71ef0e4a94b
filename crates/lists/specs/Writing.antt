-- What a writer leaves in the buffer that it is lent.
use Rattle.std.specs.Prelude.{ℕ, ◌+◌, ◌≡◌, List, ◌++◌, length, drop}

-- the text, and beyond it the bytes that the buffer had; the count of bytes written
pub record Wrote (text old new : List ℕ) (count : ℕ) : Type 0 where
  pub length_is : count ≡ length text
  pub bytes_are : new ≡ text ++ drop (length text) old

-- a text from a place on, and the place after it: whatever was written before, the text now stands there after it
pub record WroteAt (text old new : List ℕ) (at next : ℕ) : Type 0 where
  pub place_is : next ≡ at + length text
  pub follows : (before base : List ℕ) → Wrote before base old at → Wrote (before ++ text) base new next

-- The cause of a number: causes have different numbers.
use Prim.Native.Nat.{ℕ}
use mathlib.Core.Path.{◌≡◌, refl}
use mathlib.Core.Bool.{cond}
use lib.Dec.{eqb}
use mathlib.Core.List.{List, [], ◌∷◌}
use Rattle.causes.specs.declared.Cause.{Cause}
use Rattle.causes.specs.declared.Cause.TheVariants.{NotOpen, UnknownKind, CutShort, HighState, ZeroSet, TooManyRows, TooManySets, AbsentRow}
use Rattle.causes.specs.declared.Cause.TheVariants.{StillOpen, AlreadySettled, StillRunning, ShortBuffer, BadName, NoMark, TooManyMarks}
use Rattle.causes.specs.declared.Cause.TheVariants.{VerdictEmpty, BadLine, BadNumber, ForeignRecord}
use Rattle.causes.specs.Numbers.{number_of}

-- the first of some causes that has the number; another number is read as the last cause
abbrev pub cause_in : List Cause → ℕ → Cause
cause_in [] n = ForeignRecord
cause_in (c ∷ l) n = cond (eqb (number_of c) n) c (cause_in l n)

abbrev pub cause_of : ℕ → Cause
cause_of = cause_in (NotOpen ∷ UnknownKind ∷ CutShort ∷ HighState ∷ ZeroSet ∷ TooManyRows ∷ TooManySets ∷ AbsentRow ∷ StillOpen ∷ AlreadySettled
    ∷ StillRunning ∷ ShortBuffer ∷ BadName ∷ NoMark ∷ TooManyMarks ∷ VerdictEmpty ∷ BadLine ∷ BadNumber ∷ [])

pub cause_back : (c : Cause) → cause_of (number_of c) ≡ c
cause_back NotOpen = refl
cause_back UnknownKind = refl
cause_back CutShort = refl
cause_back HighState = refl
cause_back ZeroSet = refl
cause_back TooManyRows = refl
cause_back TooManySets = refl
cause_back AbsentRow = refl
cause_back StillOpen = refl
cause_back AlreadySettled = refl
cause_back StillRunning = refl
cause_back ShortBuffer = refl
cause_back BadName = refl
cause_back NoMark = refl
cause_back TooManyMarks = refl
cause_back VerdictEmpty = refl
cause_back BadLine = refl
cause_back BadNumber = refl
cause_back ForeignRecord = refl

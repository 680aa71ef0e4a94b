-- Document 01, "Causes and numbers", and the requests: the number of each cause.
use Rattle.std.specs.Prelude.{ℕ}
use Rattle.causes.specs.declared.Cause.{Cause}
use Rattle.causes.specs.declared.Cause.TheVariants.{NotOpen, UnknownKind, CutShort, HighState, ZeroSet, TooManyRows, TooManySets, AbsentRow}
use Rattle.causes.specs.declared.Cause.TheVariants.{StillOpen, AlreadySettled, StillRunning, ShortBuffer, BadName, NoMark, TooManyMarks}
use Rattle.causes.specs.declared.Cause.TheVariants.{VerdictEmpty, BadLine, BadNumber, ForeignRecord}

abbrev pub number_of : Cause → ℕ
number_of NotOpen = 1
number_of UnknownKind = 2
number_of CutShort = 3
number_of HighState = 4
number_of ZeroSet = 5
number_of TooManyRows = 6
number_of TooManySets = 7
number_of AbsentRow = 8
number_of StillOpen = 9
number_of AlreadySettled = 10
number_of StillRunning = 11
number_of ShortBuffer = 12
number_of BadName = 14
number_of NoMark = 15
number_of TooManyMarks = 16
number_of VerdictEmpty = 17
number_of BadLine = 20
number_of BadNumber = 21
number_of ForeignRecord = 24

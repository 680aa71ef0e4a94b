-- What parsing promises: the call is the meaning, and the batch or the name is in the buffer.
use Rattle.std.specs.Prelude.{ℕ, ◌+◌, ◌≤◌, ◌<◌, ◌≡◌, ◌≢◌, List, length, take, get_or, Option, Some, None, Result, Ok, Err}
use Rattle.commands.specs.declared.Call.{Call}
use Rattle.commands.specs.declared.Call.TheVariants.{Changes, Reports, Moves, Names}
use Rattle.commands.specs.declared.NoCall.{NoCall}
use Rattle.commands.specs.declared.NoCall.TheVariants.{Nothing, BadHex, TooLong, Unknown}
use Rattle.commands.specs.Digits.{encoded}
use Rattle.commands.specs.Meaning.{Meaning, change, report, move, named, nothing, bad_hex, too_long, unknown, longest, with_text}

-- the first n bytes lie within the buffer, which is said twice, as a caller that lends them is asked both
pub record FitsIn (n : ℕ) (buffer : List ℕ) : Type 0 where
  pub fits : n ≤ length buffer
  pub counted : n ≡ length (take n buffer)

-- for a batch or a name its bytes stand at the start of the buffer
abbrev pub Means : Meaning → List ℕ → Result Call NoCall → Type 0
Means meant buffer (Ok (Changes call n)) = FitsIn n buffer × (meant ≡ change call (take n buffer))
Means meant buffer (Ok (Reports call n)) = (n ≤ longest call) × (meant ≡ report call n)
Means meant buffer (Ok (Moves call)) = meant ≡ move call
Means meant buffer (Ok (Names call n)) = FitsIn n buffer × (meant ≡ named call (take n buffer))
Means meant buffer (Err Nothing) = meant ≡ nothing
Means meant buffer (Err BadHex) = meant ≡ bad_hex
Means meant buffer (Err TooLong) = meant ≡ too_long
Means meant buffer (Err Unknown) = meant ≡ unknown

-- the same where the buffer is not at hand: it holds any bytes
abbrev pub Asks : Meaning → Result Call NoCall → Type 0
Asks meant r = (buffer : List ℕ) → Means meant buffer r

-- the first space stands there, or there is none
abbrev pub FindsSpace : List ℕ → Option ℕ → Type 0
FindsSpace l None = (k : ℕ) → k < length l → get_or l k 0 ≢ 32
FindsSpace l (Some i) = (i < length l) × (get_or l i 0 ≡ 32) × ((k : ℕ) → k < i → get_or l k 0 ≢ 32)

-- a word with a text behind it, whatever the word means
abbrev pub Extends : Call → ℕ → List ℕ → List ℕ → Result Call NoCall → Type 0
Extends word room text buffer r = (meant : Meaning) → Asks meant (Ok word) → Means (with_text meant room text) buffer r

-- the digits of the bytes stand at the start of the text
pub record Encodes (l new : List ℕ) (n : ℕ) : Type 0 where
  pub holds : FitsIn n new
  pub digits_are : take n new ≡ encoded l

-- where there is room for them; else the text stays as it is, and nothing is counted
pub record EncodesIn (l old new : List ℕ) (n : ℕ) : Type 0 where
  pub within : FitsIn n new
  pub written : length l + length l ≤ length old → take n new ≡ encoded l
  pub short : length old < length l + length l → (new ≡ old) × (n ≡ 0)

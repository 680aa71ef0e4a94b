-- What one call leaves: the outcome as a number, a place and a buffer.
use Rattle.std.specs.Prelude.{ℕ, ◌⊎◌, cond, List, ltb, length}
use Rattle.rows.specs.declared.Row.{Row}
use Rattle.rows.specs.Rows.{batch_of}
use Rattle.machine.specs.Calls.{refused, written}
use Rattle.machine.specs.Program.{outcome, batch_verdict, batch_expression}
use Rattle.codes.specs.Coding.{Coded, CodedIn}
use Rattle.hoa_files.specs.Files.{FileCause}
use Rattle.hoa_files.specs.Promise.{HasTable}

-- what one call leaves, of the plain machine's outcome for that batch and that length of buffer
abbrev pub Called : List ℕ → List ℕ → List ℕ → ℕ → ℕ → ℕ → Type 0
Called batch old new before after r = CodedIn (outcome batch (length old)) old new before after r

-- what one call for a verdict leaves
abbrev pub CalledVerdict : List ℕ → ℕ → ℕ → ℕ → Type 0
CalledVerdict batch before after r = Coded (batch_verdict batch) before after r

-- the bytes that are lent of a buffer of that length: 2^32 - 1 at most, so that the length of every text that fits is below the codes of refusals
abbrev pub lent : ℕ → ℕ
lent size = cond (ltb 4294967295 size) 4294967295 size

-- what one call for an expression leaves, of the plain machine's outcome for that batch and for the bytes lent; the buffer is the whole one
abbrev pub CalledExpression : List ℕ → List ℕ → List ℕ → ℕ → ℕ → ℕ → Type 0
CalledExpression batch old new before after r = CodedIn (batch_expression batch (lent (length old))) old new before after r

-- what one call for an HOA file leaves: its rows as a batch, or its cause; every file has the one or the other
pub record CalledHoa (file old new : List ℕ) (before after r : ℕ) : Type 0 where
  pub some_outcome : ((rows : List Row) × HasTable file rows) ⊎ ((n : ℕ) × ((place : ℕ) × FileCause file n place))
  pub accepted : (rows : List Row) → HasTable file rows → CodedIn (written (length old) (batch_of rows)) old new before after r
  pub refuses : (n place : ℕ) → FileCause file n place → CodedIn (refused n place) old new before after r

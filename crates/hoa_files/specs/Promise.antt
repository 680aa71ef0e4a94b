-- Request C-21: the promise of the call, and what the program writes.
use Rattle.std.specs.Prelude.{ℕ, ◌≤◌, ◌<◌, ◌≡◌, ◌⊎◌, List, length, take}
use Rattle.lists.specs.Writing.{Wrote}
use Rattle.rows.specs.declared.Row.{Row}
use Rattle.rows.specs.Rows.{batch_of}
use Rattle.machine.specs.Text.{text}
use Rattle.machine.specs.Sheet.{line}
use Rattle.machine.specs.Program.{refusal_line}
use Rattle.machine.specs.Calls.{Answer, refused, Tells, TellsText}
use Rattle.hoa_files.specs.declared.Converted.{Converted}
use Rattle.hoa_files.specs.Automata.{Buchi}
use Rattle.hoa_files.specs.Files.{IsFileOf, FileCause}
use Rattle.hoa_files.specs.Tables.{RowsOf}

-- the bytes are the file of a readable automaton that has these rows
pub record HasTable (l : List ℕ) (rows : List Row) : Type 0 where
  pub automaton : Buchi
  pub file_is : IsFileOf l automaton
  pub rows_are : RowsOf automaton rows

-- every file has its rows or a cause, and not both
pub record Converts (l old new : List ℕ) (r : Answer) : Type 0 where
  pub some_outcome : ((rows : List Row) × HasTable l rows) ⊎ ((n : ℕ) × ((place : ℕ) × FileCause l n place))
  -- its rows are written as a batch in save's way: the length, or 12 where the buffer is too short
  pub accepted : (rows : List Row) → HasTable l rows → TellsText (batch_of rows) old new r
  -- the cause is told, and the buffer is as it was
  pub refuses : (n place : ℕ) → FileCause l n place → Tells (refused n place) old new r

-- the longest file that the program takes
abbrev pub longest_file : ℕ
longest_file = 65536

-- what the program writes for each input: `too long`, the line of the cause, or the batch
pub data HoaWrites (l : List ℕ) : List ℕ → Type 0 where
  too_long : longest_file < length l → HoaWrites l (line (text "too long"))
  refusal : (n place : ℕ) → length l ≤ longest_file → FileCause l n place → HoaWrites l (refusal_line n place)
  batch : (rows : List Row) → length l ≤ longest_file → HasTable l rows → HoaWrites l (batch_of rows)

-- it stands at the start of the buffer
abbrev pub WritesShown : List ℕ → List ℕ → List ℕ → ℕ → Type 0
WritesShown l old new r = (t : List ℕ) × HoaWrites l t × Wrote t old new r

-- the text is what it writes, and no other is
pub record Shows (l : List ℕ) (r : Converted) : Type 0 where
  pub within : r.length ≤ length r.text
  pub is : HoaWrites l (take r.length r.text)
  pub only : (t : List ℕ) → HoaWrites l t → t ≡ take r.length r.text

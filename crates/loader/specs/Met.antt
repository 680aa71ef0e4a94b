-- What the arrays hold of the rows that were met, before anything is struck.
use Rattle.std.specs.Prelude.{ℕ, ◌<◌, ◌≡◌, ◌⊎◌, ◌↔◌, List, [], length, get_or, Result, Ok, Err}
use Rattle.causes.specs.declared.Cause.{Cause}
use Rattle.causes.specs.Numbers.{number_of}
use Rattle.lists.specs.Tests.{◌among◌}
use Rattle.rows.specs.declared.Row.{Row}
use Rattle.rows.specs.declared.Row.TheVariants.{Successor}
use Rattle.rows.specs.Rows.{SetOf, standing_sets}
use Rattle.rows.specs.Keys.{high}
use Rattle.rows.specs.Reading.{read_row}
use Rattle.rows.specs.Batch.{stop, feed}
use Rattle.machine.specs.declared.Refusal.{Refusal}
use Rattle.machine.specs.Machine.{load_row}
use Rattle.search.specs.Graph.{part, Unindexed}
use Rattle.row_table.specs.Arrays.{Comes}
use Rattle.row_table.specs.Promise.{GoesTo, OfTables}
use Rattle.automaton.specs.Passed.{Passed}
use Rattle.loader.specs.declared.Loading.{Loading}
use Rattle.loader.specs.Arrays.{WordAt, SetAt, Ready}

-- w is the word of a letter row
abbrev pub LetterWord : List Row → ℕ → Type 0
LetterWord rows w = (a x t : ℕ) × (w ≡ high (Successor a x t)) × Successor a x t among rows

-- the graph has the masks of the rows, its sets in the order met, none twice; the words are those of the letter rows; the counts are theirs
pub record Met (graph words : List ℕ) (m : Loading) (rows : List Row) : Type 0 where
  pub row_count : m.row_count ≡ length rows
  pub set_count : m.sets.count ≡ length (standing_sets rows)
  pub passed : Passed (Unit {0}) (part graph 64) m.sets.count rows graph m.seen.initials m.seen.finals m.seen.struck
  pub bare : Unindexed graph m.sets.count
  pub apart : (i j : ℕ) → i < m.sets.count → j < m.sets.count → get_or (part graph 64) i 0 ≡ get_or (part graph 64) j 0 → i ≡ j
  pub sets_are : (P : ℕ) → SetOf rows P ↔ ((i : ℕ) × SetAt graph m.sets.count P i)
  pub words_are : (w : ℕ) → WordAt words m.letters.count w ↔ LetterWord rows w
  pub ready : Ready graph words m

-- the row at the head of the bytes leads from a table that the arrays held to one that they hold, or it is refused
abbrev pub Takes : List ℕ → (List Row → Type 0) → (List Row → Type 0) → Result ℕ Cause → Type 0
Takes l Was Has (Ok len) = (r : Row) × (read_row l ≡ Ok (r, len)) × OfTables r Was (λ rows. GoesTo load_row r rows Has)
Takes l Was Has (Err c) = (read_row l ≡ Err c) ⊎ ((r : Row) × (len : ℕ) × (read_row l ≡ Ok (r, len)) × OfTables r Was (λ rows. load_row r rows ≡ stop (number_of c)))

-- a batch loaded into no rows
abbrev pub LoadsRows : List ℕ → List ℕ → List ℕ → Loading → Result (Unit {0}) Refusal → Type 0
LoadsRows batch graph words m r = Comes (λ u. Met graph words m) (feed load_row [] batch) r

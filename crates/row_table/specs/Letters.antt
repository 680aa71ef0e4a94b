-- The letter rows of a table as words, in any order.
use Rattle.std.specs.Prelude.{ℕ, ◌<◌, ◌≡◌, ◌↔◌, List, get_or}
use Rattle.lists.specs.Tests.{◌among◌}
use Rattle.rows.specs.declared.Row.{Row}
use Rattle.rows.specs.declared.Row.TheVariants.{Successor}
use Rattle.rows.specs.Keys.{row_from}

-- the word at place j is that of a letter row from a by x to t; the second word of a letter row's key says nothing
abbrev pub LetterRow : List ℕ → ℕ → ℕ → ℕ → ℕ → Type 0
LetterRow words a j x t = row_from (get_or words j 0) 0 ≡ Successor a x t

-- one of the first n words is
abbrev pub LetterAt : List ℕ → ℕ → ℕ → ℕ → ℕ → Type 0
LetterAt words n a x t = (j : ℕ) × (j < n) × LetterRow words a j x t

-- the first n words are those of the letter rows, and perhaps of rows of other kinds
pub record LettersIn (rows : List Row) (words : List ℕ) (n : ℕ) : Type 0 where
  pub letter_iff : (a x t : ℕ) → (LetterAt words n a x t) ↔ (Successor a x t among rows)

-- Request C-21, "20 before 21, line by line": which bytes are a file, and what refuses those that are none.
use Rattle.std.specs.Prelude.{ℕ, ◌≡◌, List, [], ◌∷◌, ◌++◌, length}
use Rattle.lists.specs.Tests.{gather}
use Rattle.machine.specs.Sheet.{line}
use Rattle.hoa_files.specs.Automata.{Buchi, lines, file_text, Readable}

-- the bytes are the file of the automaton, which is readable
abbrev pub IsFileOf : List ℕ → Buchi → Type 0
IsFileOf l h = Readable h × (l ≡ file_text h)

-- lines of the form, in order: those with which the file of some automaton begins, whatever its numbers
abbrev pub OfTheForm : List (List ℕ) → Type 0
OfTheForm ls = (h : Buchi) × ((later : List (List ℕ)) × (lines h ≡ ls ++ later))

-- and none with a number that may not stand there: those with which the file of a readable one begins
abbrev pub WithoutCause : List (List ℕ) → Type 0
WithoutCause ls = (h : Buchi) × Readable h × ((later : List (List ℕ)) × (lines h ≡ ls ++ later))

-- the first line with a cause, behind lines without one: the place is where what is found there begins
pub data FileCause (l : List ℕ) : ℕ → ℕ → Type 0 where
  -- 20: a line of another form, missing or after the end, or a `State` line out of turn: none that could come next is found there
  other_form : (before : List (List ℕ)) (rest : List ℕ) → l ≡ gather line before ++ rest → WithoutCause before → ((h : Buchi) → ¬ IsFileOf l h)
      → ((next : List ℕ) (more : List ℕ) → rest ≡ line next ++ more → ¬ OfTheForm (before ++ (next ∷ []))) → FileCause l 20 (length (gather line before))
  -- 21: not one to six states, or a number outside them, in a line of the form
  number_outside : (before : List (List ℕ)) (next more : List ℕ) → l ≡ gather line before ++ (line next ++ more) → WithoutCause before
      → OfTheForm (before ++ (next ∷ [])) → ¬ WithoutCause (before ++ (next ∷ [])) → FileCause l 21 (length (gather line before))

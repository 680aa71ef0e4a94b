-- What the checker promises: document 01's "Sheets to check", on slices, and the same for verdicts and expressions.
use Rattle.std.specs.Prelude.{ℕ, ◌≤◌, ◌≡◌, List, [], length, take}
use Rattle.rows.specs.declared.Row.{Row}
use Rattle.machine.specs.Machine.{longest_sheet, Machine, open_with}
use Rattle.machine.specs.Calls.{Answer, verdict, print, expression, Outcome, call, run, settle, Tells}
use Rattle.machine.specs.Program.{after_load, outcome, batch_verdict, batch_expression, program}
use Rattle.row_table.specs.Letters.{LettersIn}
use Rattle.search.specs.Graph.{Graph}
use Rattle.rounds.specs.Promises.{Given}
use Rattle.loader.specs.declared.LoadedGraph.{LoadedGraph}
use Rattle.checker.specs.declared.Output.{Output}
use Rattle.checker.specs.declared.Asked.{Asked}
use Rattle.checker.specs.declared.Asked.TheVariants.{Sheet, Expression, Verdict}

-- the rows that a graph, the words of letter rows and what a load has beside them are of
pub record LoadedFrom (g : Graph) (letters : List ℕ) (loaded : LoadedGraph) (rows : List Row) : Type 0 where
  pub given : Given rows g loaded.points.initials loaded.points.finals loaded.set_count
  pub letters_in : LettersIn rows letters loaded.letter_count

-- the answer and the buffer are those of the machine with the rows that the masks are of, closed, settled and printed
abbrev pub Finishes : Graph → List ℕ → LoadedGraph → List ℕ → List ℕ → Answer → Type 0
Finishes g letters loaded old new r = (rows : List Row) → LoadedFrom g letters loaded rows
    → Tells (call (run (open_with rows) settle) (print (length old))).answer old new r

-- the same, asked for its expression
abbrev pub Expresses : Graph → List ℕ → LoadedGraph → List ℕ → List ℕ → Answer → Type 0
Expresses g letters loaded old new r = (rows : List Row) → LoadedFrom g letters loaded rows
    → Tells (call (run (open_with rows) settle) (expression (length old))).answer old new r

-- what is asked of a machine, with a buffer of that size
abbrev pub asking : Asked → ℕ → Machine → Outcome
asking Sheet size = λ m. (call (run m settle) (print size)).answer
asking Expression size = λ m. (call (run m settle) (expression size)).answer
asking Verdict size = λ m. (call m verdict).answer

-- the answer and the buffer are those of the open machine with the rows that the masks are of
abbrev pub GivesAsked : Asked → Graph → List ℕ → LoadedGraph → List ℕ → List ℕ → Answer → Type 0
GivesAsked asked g letters loaded old new r = (rows : List Row) → LoadedFrom g letters loaded rows
    → Tells (asking asked (length old) (open_with rows)) old new r

-- the answer and the buffer are those of a fresh machine that loads the batch and is asked
abbrev pub AnswersAsked : Asked → List ℕ → List ℕ → List ℕ → Answer → Type 0
AnswersAsked asked batch old new r = Tells (after_load (asking asked (length old)) batch) old new r

-- the answer and the buffer are those of a fresh machine that loads the batch, closes, does rounds until settled and prints
abbrev pub Checks : List ℕ → List ℕ → List ℕ → Answer → Type 0
Checks batch old new r = Tells (outcome batch (length old)) old new r

-- the answer is that of a fresh machine that loads the batch and gives the verdict
abbrev pub GivesVerdict : List ℕ → Answer → Type 0
GivesVerdict batch r = Tells (batch_verdict batch) [] [] r

-- the answer and the buffer are those of a fresh machine that loads the batch, closes, does rounds until settled and writes its walk
abbrev pub GivesExpression : List ℕ → List ℕ → List ℕ → Answer → Type 0
GivesExpression batch old new r = Tells (batch_expression batch (length old)) old new r

-- a buffer that has room for every text which the program writes
abbrev pub Roomy : List ℕ → Type 0
Roomy buffer = longest_sheet ≤ length buffer

-- what the program writes stands at the start of the array. The count lies within it, which is said twice, as the caller that lends
-- those bytes is asked both
pub record Told (input : List ℕ) (r : Output) : Type 0 where
  pub text_is : take r.length r.text ≡ program input
  pub within : r.length ≤ length r.text
  pub count_is : r.length ≡ length (take r.length r.text)

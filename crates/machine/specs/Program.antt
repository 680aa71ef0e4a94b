-- Document 01, "Sheets to check": the program `sheet`, from the bytes of standard input to those of standard output.
use Rattle.std.specs.Prelude.{ℕ, ◌≤◌, ◌<◌, ◌≡◌, true, false, List, [], ◌++◌, ltb, length}
use Rattle.machine.specs.declared.Verdict.{Verdict}
use Rattle.machine.specs.declared.Verdict.TheVariants.{NonEmpty, Empty}
use Rattle.machine.specs.declared.Phase.TheVariants.{Settled}
use Rattle.machine.specs.Machine.{longest_sheet, longest_batch, Machine, fresh}
use Rattle.machine.specs.Text.{text, number_text}
use Rattle.machine.specs.Sheet.{line, sheet}
use Rattle.machine.specs.Word.{TellsWalk}
use Rattle.machine.specs.Calls.{load, verdict, print, expression, Outcome, done, wrote, decided, refused, call, run, settle, second}
use Rattle.machine.specs.Causes.{Cause}

-- a refusal prints the line `refused N at PLACE`
abbrev pub refusal_line : ℕ → ℕ → List ℕ
refusal_line n place = line (text "refused " ++ (number_text n ++ (text " at " ++ number_text place)))

abbrev pub shown : Outcome → List ℕ
shown done = []
shown (wrote l) = l
shown (decided v) = []
shown (refused n place) = refusal_line n place

-- what a machine goes on to answer after an accepted load
abbrev pub going_on : (Machine → Outcome) → Machine → Outcome → Outcome
going_on then m done = then m
going_on then m (wrote l) = wrote l
going_on then m (decided v) = decided v
going_on then m (refused n place) = refused n place

-- what one batch comes to, from a fresh machine: the refusal of its load, or what the machine then answers
unfoldable pub after_load : (Machine → Outcome) → List ℕ → Outcome
after_load then l = going_on then (call fresh (load l)).machine (call fresh (load l)).answer

-- it closes, does rounds until settled and prints into a buffer of that size
abbrev pub outcome : List ℕ → ℕ → Outcome
outcome l size = after_load (λ m. (call (run m settle) (print size)).answer) l

-- request C-22: it gives the verdict
abbrev pub batch_verdict : List ℕ → Outcome
batch_verdict l = after_load (λ m. (call m verdict).answer) l

-- request C-12: it closes, does rounds until settled and writes its walk as an expression into a buffer of that size
abbrev pub batch_expression : List ℕ → ℕ → Outcome
batch_expression l size = after_load (λ m. (call (run m settle) (expression size)).answer) l

-- one batch of at most 65,536 bytes; longer input prints the line `too long`
unfoldable pub program : List ℕ → List ℕ
program l = elim (ltb longest_batch (length l)) [ true ↦ line (text "too long") | false ↦ shown (outcome l longest_sheet) ]

-- what a batch that is asked for its verdict comes to: the cause that refuses it, or the verdict with which the second machine of its rows settles
pub data VerdictGiven (l : List ℕ) : Outcome → Type 0 where
  not_loaded : (n place : ℕ) → Cause fresh (load l) n place → VerdictGiven l (refused n place)
  settles_so : (m : Machine) (v : Verdict) → call fresh (load l) ≡ record { machine = m; answer = done } → (second m.rows).phase ≡ Settled v → VerdictGiven l (decided v)

-- what a batch that is asked for its expression comes to: the cause that refuses it; 17 where the second machine of its rows settles as empty;
-- else the bytes that tell the second machine's walk, where they fit, or 12
pub data ExpressionGiven (l : List ℕ) (size : ℕ) : Outcome → Type 0 where
  load_stops : (n place : ℕ) → Cause fresh (load l) n place → ExpressionGiven l size (refused n place)
  no_word : (m : Machine) → call fresh (load l) ≡ record { machine = m; answer = done } → (second m.rows).phase ≡ Settled Empty → ExpressionGiven l size (refused 17 0)
  tells_so : (m : Machine) (bytes : List ℕ) → call fresh (load l) ≡ record { machine = m; answer = done } → (second m.rows).phase ≡ Settled NonEmpty → TellsWalk (second m.rows) bytes
      → length bytes ≤ size → ExpressionGiven l size (wrote bytes)
  does_not_fit : (m : Machine) (bytes : List ℕ) → call fresh (load l) ≡ record { machine = m; answer = done } → (second m.rows).phase ≡ Settled NonEmpty → TellsWalk (second m.rows) bytes
      → size < length bytes → ExpressionGiven l size (refused 12 0)

-- what the program writes for each input: `too long`, the line of the cause that refuses the batch, or the sheet of its rows
pub data ProgramWrites (l : List ℕ) : List ℕ → Type 0 where
  too_long : longest_batch < length l → ProgramWrites l (line (text "too long"))
  refusal : (n place : ℕ) → length l ≤ longest_batch → Cause fresh (load l) n place → ProgramWrites l (refusal_line n place)
  sheet_of : (m : Machine) (v : Verdict) → length l ≤ longest_batch → call fresh (load l) ≡ record { machine = m; answer = done } → (second m.rows).phase ≡ Settled v → ProgramWrites l (sheet v (second m.rows))

-- What printing promises, of every machine whose rows, graph and rounds the arrays hold.
use Rattle.std.specs.Prelude.{ℕ, ◌≤◌, ◌≡◌, List, length, Option, None}
use Rattle.machine.specs.declared.Verdict.{Verdict}
use Rattle.machine.specs.declared.Verdict.TheVariants.{NonEmpty, Empty}
use Rattle.machine.specs.declared.Phase.TheVariants.{Settled}
use Rattle.machine.specs.Machine.{Machine, open_claims}
use Rattle.machine.specs.WellFormed.{WellFormed}
use Rattle.machine.specs.Calls.{Answer, print, call, Tells}
use Rattle.row_table.specs.Letters.{LettersIn}
use Rattle.search.specs.declared.Endpoints.{Endpoints}
use Rattle.search.specs.Graph.{Graph}
use Rattle.rounds.specs.declared.Progress.{Progress}
use Rattle.rounds.specs.Promises.{Given, Mirrors, vain}
use Rattle.walks.specs.declared.found.FoundWalk.{FoundWalk}
use Rattle.walks.specs.Walks.{Answers}

-- the walk that a verdict asks for: the one that the machine prints or none, and none where the machine is empty
abbrev pub Sought : Machine → Verdict → Option FoundWalk → Type 0
Sought m NonEmpty w = Answers m.rows (open_claims m) w
Sought m Empty w = w ≡ None

-- of every machine that the arrays hold
abbrev pub FindsWalk : Verdict → List ℕ → ℕ → ℕ → Graph → Endpoints → Progress → Option FoundWalk → Type 0
FindsWalk v words n k g points p w = (m : Machine) → WellFormed m → LettersIn m.rows words n → Given m.rows g points.initials points.finals k
    → Mirrors m p.loop_rounds p.mix_rounds p.phase p.rounds
    → Sought m v w

-- answer and buffer are those of the machine, settled with the verdict, after print
abbrev pub PrintsSheet : Verdict → List ℕ → ℕ → ℕ → Graph → Endpoints → Progress → List ℕ → List ℕ → Answer → Type 0
PrintsSheet v words n k g points p old new r = (m : Machine) → WellFormed m → m.phase ≡ Settled v → LettersIn m.rows words n
    → Given m.rows g points.initials points.finals k
    → Mirrors m p.loop_rounds p.mix_rounds p.phase p.rounds
    → Tells (call m (print (length old))).answer old new r

-- answer and buffer are those of every machine that a first round, which opened nothing, settled as empty
abbrev pub PrintsVain : List ℕ → List ℕ → Answer → Type 0
PrintsVain old new r = (words : List ℕ) (n k : ℕ) (g : Graph) (points : Endpoints) → k ≤ 64 → PrintsSheet Empty words n k g points vain old new r

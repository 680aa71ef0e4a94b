-- Document 01, "The sheet".
use Rattle.std.specs.Prelude.{ℕ, List, [], ◌∷◌, ◌++◌}
use Rattle.std.proofs.Math.Option.{Option, none, some}
use Rattle.lists.specs.Tests.{gather}
use Rattle.orderings.specs.Steps.{Claim, loops, mixes, Label, letter, ω, back, mix, Step}
use Rattle.machine.specs.declared.Verdict.{Verdict}
use Rattle.machine.specs.declared.Verdict.TheVariants.{NonEmpty, Empty}
use Rattle.machine.specs.Machine.{Opening, Machine, open_claims}
use Rattle.machine.specs.Order.{Found}
use Rattle.machine.specs.Search.{shortest}
use Rattle.machine.specs.Text.{text, set_text, number_text}

-- lines end with byte 10
abbrev pub line : List ℕ → List ℕ
line l = l ++ (10 ∷ [])

abbrev pub verdict_text : Verdict → List ℕ
verdict_text NonEmpty = text "nonempty"
verdict_text Empty = text "empty"

abbrev pub claim_text : Claim → List ℕ
claim_text (loops P) = text "loop " ++ set_text P
claim_text (mixes P) = text "mix " ++ set_text P

abbrev pub label_text : Label → List ℕ
label_text (letter a) = text "letter " ++ number_text a
label_text (ω P) = text "omega " ++ set_text P
label_text (back P) = text "back " ++ set_text P
label_text (mix P) = text "mix " ++ set_text P

-- verdict nonempty rounds K, or verdict empty rounds K
abbrev pub verdict_line : Verdict → ℕ → List ℕ
verdict_line v k = line (text "verdict " ++ (verdict_text v ++ (text " rounds " ++ number_text k)))

-- open K loop SET, or open K mix SET
abbrev pub opening_line : Opening → List ℕ
opening_line o = line (text "open " ++ (number_text o.round ++ (text " " ++ claim_text o.claim)))

-- start S
abbrev pub start_line : ℕ → List ℕ
start_line s = line (text "start " ++ number_text s)

-- step letter L to S, step omega SET to S, step back SET to S, or step mix SET to S
abbrev pub step_line : Step → List ℕ
step_line t = line (text "step " ++ (label_text t.label ++ (text " to " ++ number_text t.to)))

abbrev pub walk_lines : Option Found → List ℕ
walk_lines none = []
walk_lines (some f) = start_line f.start ++ gather step_line f.walk

-- if non-empty, the walk
abbrev pub last_lines : Verdict → Machine → List ℕ
last_lines NonEmpty m = walk_lines (shortest m.rows (open_claims m))
last_lines Empty m = []

unfoldable pub sheet : Verdict → Machine → List ℕ
sheet v m = verdict_line v m.rounds ++ (gather opening_line m.openings ++ last_lines v m)

-- What is printed, as the arrays have it.
use Rattle.std.specs.Prelude.{ℕ, List, ◌++◌, Option}
use Rattle.machine.specs.declared.Verdict.{Verdict}
use Rattle.machine.specs.Sheet.{verdict_line}
use Rattle.rounds.specs.declared.Progress.{Progress}
use Rattle.walks.specs.declared.found.FoundWalk.{FoundWalk}
use Rattle.sheet_parts.specs.Lines.{openings_text, walk_text}

-- the line of the verdict, those of the openings, and those of the walk, if there is one
abbrev pub sheet_text : Verdict → Progress → List ℕ → ℕ → Option FoundWalk → List ℕ
sheet_text v p sets k w = (verdict_line v p.rounds ++ openings_text p sets k) ++ walk_text w

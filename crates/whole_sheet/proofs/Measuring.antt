-- How long a sheet is: `verdict_short`, `openings_short`, `sheet_length`; from any arrays it is no longer than 6,400 bytes (`sheet_few`).
use Prim.Native.Nat.{ℕ, ◌+◌, ◌<◌, ◌≤◌}
use mathlib.Core.Path.{◌≡◌, ap}
use mathlib.Core.List.{List}
use native.Mathlib.Omega.{arith}
use lib.ListN.{length, length-append}
use Rattle.std.specs.Prelude.{Option, None, Some}
use Rattle.machine.specs.declared.Verdict.{Verdict}
use Rattle.machine.specs.declared.Verdict.TheVariants.{NonEmpty, Empty}
use Rattle.machine.specs.Sheet.{verdict_line}
use Rattle.machine.proofs.Text.{number_length}
use Rattle.rounds.specs.declared.Progress.{Progress}
use Rattle.walks.specs.declared.found.FoundWalk.{FoundWalk}
use Rattle.sheet_parts.specs.Lines.{openings_text, walk_text}
use Rattle.sheet_parts.proofs.Lines.{openings_lines, openings_few}
use Rattle.sheet_parts.proofs.Walks.{walk_few}
use Rattle.whole_sheet.specs.Text.{sheet_text}

pub verdict_short : (v : Verdict) (k : ℕ) → k < 256 → length (verdict_line v k) ≤ 28
verdict_short NonEmpty k h = simp length-append (omega (arith, number_length 3 k (omega arith) (omega arith)))
verdict_short Empty k h = simp length-append (omega (arith, number_length 3 k (omega arith) (omega arith)))

last_few : (w : Option FoundWalk) → length (walk_text w) ≤ 2400
last_few None = omega arith
last_few (Some w) = walk_few w

module _ (p : Progress) (sets : List ℕ) (k : ℕ) where
  -- two for each set
  pub openings_short : k ≤ 64 → p.rounds < 256 → length (openings_text p sets k) ≤ 3968
  openings_short few low = omega (
    arith,
    ap length (openings_lines p.loop_rounds p.mix_rounds sets k p.rounds),
    openings_few p.loop_rounds p.mix_rounds sets k p.rounds (omega arith),
    few,
  )

  pub sheet_length : (v : Verdict) (w : Option FoundWalk) → length (sheet_text v p sets k w) ≡ length (verdict_line v p.rounds) + length (openings_text p sets k) + length (walk_text w)
  sheet_length v w = simp length-append

  -- the verdict, two openings for each set, and 63 steps at most
  pub sheet_few : (v : Verdict) (w : Option FoundWalk) → k ≤ 64 → p.rounds < 256 → length (sheet_text v p sets k w) ≤ 6400
  sheet_few v w few low = omega (arith, sheet_length v w, verdict_short v p.rounds low, openings_short few low, last_few w)

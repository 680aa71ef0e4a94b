-- The sheet of a settled machine, as the arrays and the walk that was found give it.
use Prim.Native.Nat.{ℕ}
use mathlib.Core.Path.{◌≡◌, refl, ap, subst}
use mathlib.Core.List.{List, ◌++◌}
use Rattle.std.specs.Prelude.{Option, None, Some}
use Rattle.machine.specs.declared.Verdict.{Verdict}
use Rattle.machine.specs.declared.Verdict.TheVariants.{NonEmpty, Empty}
use Rattle.machine.specs.declared.Phase.TheVariants.{Settled}
use Rattle.machine.specs.Machine.{Machine, open_claims}
use Rattle.machine.specs.WellFormed.{Made, WellFormed}
use Rattle.machine.specs.Sheet.{verdict_line, walk_lines, last_lines, sheet}
use Rattle.row_table.specs.Arrays.{SetsIn}
use Rattle.rounds.specs.declared.Progress.{Progress}
use Rattle.rounds.specs.Promises.{Mirrors}
use Rattle.walks.specs.declared.found.FoundWalk.{FoundWalk}
use Rattle.walks.proofs.Answers.{answers_some, answers_none}
use Rattle.sheet_parts.specs.Lines.{openings_text, walk_text}
use Rattle.sheet_parts.proofs.Openings.{openings_are}
use Rattle.whole_sheet.specs.Promise.{Sought}

module _ (m : Machine) where
  last_are : (v : Verdict) (walk : Option FoundWalk) → Sought m v walk → last_lines v m ≡ walk_text walk
  last_are NonEmpty None a = ap walk_lines (answers_none m.rows (open_claims m) a)
  last_are NonEmpty (Some w) a = ap walk_lines (answers_some m.rows (open_claims m) w a)
  last_are Empty walk e = rw e refl

  -- the verdict, the openings and the walk
  pub sheet_is : WellFormed m → (sets : List ℕ) (k : ℕ) → SetsIn m.rows sets k → (p : Progress) → Mirrors m p.loop_rounds p.mix_rounds p.phase p.rounds
      → (v : Verdict) (walk : Option FoundWalk) → m.phase ≡ Settled v → Sought m v walk
      → sheet v m ≡ verdict_line v p.rounds ++ (openings_text p sets k ++ walk_text walk)
  unfolding sheet
  sheet_is w sets k is p kept v walk e sought =
      rw (kept.loops_are, kept.mixes_are, kept.count_is, openings_are m w (subst (Made m) e w.made) sets k is, last_are v walk sought)

-- What is promised of the writer, and of the call's work.
use Rattle.std.specs.Prelude.{ℕ, ◌+◌, ◌≤◌, ◌≡◌, List, length}
use Rattle.lists.specs.Writing.{Wrote, WroteAt}
use Rattle.machine.specs.declared.Verdict.TheVariants.{NonEmpty}
use Rattle.machine.specs.declared.Phase.TheVariants.{Settled}
use Rattle.machine.specs.Machine.{Machine}
use Rattle.machine.specs.WellFormed.{WellFormed}
use Rattle.machine.specs.Expression.{expression_of}
use Rattle.machine.specs.Calls.{Answer, TellsText}
use Rattle.row_table.specs.Letters.{LettersIn}
use Rattle.search.specs.declared.Endpoints.{Endpoints}
use Rattle.search.specs.Graph.{Graph}
use Rattle.rounds.specs.declared.Progress.{Progress}
use Rattle.rounds.specs.Promises.{Given, Mirrors}
use Rattle.tours.specs.declared.frames.Frame.{Frame}
use Rattle.tours.specs.Frames.{Held}
use Rattle.expression.specs.Texts.{shape_text}
use Rattle.expression.specs.Frames.{Noted, Frames}

-- a text from a place on where it fits; where not, nothing; within the buffer either way
pub record PutsAt (text old new : List ℕ) (at next : ℕ) : Type 0 where
  pub length_is : length new ≡ length old
  pub within : at ≤ length old → next ≤ length new
  pub written : at + length text ≤ length old → WroteAt text old new at next

-- the text of a frame, of every machine that the arrays hold, where it fits
abbrev pub PutsFrame : List ℕ → ℕ → Graph → ℕ → List ℕ → Frame → List ℕ → List ℕ → ℕ → Type 0
PutsFrame words n back k opened f old new r = (m : Machine) (g : Graph) → Held m g words n back k → Noted m opened → Frames m g k f
    → length (shape_text m f.shape f.set) ≤ length old → Wrote (shape_text m f.shape f.set) old new r

-- answer and buffer are those of the machine's expression, of every machine settled as non-empty that the arrays hold
abbrev pub ExpressesWalk : List ℕ → ℕ → ℕ → Graph → Endpoints → Progress → List ℕ → List ℕ → Answer → Type 0
ExpressesWalk words n k g points p old new r = (m : Machine) → WellFormed m → m.phase ≡ Settled NonEmpty → LettersIn m.rows words n
    → Given m.rows g points.initials points.finals k
    → Mirrors m p.loop_rounds p.mix_rounds p.phase p.rounds
    → TellsText (expression_of m) old new r

-- How long texts are, as far as they fit a buffer.
use Rattle.std.specs.Prelude.{ℕ, ◌+◌, ◌≤◌, ◌<◌, ◌≡◌, List, length, get_or, Option, None, Some}
use Rattle.masks.specs.Mask.{◌∈◌}
use Rattle.orderings.specs.Steps.{Label, ω, back, mix, needs}
use Rattle.orderings.specs.Systems.{InForce}
use Rattle.orderings.specs.Decide.{step}
use Rattle.machine.specs.declared.Step as Code
use Rattle.machine.specs.declared.StepLabel.{StepLabel}
use Rattle.machine.specs.declared.StepLabel.TheVariants.{Letter, Omega, Back, Mix}
use Rattle.machine.specs.Machine.{Machine}
use Rattle.machine.specs.Text.{text, number_text}
use Rattle.machine.specs.Expression.{round_of, part}
use Rattle.search.specs.Graph.{Graph}
use Rattle.tours.specs.declared.frames.Shape.TheVariants.{Tour, Pieces}
use Rattle.tours.specs.declared.frames.Frame.{Frame}
use Rattle.tours.specs.Frames.{Held}
use Rattle.expression.specs.Texts.{shape_text}
use Rattle.expression.specs.Frames.{Noted, Frames, Goes, AtPlace}

-- the length is n, which is at most the buffer's; or n is more
abbrev pub Measured : ℕ → ℕ → Option ℕ → Type 0
Measured most n (Some r) = (r ≡ n) × (n ≤ most)
Measured most n None = most < n

-- the texts of the claims opened before a round, by place: of a tour, from whatever state
pub record Known (m : Machine) (g : Graph) (k : ℕ) (opened : List ℕ) (round most : ℕ) (bytes : List (Option ℕ)) : Type 0 where
  pub tours : (i q : ℕ) → i < k → 0 < get_or opened i 0 → get_or opened i 0 < round → q ∈ get_or g.sets i 0
      → Measured most (length (shape_text m (Tour q) (get_or g.sets i 0))) (get_or bytes i None)
  pub pieces : (i : ℕ) → i < k → 0 < get_or opened (64 + i) 0 → get_or opened (64 + i) 0 < round
      → Measured most (length (shape_text m Pieces (get_or g.sets i 0))) (get_or bytes (64 + i) None)

-- a text more
abbrev pub Adds : ℕ → List ℕ → Option ℕ → Option ℕ → Type 0
Adds most text old new = (x : ℕ) → Measured most x old → Measured most (x + length text) new

-- what is written for a step by a claim, of every machine that the arrays hold, where the text of the claim is known
abbrev pub AddsLimit : Graph → ℕ → List (Option ℕ) → ℕ → Label → ℕ → Option ℕ → Option ℕ → Type 0
AddsLimit b k bytes most l to old new = (m : Machine) (g : Graph) (words opened : List ℕ) (n round a : ℕ)
    → Held m g words n b k → Noted m opened → Known m g k opened round most bytes
    → Goes m a l to → InForce (λ c. round_of m.openings c < round) (needs l)
    → Adds most (part m.rows m.openings m.rounds (step a l to)) old new

abbrev pub AddsLabel : Graph → ℕ → List (Option ℕ) → ℕ → StepLabel → ℕ → Option ℕ → Option ℕ → Type 0
AddsLabel b k bytes most (Letter x) to old new = Adds most (number_text x) old new
AddsLabel b k bytes most (Omega P) to old new = AddsLimit b k bytes most (ω P) to old new
AddsLabel b k bytes most (Back P) to old new = AddsLimit b k bytes most (back P) to old new
AddsLabel b k bytes most (Mix P) to old new = AddsLimit b k bytes most (mix P) to old new

-- for a step, or none
abbrev pub AddsStep : Graph → ℕ → List (Option ℕ) → ℕ → Option Code.Step → Option ℕ → Option ℕ → Type 0
AddsStep b k bytes most None old new = Adds most (text "e") old new
AddsStep b k bytes most (Some t) old new = AddsLabel b k bytes most t.label t.to old new

-- the text of a frame, where those of the claims opened before its round are known
abbrev pub MeasuresFrame : List ℕ → ℕ → Graph → ℕ → List (Option ℕ) → Frame → ℕ → Option ℕ → Type 0
MeasuresFrame words n b k bytes f most r = (m : Machine) (g : Graph) (opened : List ℕ) → Held m g words n b k → Noted m opened → Frames m g k f
    → Known m g k opened f.round most bytes → Measured most (length (shape_text m f.shape f.set)) r

-- that of the claim at a place of the array
abbrev pub MeasuresPlace : List ℕ → ℕ → Graph → ℕ → List ℕ → List (Option ℕ) → ℕ → ℕ → Option ℕ → Type 0
MeasuresPlace words n b k opened bytes slot most r = (m : Machine) (g : Graph) → Held m g words n b k → Noted m opened → 0 < get_or opened slot 0
    → (f : Frame) × Frames m g k f × AtPlace g slot f × (Known m g k opened f.round most bytes → Measured most (length (shape_text m f.shape f.set)) r)

-- the texts of the claims opened in a round too
abbrev pub NotesRound : List ℕ → ℕ → Graph → ℕ → List ℕ → ℕ → ℕ → List (Option ℕ) → List (Option ℕ) → Type 0
NotesRound words n b k opened round most old new = (m : Machine) (g : Graph) → Held m g words n b k → Noted m opened
    → Known m g k opened round most old → Known m g k opened (round + 1) most new

-- the texts of all claims
abbrev pub NotesAll : List ℕ → ℕ → Graph → ℕ → List ℕ → ℕ → ℕ → List (Option ℕ) → Type 0
NotesAll words n b k opened rounds most bytes = (m : Machine) (g : Graph) → Held m g words n b k → Noted m opened
    → rounds ≡ m.rounds → Known m g k opened 130 most bytes

-- The text of each part, and of what is written out for the walk, for a tour and for pieces.
use Rattle.std.specs.Prelude.{ℕ, List, [], ◌∷◌, ◌++◌, Option, None, Some}
use Rattle.std.proofs.Math.Option as Math
use Rattle.lists.specs.Tests.{gather}
use Rattle.orderings.specs.Steps.{Label, letter, ω, back, mix, Step}
use Rattle.machine.specs.declared.Step as Code
use Rattle.machine.specs.Labels.{label_of}
use Rattle.machine.specs.Machine.{Machine}
use Rattle.machine.specs.Text.{text, number_text}
use Rattle.machine.specs.Expression.{part}
use Rattle.tours.specs.declared.frames.Shape.{Shape}
use Rattle.tours.specs.Frames.{legs}
use Rattle.tours.specs.Parts.{Part, parts_of, separator}

-- the byte before a part, if one stands there
abbrev pub before_text : Option ℕ → List ℕ
before_text None = []
before_text (Some c) = c ∷ []

-- a step; `e` where there is none
abbrev pub step_text : (Step → List ℕ) → Math.Option Step → List ℕ
step_text R Math.none = text "e"
step_text R (Math.some t) = R t

abbrev pub part_text : (Step → List ℕ) → Part → List ℕ
part_text R p = before_text p.before ++ step_text R p.step

-- the parts of the walk, of a tour of P or of its pieces, one after another
abbrev pub shape_text : Machine → Shape → ℕ → List ℕ
shape_text m shape P = gather (part_text (part m.rows m.openings m.rounds)) (parts_of None (separator shape) (legs m shape P))

-- what stands before the text within a step, and behind it
abbrev pub label_open : Label → List ℕ
label_open (letter a) = number_text a
label_open (ω P) = text "("
label_open (back P) = text "("
label_open (mix P) = text "sh("

abbrev pub label_close : Label → List ℕ
label_close (letter a) = []
label_close (ω P) = text ")w"
label_close (back P) = text ")v"
label_close (mix P) = text ")"

-- of a step as the code has it, with the byte before it
abbrev pub open_text : Option ℕ → Option Code.Step → List ℕ
open_text c None = before_text c ++ text "e"
open_text c (Some t) = before_text c ++ label_open (label_of t.label)

abbrev pub close_text : Option Code.Step → List ℕ
close_text None = []
close_text (Some t) = label_close (label_of t.label)

-- The lines of a walk: its start's, then step by step (`walk_is`), and how long they are (`walk_length`, `start_short`, `step_short`, `steps_few`, `walk_few`).
use Prim.Native.Nat.{ℕ, ◌+◌, ◌*◌, ◌≤◌, ◌<◌}
use mathlib.Core.Path.{◌≡◌, refl, ap, ◌∙◌}
use mathlib.Core.Option.{some}
use mathlib.Core.List.Memᴰ
use mathlib.Core.List.{List, [], ◌∷◌, ◌++◌}
use native.Mathlib.Omega.{arith}
use lib.ListN.{length, take, length-append, length-take}
use Rattle.lists.specs.Tests.{gather, ◌among◌}
use Rattle.machine.specs.declared.Step.{Step}
use Rattle.machine.specs.declared.StepLabel.{StepLabel}
use Rattle.machine.specs.declared.StepLabel.TheVariants.{Letter, Omega, Back, Mix}
use Rattle.machine.specs.Labels.{label_of, step_from}
use Rattle.machine.specs.Sheet.{label_text, start_line, step_line, walk_lines}
use Rattle.machine.proofs.Text.{number_length, hex_length}
use Rattle.walks.specs.declared.found.FoundWalk.{FoundWalk}
use Rattle.walks.specs.Found.{LeadLow, ByteLetters}
use Rattle.walks.specs.Walks.{walk_from, as_found}

-- the line of a step does not show where it starts
abbrev pub step_text : Step → List ℕ
step_text t = step_line (step_from 0 t)

-- the lines of steps
abbrev pub steps_text : List Step → List ℕ
steps_text l = gather step_text l

steps_lines : (p : ℕ) (l : List Step) → gather step_line (walk_from p l) ≡ steps_text l
steps_lines p [] = refl
steps_lines p (t ∷ l) = ap (λ (k : List ℕ). step_text t ++ k) (steps_lines t.to l)

-- the lines of a walk: its start, and then step by step
pub walk_is : (w : FoundWalk) → walk_lines (some (as_found w)) ≡ start_line w.start ++ steps_text (take w.count w.steps)
walk_is w = ap (λ (k : List ℕ). start_line w.start ++ k) (steps_lines w.start (take w.count w.steps))

pub walk_length : (w : FoundWalk) → length (walk_lines (some (as_found w))) ≡ length (start_line w.start) + length (steps_text (take w.count w.steps))
walk_length w = ap length (walk_is w) ∙ length-append (start_line w.start) (steps_text (take w.count w.steps))

-- ---- how long they are

pub start_short : (s : ℕ) → s < 256 → length (start_line s) ≤ 10
start_short s h = simp length-append (omega (arith, number_length 3 s (omega arith) (omega arith)))

-- a letter is a byte
abbrev pub LowLabel : StepLabel → Type 0
LowLabel (Letter a) = a < 256
LowLabel (Omega P) = Unit {0}
LowLabel (Back P) = Unit {0}
LowLabel (Mix P) = Unit {0}

label_short : (l : StepLabel) → LowLabel l → length (label_text (label_of l)) ≤ 22
label_short (Letter a) h = omega (arith, number_length 3 a (omega arith) (omega arith))
label_short (Omega P) h = omega (arith, hex_length 16 P)
label_short (Back P) h = omega (arith, hex_length 16 P)
label_short (Mix P) h = omega (arith, hex_length 16 P)

pub step_short : (t : Step) → LowLabel t.label → t.to < 256 → length (step_text t) ≤ 36
step_short t l h = simp length-append (omega (arith, number_length 3 t.to (omega arith) (omega arith), label_short t.label l))

low_label : (l : StepLabel) → ((a : ℕ) → l ≡ Letter a → a < 256) → LowLabel l
low_label (Letter a) h = h a refl
low_label (Omega P) h = tt
low_label (Back P) h = tt
low_label (Mix P) h = tt

-- 36 bytes to a step at most
pub steps_few : (l : List Step) → LeadLow l → ByteLetters l → length (steps_text l) ≤ 36 * length l
steps_few [] h b = omega arith
steps_few (t ∷ l) h b = let m : t among (t ∷ l) = Memᴰ.head refl in
    rw length-append (omega (arith, steps_few l (λ s n. h s (Memᴰ.tail n)) (λ s n. b s (Memᴰ.tail n)), step_short t (low_label t.label (b t m)) (omega (arith, h t m))))

-- no walk has more bytes
pub walk_few : (w : FoundWalk) → length (walk_lines (some (as_found w))) ≤ 2400
walk_few w = omega (arith, walk_length w, start_short w.start (omega (arith, w.low)), steps_few (take w.count w.steps) w.lead_low w.byte_letters, length-take w.count w.steps, w.few)

-- Steps that lead to states; steps whose letters are bytes.
use Rattle.std.specs.Prelude.{ℕ, ◌<◌, ◌≡◌, List}
use Rattle.lists.specs.Tests.{◌among◌}
use Rattle.machine.specs.declared.StepLabel.TheVariants.{Letter}
use Rattle.machine.specs.declared.Step.{Step}

abbrev pub LeadLow : List Step → Type 0
LeadLow l = (t : Step) → t among l → t.to < 64

abbrev pub ByteLetters : List Step → Type 0
ByteLetters l = (t : Step) → t among l → (a : ℕ) → t.label ≡ Letter a → a < 256

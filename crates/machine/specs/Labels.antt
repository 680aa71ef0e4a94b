-- Steps of walks as the code has them, which do not say where they start, and claims.
use Rattle.std.specs.Prelude.{ℕ}
use Rattle.orderings.specs.Steps.{loops, mixes, letter, ω, back, mix}
use Rattle.orderings.specs.Steps as Steps
use Rattle.machine.specs.declared.StepLabel.{StepLabel}
use Rattle.machine.specs.declared.StepLabel.TheVariants.{Letter, Omega, Back, Mix}
use Rattle.machine.specs.declared.Step.{Step}
use Rattle.machine.specs.declared.Claim.{Claim}
use Rattle.machine.specs.declared.Claim.TheVariants.{Loops, Mixes}

abbrev pub claim_of : Claim → Steps.Claim
claim_of (Loops P) = loops P
claim_of (Mixes P) = mixes P

abbrev pub label_of : StepLabel → Steps.Label
label_of (Letter a) = letter a
label_of (Omega P) = ω P
label_of (Back P) = back P
label_of (Mix P) = mix P

-- the step from a state on
abbrev pub step_from : ℕ → Step → Steps.Step
step_from p t = record { from = p; label = label_of t.label; to = t.to }

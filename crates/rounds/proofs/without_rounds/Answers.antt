-- `without_rounds` meets its contract.
use mathlib.Core.Path.{ap}
use lib.ListN.{replicate}
use Rattle.machine.specs.declared.Phase.{Phase}
use Rattle.rounds.specs.declared.Progress.{Progress}
use Rattle.rounds.proofs.without_rounds.Goals as goal

pub returns : goal.returns
returns c = ap {B = Progress} (λ (p : Phase). record { loop_rounds = replicate 64 0; mix_rounds = replicate 64 0; phase = p; rounds = 0 }) c.judge-phase.ensures

-- `close` meets its contract.
use mathlib.Core.Path.{sym, subst}
use Rattle.machine.specs.Machine.{closed}
use Rattle.rounds.specs.declared.Progress.{Progress}
use Rattle.rounds.specs.Promises.{Mirrors}
use Rattle.rounds.proofs.Settled.{closed_letters}
use Rattle.rounds.proofs.close.Goals as goal

pub returns : goal.returns
returns c m g =
    subst (λ (r : Progress). Mirrors (closed m) r.loop_rounds r.mix_rounds r.phase r.rounds) (sym c.without_rounds.ensures)
    (closed_letters m g c.accepts_by_letters-accepted.result c.accepts_by_letters-accepted.ensures)

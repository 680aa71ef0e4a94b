-- `loaded` meets its contract.
use mathlib.Core.Path.{subst}
use mathlib.Core.List.{[]}
use Rattle.machine.specs.Calls.{load}
use Rattle.machine.specs.Marks.{on}
use Rattle.session.specs.declared.Session.{Session}
use Rattle.demands.specs.Trace.{Served, exchange}
use Rattle.callers.proofs.sequences.loaded.Goals as goal

pub returns : goal.returns
returns c = subst (λ (s : Session). Served s (exchange (on (load c.args.batch.now)) [] [] c.call_load.result)) c.call_fresh-s.ensures c.call_load.ensures

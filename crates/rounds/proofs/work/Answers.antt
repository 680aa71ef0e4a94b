-- `work` meets its contract.
use mathlib.Core.Path.{sym, subst}
use mathlib.Core.List.{◌∷◌}
use lib.ListN.{replicate}
use Rattle.machine.specs.Machine.{open_with}
use Rattle.machine.specs.Calls.{close, round, run}
use Rattle.search.specs.Promises.{AcceptsRight}
use Rattle.rounds.specs.declared.Progress.{Progress}
use Rattle.search.specs.Hops.{no_claims}
use Rattle.rounds.specs.Promises.{Mirrors}
use Rattle.rounds.proofs.Settled.{closed_end}
use Rattle.rounds.proofs.work.Goals.{After-accepted}
use Rattle.rounds.proofs.work.Goals as goal

-- the test with no claims in force
tested : (c : After-accepted) → let a = c.args in AcceptsRight a.graph.now no_claims a.ends.initials a.ends.finals c.accepted.result
tested c = c.accepted.ensures c.args.graph.now no_claims (rw c.forth.ensures at c.reached-reached.ensures)

pub run_rounds-requires : goal.run_rounds-requires
run_rounds-requires c =
    let a = c.args in (
      c.requires.0,
      c.requires.1,
      record {
        reached_are = rw c.forth.ensures at c.reached-reached.ensures;
        tested = subst (AcceptsRight a.graph.now no_claims a.ends.initials a.ends.finals) c.if-accepted.false (tested (goal.at.run_rounds-requires c).After-accepted);
      },
    )

pub returns-then-accepted : goal.returns-then-accepted
returns-then-accepted c rows g =
    let a = c.args in
    subst (λ (r : Progress). Mirrors (run (open_with rows) (close ∷ replicate a.most round)) r.loop_rounds r.mix_rounds r.phase r.rounds) (sym c.without_rounds.ensures)
    (closed_end rows g (subst (AcceptsRight a.graph.now no_claims a.ends.initials a.ends.finals) c.if-accepted.true (tested (goal.at.returns-then-accepted c).After-accepted)) a.most)

pub returns : goal.returns
returns c = c.run_rounds.ensures

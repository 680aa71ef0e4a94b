-- `is_vain` meets its contract.
use mathlib.Core.Path.{subst}
use borrow.Author.Rules.{rules}
use native.Mathlib.Omega.{arith}
use Rattle.machine.specs.Machine.{most_rounds}
use Rattle.search.specs.Hops.{no_claims}
use Rattle.search.specs.Promises.{AcceptsRight}
use Rattle.rounds.proofs.Settled.{closed_end}
use Rattle.rounds.proofs.Vain.{vain_end}
use Rattle.rounds.proofs.is_vain.Goals as goal

pub returns-then-idle-clause-vain : goal.returns-then-idle-clause-vain
returns-then-idle-clause-vain c e rows given =
    let a = c.args in
    vain_end (c.requires c.if-idle.true) rows given (subst (AcceptsRight a.graph.now no_claims a.ends.initials a.ends.finals) (search rules) c.accepts.ensures) most_rounds (omega arith)

pub returns-then-idle-clause-closed : goal.returns-then-idle-clause-closed
returns-then-idle-clause-closed c e idle rows given =
    let a = c.args in
    closed_end rows given (subst (AcceptsRight a.graph.now no_claims a.ends.initials a.ends.finals) (search rules) c.accepts.ensures) most_rounds

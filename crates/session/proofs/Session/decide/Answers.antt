-- `decide` meets its contract.
use mathlib.Core.Path.{refl}
use Rattle.automaton.specs.Promise.{automaton_of}
use Rattle.session.proofs.Phases.{decides_rows}
use Rattle.session.proofs.Session.decide.Goals as goal

pub returns : goal.returns
returns c =
    let s = c.args.self in
    let fill = c.fill-ends in
    rw c.answered.ensures (decides_rows s c.requires (automaton_of fill.new.masks fill.result.initials fill.result.finals) (fill.ensures.reads refl) c.verdict.result
    (rw (← c.new-graph.ensures) c.verdict.ensures))

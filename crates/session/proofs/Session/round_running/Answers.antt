-- `round_running` meets its contract.
use mathlib.Core.Path.{refl}
use Rattle.automaton.specs.Promise.{automaton_of}
use Rattle.session.proofs.Phases.{rounds_few, round_done}
use Rattle.session.proofs.Session.round_running.Goals as goal

pub round-requires : goal.round-requires
round-requires c = (c.requires.0.few_sets, rounds_few c.args.self c.progress.result c.progress.ensures c.requires)

pub returns : goal.returns
returns c =
    let s = c.args.self in
    let fill = c.fill-ends in
    round_done s (automaton_of fill.new.masks fill.result.initials fill.result.finals) (fill.ensures.reads refl) c.round.result c.done_with.ensures c.requires
    c.progress.result c.progress.ensures (rw (← c.new-graph.ensures) c.round.ensures)

-- `work` meets its contract.
use mathlib.Core.Path.{refl}
use Rattle.automaton.specs.Promise.{automaton_of}
use Rattle.session.proofs.Marked.{works_up_to}
use Rattle.session.proofs.Session.work.Goals as goal

pub returns : goal.returns
returns c =
    let s = c.args.self in
    let fill = c.fill-ends in
    works_up_to s (automaton_of fill.new.masks fill.result.initials fill.result.finals) (fill.ensures.reads refl) c.args.most c.work.result
    (rw (← c.new-graph.ensures, ← c.new-both.ensures) c.work.ensures) c.done_with.ensures

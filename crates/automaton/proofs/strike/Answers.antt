-- `strike` meets its contract: part by part, or nothing where no state is struck.
use Rattle.automaton.proofs.Striking.{strikes_none, strikes_all}
use Rattle.automaton.proofs.strike.Goals as goal

pub returns-then-struck-eq0 : goal.returns-then-struck-eq0
returns-then-struck-eq0 c = strikes_none _ _ _ c.if-struck-eq0.true

pub returns : goal.returns
returns c =
    strikes_all c.args.set_count c.args.struck c.struck_sets-gone.result c.args.graph.now c.leave_out.new.graph c.leave_out-2.new.graph
    c.leave_out-3.new.graph c.requires c.struck_sets-gone.ensures c.leave_out.ensures c.leave_out-2.ensures c.leave_out-3.ensures

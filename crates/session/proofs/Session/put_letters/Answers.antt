-- `put_letters` meets its contract. The invariant: the letter steps of the rows passed are in the graph.
use lib.ListN.{take}
use lib.Seq.{take_all}
use Rattle.automaton.proofs.Passing.{letters_start}
use Rattle.session.specs.Standing.{first_rows}
use Rattle.session.proofs.Session.put_letters.Goals as goal

pub loop-row-init : goal.loop-row-init
loop-row-init c = λ e. rw e letters_start

pub returns : goal.returns
unfolding first_rows
returns c e fit =
    let rows = take c.args.self.now.row_count c.args.self.now.rows in
    c.finish_letters.ensures rows fit (rw (take_all c.loop-row.row-index rows c.loop-row-test.false) at (c.loop-row.invariant e))

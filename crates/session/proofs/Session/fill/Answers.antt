-- `fill` meets its contract: the keys and the sets are those of the standing rows.
use Rattle.automaton.specs.Promise.{automaton_of}
use Rattle.session.proofs.Written.{reads_keyed}
use Rattle.session.proofs.Session.fill.Goals as goal

pub returns-clause-reads : goal.returns-clause-reads
returns-clause-reads c e =
    reads_keyed c.args.self.now c.keys.result c.keys.ensures.keyed c.row_sets.result c.row_sets.ensures.sets c.row_sets.ensures.count
    (automaton_of c.fill.new.graph c.fill.result.initials c.fill.result.finals) (c.fill.ensures.gives e)

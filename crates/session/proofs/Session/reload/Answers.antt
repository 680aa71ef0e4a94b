-- `reload` meets its contract: the keys that are kept have the rows and the sets of the machine.
use Rattle.session.proofs.Marked.{reloads_of}
use Rattle.session.proofs.Session.reload.Goals as goal

pub returns : goal.returns
returns c =
    reloads_of c.args.self.now c.args.kept.now c.keys-keys.result c.keys-keys.ensures.holds c.collect_sets-sets.result c.collect_sets-sets.ensures
    c.emptied.result c.emptied.ensures c.with_table.result c.with_table.ensures

-- `load_open` meets its contract: what the arrays come to is what the machine comes to.
use Rattle.session.proofs.Batches.{load_done, load_refused}
use Rattle.session.proofs.Session.load_open.Goals as goal

pub returns-in-Ok : goal.returns-in-Ok
returns-in-Ok c =
    load_done c.args.self c.requires c.keys-keys.result c.keys-keys.ensures.keyed c.args.batch.now c.row_sets-sets.result c.row_sets-sets.ensures.sets c.row_sets-sets.ensures.count
    _ c.in-Ok.ensures c.with_table.ensures c.done.ensures

pub returns-in-Err : goal.returns-in-Err
returns-in-Err c =
    load_refused c.args.self c.requires c.keys-keys.result c.keys-keys.ensures.keyed c.args.batch.now c.row_sets-sets.result c.row_sets-sets.ensures.sets c.row_sets-sets.ensures.count
    _ c.in-Err.ensures c.answered.ensures

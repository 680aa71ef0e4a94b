-- `withdraw_open` meets its contract: what the arrays come to is what the machine comes to.
use Rattle.session.proofs.Batches.{withdraw_done, withdraw_refused}
use Rattle.session.proofs.Session.withdraw_open.Goals as goal

pub returns-in-Ok : goal.returns-in-Ok
returns-in-Ok c =
    withdraw_done c.args.self c.requires c.keys-keys.result c.keys-keys.ensures.keyed c.args.batch.now c.withdraw_rows.new.keys c.in-Ok.ensures
    c.collect_sets.result c.collect_sets.ensures c.with_table.ensures c.done.ensures

pub returns-in-Err : goal.returns-in-Err
returns-in-Err c =
    withdraw_refused c.args.self c.requires c.keys-keys.result c.keys-keys.ensures.keyed c.args.batch.now c.withdraw_rows.new.keys c.in-Err.ensures c.answered.ensures

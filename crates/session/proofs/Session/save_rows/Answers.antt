-- `save_rows` meets its contract: the keys are those of the standing rows.
use Rattle.session.proofs.Written.{saves_rows}
use Rattle.session.proofs.Session.save_rows.Goals as goal

pub returns : goal.returns
returns c =
    rw c.answered.ensures (saves_rows c.args.self c.requires c.keys-keys.result c.keys-keys.ensures.keyed c.args.buffer.now c.save.new.buffer c.save.auto.buffer c.save.result c.save.ensures)

-- `with_name` meets its contract: by the room.
use native.Mathlib.Omega.{arith}
use Rattle.commands.proofs.Texts.{name_held}
use Rattle.commands.proofs.with_name.Goals as goal

pub returns : goal.returns
returns c =
    let a = c.args in
    name_held a.call a.text.now a.batch.now c.put.new.buf c.put.result (omega arith) c.put.ensures

-- `rows::Row::write_at` meets its contract: what is written into the rest stands in the whole.
use Rattle.rows.specs.Rows.{row_bytes}
use Rattle.lists.proofs.Writing.{wrote_at_part}
use Rattle.rows.proofs.Row.write_at.Goals as goal

pub returns : goal.returns
returns c = wrote_at_part (row_bytes c.args.self) c.args.buf.now c.write.new.buf c.args.at c.write.ensures

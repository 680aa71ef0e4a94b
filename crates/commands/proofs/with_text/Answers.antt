-- `with_text` meets its contract: by the word.
use Rattle.commands.proofs.Words.{extends_change, extends_report, extends_name, extends_move}
use lib.ListN.{length}
use Rattle.commands.proofs.with_text.Goals as goal

pub returns-in-Changes : goal.returns-in-Changes
returns-in-Changes c = λ meant asks.
    let a = c.args in
    extends_change meant (length a.batch.now) a.text.now a.word _ _ c.with_batch.new.batch c.with_batch.result c.in-Changes.is asks c.with_batch.ensures

pub returns-in-Reports : goal.returns-in-Reports
returns-in-Reports c = λ meant asks.
    let a = c.args in
    extends_report meant (length a.batch.now) a.text.now a.word _ _ a.batch.now c.with_length.result c.in-Reports.is asks (c.with_length.ensures a.batch.now)

pub returns-in-Names : goal.returns-in-Names
returns-in-Names c = λ meant asks.
    let a = c.args in
    extends_name meant (length a.batch.now) a.text.now a.word _ _ c.with_name.new.batch c.with_name.result c.in-Names.is asks c.with_name.ensures

pub returns-in-Moves : goal.returns-in-Moves
returns-in-Moves c = λ meant asks. extends_move meant (length c.args.batch.now) c.args.text.now c.args.word _ c.in-Moves.is asks

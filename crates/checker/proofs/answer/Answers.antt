-- `answer` meets its contract: by the answer of the load.
use lib.ListN.{length}
use Rattle.loader.specs.Promise.{HoldsGraph}
use Rattle.checker.specs.Promise.{asking}
use Rattle.checker.proofs.Finishing.{loaded_from}
use Rattle.checker.proofs.Outcomes.{load_refused, load_done}
use Rattle.checker.proofs.answer.Goals as goal

pub returns-in-Err : goal.returns-in-Err
returns-in-Err c =
    let a = c.args in
    load_refused (asking a.asked (length a.buffer.now)) a.batch.now (HoldsGraph c.load.new.graph c.load.new.words) a.buffer.now c.in-Err.ensures

pub returns : goal.returns
returns c =
    let a = c.args in
    load_done (asking a.asked (length a.buffer.now)) a.batch.now (HoldsGraph c.load.new.graph c.load.new.words) c.in-Ok.ensures
    (λ rows t h. (rw c.new.ensures at c.give.ensures) rows (loaded_from t h))

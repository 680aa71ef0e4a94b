-- `express` meets its contract: with a buffer that is too short, and with one that is long enough.
use Rattle.expression.proofs.Expressing.{Prepared, express_short, express_text}
use Rattle.expression.proofs.express.Goals.{After-of_walk-walk}
use Rattle.expression.proofs.express.Goals as goal

-- what the calls up to the walk's frame have made
prepared : (w : After-of_walk-walk)
    → let a = w.args in
    Prepared w.new-letters.result.words.now w.new-letters.result.count a.set_count a.graph.now a.points a.progress.now w.back-back.result.now w.opened_in-opened.result w.note_all.new.bytes a.buffer.now w.of_walk-walk.result
prepared w = record { turned = w.back-back.ensures; joined = w.opened_in-opened.ensures; notes = w.note_all.ensures; frames = w.of_walk-walk.ensures }

pub returns-in-None-clause-expresses : goal.returns-in-None-clause-expresses
returns-in-None-clause-expresses c = let e = c.new-letters.ensures in
    rw (← e.words, ← e.count) (express_short (prepared (goal.at.returns-in-None-clause-expresses c).After-of_walk-walk) c.in-None.ensures)

pub returns-in-Some-clause-expresses : goal.returns-in-Some-clause-expresses
returns-in-Some-clause-expresses c = let e = c.new-letters.ensures in
    rw (← e.words, ← e.count) (express_text (prepared (goal.at.returns-in-Some-clause-expresses c).After-of_walk-walk) c.put-wrote.new.buf c.put-wrote.result _ c.in-Some.ensures c.put-wrote.ensures.puts)

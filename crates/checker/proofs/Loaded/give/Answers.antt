-- `give` meets its contract: by what is asked.
use Rattle.checker.proofs.Finishing.{is_judged}
use Rattle.checker.proofs.Loaded.give.Goals as goal

pub returns-in-Verdict : goal.returns-in-Verdict
returns-in-Verdict c rows h = rw c.in-Verdict.is (is_judged h c.args.buffer.now c.verdict-v.result c.verdict-v.ensures)

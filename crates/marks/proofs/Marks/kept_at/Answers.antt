-- `kept_at` meets its contract.
use Rattle.marks.specs.Record.{marks_of}
use Rattle.marks.proofs.Placing.{kept_back}
use Rattle.marks.proofs.Marks.kept_at.Goals as goal

pub returns : goal.returns
unfolding marks_of
returns c l name m st place e = rw (st.whole, place) (kept_back _ _ name m l e)

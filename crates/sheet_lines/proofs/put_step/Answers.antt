-- `put_step` meets its contract: two of its goals by hand, so that a line of another label or of another target does not fit.
use Rattle.sheet_lines.proofs.put_step.Goals as goal

pub put_two-requires : goal.put_two-requires
put_two-requires c = rw c.in-Letter.is at c.requires

pub returns-in-Omega : goal.returns-in-Omega
returns-in-Omega c = rw c.in-Omega.is c.put_two-in-Omega.ensures

-- `main` counts at most the cases that were run.
use Rattle.std.proofs.Common.{◌≤◌}
use Rattle.cases.proofs.main.Given as goal

abbrev pub invariant-loop-case : goal.invariant-loop-case
invariant-loop-case l = l.different ≤ l.case

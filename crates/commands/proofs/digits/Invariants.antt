-- `digits` meets its contract: what is left decides.
use mathlib.Core.Path.{◌≡◌}
use lib.ListN.{drop}
use Rattle.commands.specs.Digits.{digits}
use Rattle.commands.proofs.digits.Given as goal

abbrev pub invariant-loop-c : goal.invariant-loop-c
invariant-loop-c l = digits l.base l.text ≡ digits l.base (drop l.c-index l.text)

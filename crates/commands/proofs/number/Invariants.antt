-- `number` meets its contract: the number that goes on with what is left, cut at `most`.
use Prim.Native.Nat.{◌≤◌}
use mathlib.Core.Path.{◌≡◌}
use lib.ListN.{drop}
use Rattle.commands.specs.Digits.{at_most, number_from}
use Rattle.commands.proofs.number.Given as goal

abbrev pub invariant-loop-c : goal.invariant-loop-c
invariant-loop-c l = record { small : l.n ≤ l.most; reads : at_most l.most (number_from 0 l.text) ≡ at_most l.most (number_from l.n (drop l.c-index l.text)) }

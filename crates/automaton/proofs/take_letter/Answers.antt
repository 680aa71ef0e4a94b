-- `take_letter` meets its contract: there are no sets.
use Prim.Native.Nat.{zero-le}
use mathlib.Core.List.{[]}
use mathlib.Core.Logic.{⊎_elim}
use Rattle.automaton.proofs.Passing.{grown_last, pass_step, letters_in, letters_out, over_left, over_right}
use Rattle.automaton.proofs.take_letter.Goals as goal

pub returns-in-Successor : goal.returns-in-Successor
returns-in-Successor c l h = pass_step (Unit {0}) [] 0 zero-le h (grown_last l _) c.in-Successor.is (rw c.from.ensures at c.put.ensures)

pub returns-in-LeftLimit : goal.returns-in-LeftLimit
returns-in-LeftLimit c l h = ⊎_elim (λ x. over_left h x.2) (λ x. over_right h x.2) c.in-LeftLimit.is

pub returns-in_default : goal.returns-in_default
returns-in_default c l h = letters_out (c.take_row.ensures.takes l (letters_in h))

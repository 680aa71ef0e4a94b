-- `finish_letters` meets its contract.
use Prim.Native.Nat.{zero-le}
use mathlib.Core.List.{[]}
use Rattle.automaton.specs.Promise.{automaton_of}
use Rattle.automaton.proofs.Giving.{letters_all}
use Rattle.automaton.proofs.finish_letters.Goals as goal

pub returns : goal.returns
returns c rows fit h =
    letters_all rows fit [] 0 zero-le _ _ _ _ h (automaton_of _ c.points.result.initials c.points.result.finals) c.strike.ensures c.points.ensures.starts c.points.ensures.ends

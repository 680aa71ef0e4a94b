-- `of_keys` meets its contract: its graph had nothing.
use mathlib.Core.Path.{refl}
use Rattle.automaton.proofs.of_keys.Goals as goal

pub returns : goal.returns
returns c = record { gives = c.fill-points.ensures.gives refl; indexed = c.fill-points.ensures.indexed refl }

-- `search::graphs::add_place` meets its contract. The loop stores at each place of `m`, in one part, the mask there with the place.
use Prim.Native.Nat.{ℕ, ◌+◌, ◌<◌, ◌≤◌}
use mathlib.Core.Path.{◌≡◌}
use mathlib.Core.Logic.{◌⊎◌}
use lib.ListN.{get_or, length}
use Rattle.masks.proofs.Storing.{Storing}
use Rattle.masks.proofs.Turning.{WithSource}
use Rattle.search.specs.Graph.{part}
use Rattle.search.proofs.graphs.add_place.Given as goal

abbrev pub invariant-loop-s : goal.invariant-loop-s
invariant-loop-s l =
    (length l.graph ≡ length l.initial.graph)
    × Storing (WithSource (part l.initial.graph l.base) l.m l.i) (part l.initial.graph l.base) l.m l.s-iterator.rest (part l.graph l.base)
    × ((j : ℕ) → (j < l.base) ⊎ (l.base + 64 ≤ j) → get_or l.graph j 0 ≡ get_or l.initial.graph j 0)

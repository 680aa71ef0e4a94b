-- `search::MaskGraph::inside` meets its contract. The place i gives i where its set is a part of p.
use lib.ListN.{get_or}
use Rattle.masks.specs.Mask.{◌⊆◌}
use Rattle.masks.proofs.Gathering.{Gathered, Here}
use Rattle.search.proofs.MaskGraph.inside.Given as goal

abbrev pub invariant-loop-i : goal.invariant-loop-i
invariant-loop-i l = Gathered (Here (λ i. get_or l.self.sets i 0 ⊆ l.p)) l.places l.i-iterator.rest l.r

-- `part_among` meets its contract. The loop's invariant: the places left are among the places.
use Rattle.masks.specs.Mask.{◌⊆◌}
use Rattle.candidates.proofs.part_among.Given as goal

abbrev pub invariant-loop-i : goal.invariant-loop-i
invariant-loop-i l = l.i-iterator.rest ⊆ l.places

-- `found_among` meets its contract. The loop gathers what is found at each place.
use Rattle.candidates.specs.Promises.{PiecedAmong}
use Rattle.candidates.proofs.Places.{FoundSoFar}
use Rattle.candidates.proofs.Trial.found_among.Given as goal

abbrev pub invariant-loop-i : goal.invariant-loop-i
invariant-loop-i l =
    PiecedAmong l.graph l.self.pieces l.tried → FoundSoFar l.graph l.self.force l.tried l.i-iterator.rest l.loops l.mixes

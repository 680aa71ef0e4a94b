-- `expression::lengths::note_all` meets its contract. The loop's invariant: the texts of the claims opened in the rounds done are known.
use Prim.Native.Nat.{◌+◌}
use mathlib.Core.Path.{◌≡◌}
use lib.ListN.{length}
use Rattle.machine.specs.Machine.{Machine}
use Rattle.search.specs.Graph.{Graph}
use Rattle.tours.specs.Frames.{Held}
use Rattle.expression.specs.Frames.{Noted}
use Rattle.expression.specs.Lengths.{Known}
use Rattle.expression.proofs.lengths.note_all.Given as goal

abbrev pub invariant-loop-done : goal.invariant-loop-done
invariant-loop-done l =
    (length l.bytes ≡ 128)
    × ((m : Machine) (g : Graph) → Held m g l.letters.words.now l.letters.count l.back l.set_count → Noted m l.opened → Known m g l.set_count l.opened (l.done + 1) l.most l.bytes)

-- `expression::lengths::note_round` meets its contract. The loop's invariant: the lengths at places below the slot are noted.
use mathlib.Core.Path.{◌≡◌}
use lib.ListN.{length}
use Rattle.expression.proofs.Noting.{NotesBelow}
use Rattle.expression.proofs.lengths.note_round.Given as goal

abbrev pub invariant-loop-slot : goal.invariant-loop-slot
invariant-loop-slot l =
    (length l.bytes ≡ 128) × NotesBelow l.letters.words.now l.letters.count l.back l.set_count l.opened l.round l.most l.initial.bytes l.slot l.bytes

-- `words_of` meets its contract. The invariant: the first words of the keys passed.
use Prim.Native.Nat.{ℕ, ◌<◌}
use mathlib.Core.Path.{◌≡◌}
use lib.ListN.{get_or, length}
use Rattle.sorted_keys.specs.Keys.{key_at}
use Rattle.session.proofs.tables.words_of.Given as goal

abbrev pub invariant-loop-i : goal.invariant-loop-i
invariant-loop-i l = (length l.words ≡ 256) × ((k : ℕ) → k < l.i → get_or l.words k 0 ≡ (key_at l.keys.keys k).high)

-- `Kept::keys` meets its contract. The invariant: the keys passed have the words that are kept.
use mathlib.Core.Path.{◌≡◌}
use lib.ListN.{length, take}
use Rattle.marks.specs.Promise.{unpacked}
use Rattle.marks.proofs.Kept.keys.Given as goal

abbrev pub invariant-loop-i : goal.invariant-loop-i
invariant-loop-i l = (length l.keys ≡ 256) × (take l.i l.keys ≡ take l.i (unpacked l.self.high l.self.low))

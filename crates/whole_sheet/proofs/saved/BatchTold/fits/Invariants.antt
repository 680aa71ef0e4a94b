-- `Batch::fits` meets its contract. The invariant: the bytes of the rows passed are counted, ten to a row at most.
use Prim.Native.Nat.{◌*◌, ◌≤◌}
use mathlib.Core.Path.{◌≡◌}
use lib.ListN.{length, take}
use Rattle.lists.specs.Tests.{gather}
use Rattle.whole_sheet.proofs.Saving.{key_bytes}
use Rattle.whole_sheet.proofs.saved.BatchTold.fits.Given as goal

abbrev pub invariant-loop-key : goal.invariant-loop-key
invariant-loop-key l = (l.len ≤ 10 * l.key-index) × (l.len ≡ length (gather key_bytes (take l.key-index l.key-items)))

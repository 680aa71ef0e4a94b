-- `Batch::fits` meets its contract. The invariant: the bytes of the rows passed are counted, ten to a row at most.
use mathlib.Core.Path.{ap, sym, ◌∙◌, subst}
use native.Mathlib.Omega.{arith}
use Prim.Native.Nat.{ℕ, ◌≤◌}
use lib.ListN.{length}
use lib.Dec.{leb}
use lib.Seq.{take_all}
use Rattle.lists.specs.Tests.{Decides, gather}
use Rattle.lists.proofs.Deciding.{leb_decides}
use Rattle.rows.specs.declared.Row.{Row}
use Rattle.rows.specs.Rows.{row_bytes}
use Rattle.rows.proofs.Reading.{row_short}
use Rattle.sheet_parts.proofs.Items.{items_more}
use Rattle.whole_sheet.proofs.Saving.{key_bytes, all_key_bytes}
use Rattle.whole_sheet.proofs.saved.BatchTold.fits.Goals as goal

pub overflow_add-len : goal.overflow_add-len
overflow_add-len c = omega (arith, c.len-len.ensures, row_short c.of_key.result, c.args.self.now.few)

pub loop-key-preserved : goal.loop-key-preserved
loop-key-preserved c =
    let h = c.loop-key in
    let e = c.len-len.ensures ∙ ap (λ (x : Row). length (row_bytes x)) c.of_key.ensures in
    (omega (arith, h.invariant.0, c.len-len.ensures, row_short c.of_key.result), omega (arith, h.invariant.1, e, items_more key_bytes c.args.self.now.keys.now h.key-index (record { high = 0; low = 0 }) c.loop-key-test.true))

pub returns : goal.returns
returns c =
    let keys = c.args.self.now.keys.now in
    let h = c.loop-key in
    let e = h.invariant.1 ∙ ap (λ l. length (gather key_bytes l)) (take_all h.key-index keys c.loop-key-test.false) ∙ ap length (sym (all_key_bytes keys)) in
    subst (λ (n : ℕ). Decides (leb h.len c.args.size) (n ≤ c.args.size)) e (leb_decides h.len c.args.size)

-- `put_rows` meets its contract. The invariant: the bytes of the rows that are left are to be written.
use mathlib.Core.Path.{ap}
use lib.ListN.{drop_of_length-le}
use Rattle.lists.specs.Tests.{gather}
use Rattle.texts.proofs.Parts.{part_start, part_end}
use Rattle.sheet_parts.proofs.Items.{item_room, item_next}
use Rattle.whole_sheet.proofs.Saving.{key_bytes, all_key_bytes}
use Rattle.whole_sheet.proofs.saved.put_rows.Goals as goal

pub loop-key-init : goal.loop-key-init
loop-key-init c = part_start _ _

pub put_at-at-requires : goal.put_at-at-requires
put_at-at-requires c = let keys = c.args.keys.now in let h = c.loop-key in
    rw c.of_key.ensures (item_room key_bytes keys h.key-index (record { high = 0; low = 0 }) c.loop-key-test.true h.invariant (rw (all_key_bytes keys) at c.requires))

pub loop-key-preserved : goal.loop-key-preserved
loop-key-preserved c = let h = c.loop-key in
    item_next key_bytes c.args.keys.now h.key-index (record { high = 0; low = 0 }) c.loop-key-test.true h.invariant (rw c.of_key.ensures at c.put_at-at.ensures)

pub returns : goal.returns
returns c = let keys = c.args.keys.now in let h = c.loop-key in
    rw (all_key_bytes keys) (part_end h.invariant (ap (gather key_bytes) (drop_of_length-le keys {i = h.key-index} c.loop-key-test.false)))

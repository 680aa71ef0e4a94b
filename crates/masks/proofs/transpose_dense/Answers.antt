-- `masks::transpose_dense` meets its contract: one width after another.
use Rattle.masks.proofs.Blocks.{turned_by_blocks}
use Rattle.masks.proofs.Widths.{blocks_32, blocks_16, blocks_8, blocks_4, blocks_2, blocks_1}
use Rattle.masks.proofs.transpose_dense.Goals as goal

pub returns : goal.returns
returns c =
    turned_by_blocks c.args.succ.now c.first_masks-m.result c.exchange_blocks.new.m c.exchange_blocks-2.new.m
    c.exchange_blocks-3.new.m c.exchange_blocks-4.new.m c.exchange_blocks-5.new.m c.exchange_blocks-6.new.m c.first_masks-m.ensures
    c.exchange_blocks.ensures c.exchange_blocks-2.ensures c.exchange_blocks-3.ensures c.exchange_blocks-4.ensures
    c.exchange_blocks-5.ensures c.exchange_blocks-6.ensures

pub exchange_blocks-requires : goal.exchange_blocks-requires
exchange_blocks-requires c = blocks_32

pub exchange_blocks-requires-2 : goal.exchange_blocks-requires-2
exchange_blocks-requires-2 c = blocks_16

pub exchange_blocks-requires-3 : goal.exchange_blocks-requires-3
exchange_blocks-requires-3 c = blocks_8

pub exchange_blocks-requires-4 : goal.exchange_blocks-requires-4
exchange_blocks-requires-4 c = blocks_4

pub exchange_blocks-requires-5 : goal.exchange_blocks-requires-5
exchange_blocks-requires-5 c = blocks_2

pub exchange_blocks-requires-6 : goal.exchange_blocks-requires-6
exchange_blocks-requires-6 c = blocks_1

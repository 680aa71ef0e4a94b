-- `masks::exchange_blocks` meets its contract: the masks below g are done.
use Prim.Native.Nat.{◌+◌, ◌*◌}
use native.Mathlib.Nat.{zero-mod}
use native.Mathlib.Omega.{arith}
use Rattle.masks.proofs.Blocks.{blocked_start, blocked_more, blocked_end}
use Rattle.masks.proofs.Widths.{even_more}
use Rattle.masks.proofs.exchange_blocks.Goals as goal

pub loop-g-init : goal.loop-g-init
loop-g-init c = (zero-mod (2 * c.args.b), blocked_start _ _)

pub exchange_rows-requires : goal.exchange_rows-requires
exchange_rows-requires c =
    let p = c.requires in
    let even = c.loop-g.invariant.0 in
    (p.0, p.1, even, (even_more p.0 c.loop-g.g even (omega arith)).0)

pub loop-g-preserved : goal.loop-g-preserved
loop-g-preserved c =
    let a = c.args in
    let w = c.requires.0 in
    let g = c.loop-g.g in
    let now = c.loop-g.invariant in
    ((even_more w g now.0 (omega arith)).1, blocked_more a.b a.m.now g c.loop-g.m c.exchange_rows.new.m w now.0 now.1 c.exchange_rows.ensures)

pub returns : goal.returns
returns c = let a = c.args in blocked_end a.b a.m.now c.loop-g.g c.loop-g.m (omega arith) c.loop-g.invariant.1

-- the last blocks are done: there is no next g
pub returns-2 : goal.returns-2
returns-2 c =
    let a = c.args in
    let g = c.loop-g.g in
    let now = c.loop-g.invariant in
    blocked_end a.b a.m.now (g + 2 * a.b) c.exchange_rows.new.m (omega arith)
    (blocked_more a.b a.m.now g c.loop-g.m c.exchange_rows.new.m c.requires.0 now.0 now.1 c.exchange_rows.ensures)

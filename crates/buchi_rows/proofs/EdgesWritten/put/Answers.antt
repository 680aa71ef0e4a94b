-- `Edges::put` meets its contract: some rows are written, and those of the edges left are to come.
use mathlib.Core.Path.{ap, ◌∙◌}
use Rattle.rows.specs.Rows.{batch_of}
use Rattle.masks.proofs.Passing.{begun}
use Rattle.texts.proofs.Parts.{part_start, part_room, part_next, part_end}
use Rattle.buchi_rows.specs.Writing.{edge_rows}
use Rattle.buchi_rows.proofs.EdgesLeft.{edges_start, edges_few, first_edge, no_rows}
use Rattle.buchi_rows.proofs.EdgesWritten.put.Goals as goal

pub loop-place-init : goal.loop-place-init
loop-place-init c =
    let edges = c.args.self.now.0 in
    let e = begun c.into_iter-place-iterator.ensures.into_iter_gives c.each-place-items.ensures in
    rw (e, edges_start edges c.intersection.result c.intersection.ensures) (part_start _ c.args.buf.now, edges_few edges c.intersection.result c.intersection.ensures)

pub put_at-next-requires : goal.put_at-next-requires
put_at-next-requires c =
    let i = c.loop-place.invariant in
    part_room i.0 _ _ (first_edge c.in-Some.ensures.steps (i.1 _ c.in-Some.ensures.steps.is)) c.requires

pub loop-place-preserved : goal.loop-place-preserved
loop-place-preserved c =
    let i = c.loop-place.invariant in
    let t = c.in-Some.ensures.steps in
    (part_next i.0 _ _ (first_edge t (i.1 _ t.is)) c.put_at-next.ensures, λ k h. i.1 k ((t.others k).0 h).0)

pub returns : goal.returns
returns c = part_end c.loop-place.invariant.0 (ap (λ k. batch_of (edge_rows k)) c.in-None.ensures.steps.0 ∙ ap batch_of no_rows)

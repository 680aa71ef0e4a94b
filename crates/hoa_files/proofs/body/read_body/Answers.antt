-- `read_body` meets its contract. The loop's invariant: the states up to the place, and the masks of them.
use mathlib.Core.Path.{refl}
use Rattle.hoa_files.specs.Automata.{end_line}
use Rattle.hoa_files.proofs.Starting.{from_place}
use Rattle.hoa_files.proofs.BodyRead.{body_start, body_within, body_state, body_edge, body_refused, body_end, line_within}
use Rattle.hoa_files.proofs.body.read_body.Goals as goal

pub loop-is_marked-init : goal.loop-is_marked-init
loop-is_marked-init c = body_start c.requires

pub loop-is_marked-preserved-in-Ok-State : goal.loop-is_marked-preserved-in-Ok-State
loop-is_marked-preserved-in-Ok-State c =
    let w = c.in-Ok-State in
    let t = rw (w.field-0-is, from_place c.args.file.now c.loop-is_marked.at) at w.ensures in
    body_state c.loop-is_marked.invariant w.is_marked w.length c.mark-marked.result t.0 t.1 c.mark-marked.ensures

pub loop-is_marked-preserved : goal.loop-is_marked-preserved
loop-is_marked-preserved c =
    let w = c.in-Ok-Edge in
    let t = rw (w.field-0-is, from_place c.args.file.now c.loop-is_marked.at) at w.ensures in
    body_edge c.loop-is_marked.invariant w.to w.length c.with-edges.result t.0 t.1 t.2 c.with-edges.ensures

pub returns-in-Ok-End : goal.returns-in-Ok-End
returns-in-Ok-End c =
    let w = c.in-Ok-End in
    let t = rw (w.field-0-is, from_place c.args.file.now c.loop-is_marked.at) at w.ensures in
    let i = c.loop-is_marked.invariant in
    body_end i _ c.finish.result (refl, refl, refl, refl) t.0 t.1 (line_within c.args.file.now end_line c.loop-is_marked.at 8 (body_within i).0 t.1).1 c.finish.ensures

pub returns-in-Err : goal.returns-in-Err
returns-in-Err c = body_refused c.loop-is_marked.invariant _ (rw (from_place c.args.file.now c.loop-is_marked.at) at c.in-Err.ensures)

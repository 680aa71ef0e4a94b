-- `expression::frames::of_walk` meets its contract.
use mathlib.Core.Path.{refl}
use Rattle.expression.proofs.Framing.{walk_frames}
use Rattle.expression.proofs.frames.of_walk.Goals as goal

pub returns : goal.returns
returns c b m g words n held noted settled i f =
    let a = c.args in
    let e = c.earlier-force.ensures in
    (walk_frames held noted c.earlier-force.result a.points.initials a.points.finals e.loops e.mixes settled i f _, refl)

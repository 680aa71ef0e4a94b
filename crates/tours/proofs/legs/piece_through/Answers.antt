-- `tours::legs::piece_through` meets its contract.
use Prim.Native.Nat.{◌≤◌}
use native.Mathlib.Omega.{arith}
use Rattle.walks.specs.Layers.{Ahead}
use Rattle.tours.proofs.Laid.{zero_few}
use Rattle.tours.proofs.Piecing.{through_down}
use Rattle.tours.proofs.legs.piece_through.Goals.{After-zero_or_more-on, After-zero_or_more-to}
use Rattle.tours.proofs.legs.piece_through.Goals as goal

-- each leg is of few steps
on-few : (c : After-zero_or_more-on) → c.zero_or_more-on.result.steps ≤ 64
on-few c = let f = c.args.frame in
    zero_few (Ahead c.args.back.now f.force f.set) c.with-here.result f.ends _ c.zero_or_more-on.result c.zero_or_more-on.ensures.laid

to-few : (c : After-zero_or_more-to) → c.zero_or_more-to.result.steps ≤ 64
to-few c = let f = c.args.frame in
    zero_few (Ahead c.args.back.now f.force f.set) f.starts c.with-here.result _ c.zero_or_more-to.result c.zero_or_more-to.ensures.laid

pub invariant_of-result : goal.invariant_of-result
invariant_of-result c = record {
  low = c.zero_or_more-to.result.low;
  few = omega (arith, on-few (goal.at.invariant_of-result c).After-zero_or_more-on, to-few (goal.at.invariant_of-result c).After-zero_or_more-to);
}

pub returns : goal.returns
returns c here m g words n k held framed =
    through_down held framed c.args.s here c.with-here.result c.with-here.ensures c.requires.1 _ _
    c.zero_or_more-on.result c.zero_or_more-to.result c.zero_or_more-on.ensures.laid c.zero_or_more-to.ensures.kept c.zero_or_more-to.ensures.laid

-- `tours::legs::piece_at_gap` meets its contract.
use Rattle.masks.proofs.Member.{not_both}
use Rattle.tours.proofs.Piecing.{gap_to_down, gap_from_down}
use Rattle.tours.proofs.legs.piece_at_gap.Goals as goal

pub returns-then-comes_first : goal.returns-then-comes_first
returns-then-comes_first c here m g words n k held framed =
    gap_to_down held framed c.args.s here c.with-here.result c.with-here.ensures c.requires.0 c.requires.1 c.difference-others.result c.difference-others.ensures
    _ _ c.one_or_more-on.result c.one_or_more-to.result c.one_or_more-on.ensures.laid c.one_or_more-to.ensures.laid (c.comes_first.ensures.to c.if-comes_first.true)

pub returns : goal.returns
returns c here m g words n k held framed =
    gap_from_down held framed c.args.s here c.with-here.result c.with-here.ensures c.requires.0 c.requires.1 c.difference-others.result c.difference-others.ensures
    _ _ c.one_or_more-on.result c.one_or_more-to.result c.one_or_more-on.ensures.laid c.one_or_more-to.ensures.laid
    (λ h. not_both (c.comes_first.ensures.of h) c.if-comes_first.false) _ c.one_or_more.result c.one_or_more.ensures.laid

-- `search::moves::passed` meets its contract.
use Rattle.masks.proofs.Member.{in_none, not_both}
use Rattle.search.proofs.moves.passed.Goals as goal

pub returns-then-meets : goal.returns-then-meets
returns-then-meets c t = ((λ h. (c.meets.ensures.to c.if-meets.true, h)), λ h. h.1)

pub returns-else-meets : goal.returns-else-meets
returns-else-meets c t = ((λ h. absurd (in_none t h)), λ h. absurd (not_both (c.meets.ensures.of h.0) c.if-meets.false))

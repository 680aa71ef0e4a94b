-- `search::moves::marked` meets its contract.
use Prim.Native.Nat.{ℕ}
use mathlib.Core.Path.{subst, sym}
use Rattle.masks.specs.Mask.{◌∈◌}
use Rattle.masks.proofs.Member.{in_none, not_both, with_same, with_none}
use Rattle.search.proofs.moves.marked.Goals as goal

pub returns-then-b : goal.returns-then-b
returns-then-b c t =
    let i = c.args.i in
    let w = c.with.result in
    let is = c.with.ensures in
    ((λ h. (with_none i w is t h, c.if-b.true)), λ h. subst (λ (x : ℕ). x ∈ w) (sym h.0) (with_same 0 i w is))

pub returns-else-b : goal.returns-else-b
returns-else-b c t = ((λ h. absurd (in_none t h)), λ h. absurd (not_both h.1 c.if-b.false))

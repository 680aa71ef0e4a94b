-- `masks::meets` meets its contract: a set that is not empty has a lowest state.
use Prim.Native.Nat.{ℕ, ◌<◌}
use mathlib.Core.Path.{◌≡◌, ap, subst}
use mathlib.Core.Bool.{not}
use native.Mathlib.Omega.{arith}
use borrow.Author.Tests.{eqb-false, ne_eqb, not-true}
use Rattle.masks.specs.Mask.{◌∈◌}
use Rattle.masks.proofs.Count.{lowest_is}
use Rattle.masks.proofs.Member.{in_none, intersection_left, intersection_right, intersection_both}
use Rattle.masks.proofs.meets.Goals as goal

pub returns : goal.returns
returns c =
    let a = c.args.a in
    let b = c.args.b in
    let r : ℕ = c.intersection.result in
    let is = c.intersection.ensures in
    record {
      to = λ e. let n = eqb-false r 0 (not-true _ e) in
          let low = (lowest_is r (pos r n) c.intersection.type_inv).0 in (_, intersection_left a b r is _ low, intersection_right a b r is _ low);
      of = λ p. ap not (ne_eqb r 0 (λ e. in_none p.0 (subst (λ (x : ℕ). p.0 ∈ x) e (intersection_both a b r is p.0 p.1 p.2))));
    }
  where
    pos : (r : ℕ) → (r ≡ 0 → ⊥) → 0 < r
    pos r n = omega arith

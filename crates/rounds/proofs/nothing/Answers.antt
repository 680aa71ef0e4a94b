-- `nothing` meets its contract: a mask without a place is 0.
use Prim.Native.Nat.{ℕ}
use mathlib.Core.Path.{◌≡◌, subst}
use mathlib.Core.Logic.{⊎_elim}
use borrow.Author.Tests.{eqb-true, eq-eqb}
use Rattle.masks.specs.Mask.{◌∈◌}
use Rattle.masks.proofs.Member.{in_none, none, union_left, union_right, union_cases}
use Rattle.rounds.proofs.nothing.Goals as goal

pub returns : goal.returns
returns c =
    let a = c.args.new.loops in
    let b = c.args.new.mixes in
    let r : ℕ = c.places.result in
    let is = c.places.ensures in
    record {
      to = λ e t. let z : r ≡ 0 = eqb-true r 0 e in
          ((λ k. in_none t (subst (λ (x : ℕ). t ∈ x) z (union_left a b r is t k))), λ k. in_none t (subst (λ (x : ℕ). t ∈ x) z (union_right a b r is t k)));
      of = λ h. eq-eqb r 0 (none r c.places.type_inv (λ t k. ⊎_elim (h t).0 (h t).1 (union_cases a b r is t k)));
    }

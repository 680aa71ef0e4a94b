-- `tours::legs::zero_or_more` meets its contract.
use Prim.Native.Nat.{ℕ}
use mathlib.Core.Path.{refl, subst}
use mathlib.Core.Logic.{inl, inr}
use native.Mathlib.Omega.{arith}
use Rattle.masks.specs.Mask.{◌∈◌}
use Rattle.masks.proofs.Member.{in_none, intersection_left, intersection_right, intersection_both}
use Rattle.tours.proofs.Laid.{kept_part}
use Rattle.tours.proofs.legs.zero_or_more.Goals.{Else-both-ne0}
use Rattle.tours.proofs.legs.zero_or_more.Goals as goal

-- no state is a start and an end
apart : (c : Else-both-ne0) → let a = c.args in (t : ℕ) → t ∈ a.starts → t ∈ a.ends → ⊥
apart c t h m = let a = c.args in let both : ℕ = c.intersection-both.result in
    in_none t (subst (λ (x : ℕ). t ∈ x) c.if-both-ne0.false (intersection_both a.starts a.ends both c.intersection-both.ensures t h m))

pub returns-then-both-ne0 : goal.returns-then-both-ne0
returns-then-both-ne0 c =
    let a = c.args in
    let both : ℕ = c.intersection-both.result in
    let is = c.intersection-both.ensures in
    let start : ℕ = c.lowest-start.result in
    let low = c.lowest-start.ensures in record {
      kept = record { length_is = refl; stay = λ i h. refl };
      laid = inl (
        refl,
        intersection_left a.starts a.ends both is start low.is,
        intersection_right a.starts a.ends both is start low.is,
        λ t h m. low.least t (intersection_both a.starts a.ends both is t h m),
      );
    }

pub returns : goal.returns
returns c =
    let a = c.args in
    let k = kept_part a.layers.now c.one_or_more.new.layers a.at (omega arith) c.one_or_more.ensures.kept in
    record { kept = k.0; laid = inr (apart (goal.at.returns c).Else-both-ne0, rw k.1 c.one_or_more.ensures.laid) }

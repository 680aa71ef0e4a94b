-- `walks::first_walk` meets its contract.
use Prim.Native.Nat.{ℕ}
use mathlib.Core.Path.{subst}
use mathlib.Core.Logic.{⊎_elim}
use borrow.Author.Rules.{rules}
use Rattle.masks.specs.Mask.{◌∈◌}
use Rattle.masks.proofs.Member.{in_none, member_lt, intersection_left, intersection_right, intersection_both}
use Rattle.walks.proofs.Answers.{answer_here, answer_none, answer_best}
use Rattle.walks.proofs.first_walk.Goals.{Else-both-ne0}
use Rattle.walks.proofs.first_walk.Goals as goal

-- no state is initial and final
unmet : (c : Else-both-ne0) → let a = c.args in (s : ℕ) → s ∈ a.points.initials → s ∈ a.points.finals → ⊥
unmet c s h m = let a = c.args in let r : ℕ = c.intersection-both.result in
    in_none s (subst (λ (x : ℕ). s ∈ x) c.if-both-ne0.false (intersection_both a.points.initials a.points.finals r c.intersection-both.ensures s h m))

pub staying-requires : goal.staying-requires
staying-requires c = member_lt c.lowest.result c.intersection-both.result c.lowest.ensures.is

pub returns-then-both-ne0 : goal.returns-then-both-ne0
returns-then-both-ne0 c g rows claims k turned is count letters table is_initials is_finals =
    let a = c.args in
    let both : ℕ = c.intersection-both.result in
    let start : ℕ = c.lowest.result in
    let least = c.lowest.ensures in
    rw (c.staying.ensures.0, c.staying.ensures.1)
    (answer_here rows claims a.points.initials a.points.finals is_initials is_finals table start
    (intersection_left a.points.initials a.points.finals both c.intersection-both.ensures start least.is) (intersection_right a.points.initials a.points.finals both c.intersection-both.ensures start least.is)
    (λ s h m. least.least s (intersection_both a.points.initials a.points.finals both c.intersection-both.ensures s h m)))

pub returns-in_err-leg : goal.returns-in_err-leg
returns-in_err-leg c g rows claims k turned is count letters table is_initials is_finals =
    let a = c.args in
    rw c.from_residual.ensures
    (answer_none rows claims a.points.initials a.points.finals is_initials is_finals table turned is count letters (unmet (goal.at.returns-in_err-leg c).Else-both-ne0) c.lay.new.layers c.in_err-leg.ensures.laid)

pub follow-requires : goal.follow-requires
follow-requires c =
    let l = c.in_ok-leg.ensures.laid in
    (search rules, ⊎_elim (λ m. absurd (unmet (goal.at.follow-requires c).Else-both-ne0 c.in_ok-leg.leg.start l.begins m)) (λ h. h) l.fewer)

pub returns : goal.returns
returns c g rows claims k turned is count letters table is_initials is_finals =
    let a = c.args in
    let leg = c.in_ok-leg.leg in
    rw c.follow.ensures.start
    (answer_best rows claims a.points.initials a.points.finals is_initials is_finals table turned is count letters (unmet (goal.at.returns c).Else-both-ne0) c.lay.new.layers leg.start leg.steps _ c.in_ok-leg.ensures.laid c.follow.ensures.follows)

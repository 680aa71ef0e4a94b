-- `walks::follow` meets its contract. The loop's invariant is `Taking`.
use mathlib.Core.Path.{◌≡◌, refl, ◌∙◌}
use native.Mathlib.Omega.{arith}
use lib.ListN.{length-set, take}
use Rattle.masks.proofs.Member.{member_lt}
use Rattle.walks.specs.Choices.{Way, SetsRise}
use Rattle.walks.specs.Walks.{Follows}
use Rattle.walks.proofs.Following.{take_more, take_end, take_stop, lead_low, way_low, byte_letters}
use Rattle.walks.proofs.follow.Goals.{In_default, After-loop-i}
use Rattle.walks.proofs.follow.Goals as goal

-- the steps where the loop stops, and where it ends
stopped : (c : In_default) → let a = c.args in
    Follows (Way a.words.now a.count a.back.now a.force) (SetsRise a.back.now a.force) a.layers.now a.leg.start a.leg.steps (take c.loop-i.i c.loop-i.steps)
stopped c =
    let a = c.args in
    take_stop (Way a.words.now a.count a.back.now a.force) (SetsRise a.back.now a.force) a.layers.now a.leg.start a.leg.steps
    c.loop-i.steps c.loop-i.a c.loop-i.i c.loop-i-test.true c.loop-i.invariant.2 (rw (c.new-letters.ensures.words, c.new-letters.ensures.count, c.parts-parts.ensures) at c.in_default.ensures)

ended : (c : After-loop-i) → let a = c.args in
    Follows (Way a.words.now a.count a.back.now a.force) (SetsRise a.back.now a.force) a.layers.now a.leg.start a.leg.steps (take a.leg.steps c.loop-i.steps)
ended c =
    let a = c.args in
    let all : c.loop-i.i ≡ a.leg.steps = omega arith in
    take_end (Way a.words.now a.count a.back.now a.force) (SetsRise a.back.now a.force) a.layers.now a.leg.start a.leg.steps
    c.loop-i.steps c.loop-i.a (rw all at c.loop-i.invariant.2)

pub loop-i-preserved : goal.loop-i-preserved
loop-i-preserved c =
    let a = c.args in
    let at = c.loop-i in
    let t = c.in-Some.step in
    let chosen = rw (c.new-letters.ensures.words, c.new-letters.ensures.count, c.parts-parts.ensures) at c.in-Some.ensures in (
      member_lt t.to _ chosen.1,
      length-set at.steps at.i t ∙ at.invariant.1,
      take_more (Way a.words.now a.count a.back.now a.force) (SetsRise a.back.now a.force) a.layers.now a.leg.start a.leg.steps
          at.steps at.a at.i t c.loop-i-test.true (omega (arith, at.invariant.1, c.requires.1)) at.invariant.2 chosen,
    )

pub invariant_of-result : goal.invariant_of-result
invariant_of-result c =
    let f = stopped (goal.at.invariant_of-result c).In_default in
    record { low = c.args.leg.low; few = omega arith; lead_low = lead_low _ _ _ _ _ _ f; byte_letters = byte_letters _ (way_low _ _ c.args.back.now c.args.force) _ _ _ _ _ f }

pub returns-in_default : goal.returns-in_default
returns-in_default c = record { start = refl; follows = stopped (goal.at.returns-in_default c).In_default }

pub invariant_of-result-2 : goal.invariant_of-result-2
invariant_of-result-2 c =
    let f = ended (goal.at.invariant_of-result-2 c).After-loop-i in
    record { low = c.args.leg.low; few = c.requires.1; lead_low = lead_low _ _ _ _ _ _ f; byte_letters = byte_letters _ (way_low _ _ c.args.back.now c.args.force) _ _ _ _ _ f }

pub returns : goal.returns
returns c = record { start = refl; follows = ended (goal.at.returns c).After-loop-i }

-- `walks::first_pass` meets its contract. The loop's invariant: no place that is passed has a step.
use mathlib.Core.Path.{refl, subst}
use Prim.Native.Nat.{ℕ}
use Rattle.masks.specs.Mask.{◌∈◌}
use Rattle.masks.proofs.Member.{in_none}
use Rattle.masks.proofs.Passing.{begun}
use Rattle.masks.proofs.Gathering.{gather_from, gather_none}
use Rattle.walks.proofs.Choices.{pass_end, pass_first}
use Rattle.walks.proofs.first_pass.Goals as goal

pub loop-i-init : goal.loop-i-init
loop-i-init g c = gather_from (begun c.into_iter-i-iterator.ensures.into_iter_gives c.each-i-items.ensures)

pub returns-then-met-ne0 : goal.returns-then-met-ne0
returns-then-met-ne0 g c =
    let took = c.in-Some.ensures.steps in
    let i = c.in-Some.i in
    let a = c.args in
    let is_met = c.entered-met.ensures in
    let in_met = (is_met c.lowest.result).0 c.lowest.ensures.is in (
      _,
      c.label.ensures,
      (i, c.loop-i.invariant.through.left i took.is, refl, in_met.0, in_met.1),
      in_met.2,
      pass_first a.sets.now a.here.now a.there.now a.places a.a a.layer c.loop-i.i-iterator.rest i c.entered-met.result c.lowest.result
          c.loop-i.invariant took.is took.least is_met c.lowest.ensures.least,
    )

pub loop-i-preserved : goal.loop-i-preserved
loop-i-preserved g c =
    gather_none c.in-Some.ensures.steps c.loop-i.invariant (λ t b. in_none t (subst (λ (x : ℕ). t ∈ x) c.if-met-ne0.false ((c.entered-met.ensures t).1 b)))

pub returns : goal.returns
returns g c =
    let a = c.args in
    λ rising. pass_end a.sets.now a.here.now a.there.now a.places a.a a.layer c.loop-i.i-iterator.rest c.loop-i.invariant c.in-None.ensures.steps.0

-- `masks::add_source` meets its contract. The loop stores at each place of `m` the mask there with the source.
use Prim.Native.Nat.{ℕ}
use mathlib.Core.Path.{ap, ◌∙◌}
use mathlib.Core.Bool.{◌||◌}
use lib.Dec.{eqb}
use Rattle.masks.specs.Mask.{member}
use Rattle.masks.proofs.Passing.{begun}
use Rattle.masks.proofs.Storing.{storing_from, storing_more, storing_end}
use Rattle.masks.proofs.Turning.{source_added}
use Rattle.masks.proofs.add_source.Goals as goal

pub loop-s-init : goal.loop-s-init
loop-s-init c = storing_from (begun c.into_iter-s-iterator.ensures.into_iter_gives c.each-s-items.ensures)

pub loop-s-preserved : goal.loop-s-preserved
loop-s-preserved c =
    let now = c.loop-s.invariant in
    let taken = c.in-Some.ensures.steps in
    storing_more c.loop-s.back c.with.result taken now
    (λ s. c.with.ensures s ∙ ap (λ (x : ℕ). member s x || eqb s c.args.i) (now.waits c.in-Some.s taken.is))

pub returns : goal.returns
returns c =
    let a = c.args in
    let now = c.loop-s.invariant in
    record {
      length_is = now.length_is;
      masks_are = λ e j s l. source_added a.back.now a.m a.i c.loop-s.back (storing_end now c.in-None.ensures.steps.0 e) now.beyond j s;
    }

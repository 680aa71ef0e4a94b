-- `search::graphs::add_place` meets its contract. The loop stores at each place of `m`, in one part, the mask there with the place.
use Prim.Native.Nat.{ℕ, ◌+◌}
use mathlib.Core.Path.{refl, ap, sym, subst, ◌∙◌}
use mathlib.Core.Bool.{◌||◌}
use mathlib.Core.Logic.{⊎_elim}
use native.Mathlib.Omega.{arith}
use lib.Dec.{eqb}
use lib.ListN.{length-set}
use lib.Seq.{get_or-set_other}
use Rattle.masks.specs.Mask.{member}
use Rattle.masks.proofs.Passing.{begun}
use Rattle.masks.proofs.Storing.{Storing, storing_from, storing_more, storing_end}
use Rattle.masks.proofs.Turning.{WithSource, source_added}
use Rattle.search.specs.Graph.{part}
use Rattle.search.proofs.Parts.{at_part, part_set}
use Rattle.search.proofs.graphs.add_place.Goals as goal

pub loop-s-init : goal.loop-s-init
loop-s-init c =
    let all = begun c.into_iter-s-iterator.ensures.into_iter_gives c.each-s-items.ensures in (refl, storing_from all, λ j h. refl)

pub loop-s-preserved : goal.loop-s-preserved
loop-s-preserved c =
    let a = c.args in
    let k = c.in-Some.s in
    let taken = c.in-Some.ensures.steps in
    let graph = c.loop-s.graph in
    let now = c.loop-s.invariant in
    let v = c.with.result in (
      length-set graph (a.base + k) v ∙ now.0,
      subst (Storing (WithSource (part a.graph.now a.base) a.m a.i) (part a.graph.now a.base) a.m c.next.new.self.rest)
          (sym (part_set graph a.base k v taken.small))
          (storing_more (part graph a.base) v taken now.1
          (λ s. c.with.ensures s ∙ ap (λ (x : ℕ). member s x || eqb s a.i) (sym (at_part graph a.base k taken.small) ∙ now.1.waits k taken.is))),
      λ j h. get_or-set_other graph (a.base + k) j v 0 (λ e. ⊎_elim (λ g. omega arith) (λ g. omega arith) h) ∙ now.2 j h,
    )

pub returns : goal.returns
returns c =
    let a = c.args in
    let inv = c.loop-s.invariant in
    record {
      length_is = inv.0;
      added = record {
        length_is = inv.1.length_is;
        masks_are = λ e j s l. source_added (part a.graph.now a.base) a.m a.i (part c.loop-s.graph a.base) (storing_end inv.1 c.in-None.ensures.steps.0 e) inv.1.beyond j s;
      };
      others = inv.2;
    }

-- `is_idle` meets its contract. The loop's invariant: what is left are states of the set that are no exits.
use Prim.Native.Nat.{ℕ}
use mathlib.Core.Path.{ap, subst, ◌∙◌}
use Rattle.std.specs.Iterator.Adapters.{take_source}
use Rattle.masks.specs.Mask.{◌∈◌}
use Rattle.masks.proofs.Member.{difference_left, difference_not}
use Rattle.masks.proofs.Passing.{begun}
use Rattle.rounds.proofs.is_idle.Goals as goal

pub loop-s-init : goal.loop-s-init
loop-s-init c t h =
    let all = begun (ap take_source c.into_iter-s-iterator.ensures.into_iter_gives ∙ c.take-s-items.ensures.source) c.each.ensures in
    let inside = subst (λ (x : ℕ). t ∈ x) all h in
    let d = c.difference-inner in
    record {
      has = subst (λ (x : ℕ). t ∈ x) c.set_at-p.ensures (difference_left c.set_at-p.result c.rights_at.result d.result d.ensures t inside);
      no_exit = subst (λ (x : ℕ). ¬ (t ∈ x)) c.rights_at.ensures (difference_not c.set_at-p.result c.rights_at.result d.result d.ensures t inside);
    }

pub loop-s-preserved : goal.loop-s-preserved
loop-s-preserved c t h = c.loop-s.invariant t ((c.in-Some.ensures.steps.0.others t).0 h).0

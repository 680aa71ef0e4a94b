-- `note` meets its contract. The loop stores the round at each place that opened.
use mathlib.Core.Path.{refl, ap, sym, ◌∙◌}
use mathlib.Core.Bool.{Bool, cond}
use mathlib.Core.Logic.{⊎_elim}
use lib.ListN.{get_or}
use Rattle.masks.specs.Mask.{member}
use Rattle.masks.proofs.Member.{true_or_false}
use Rattle.masks.proofs.Passing.{begun}
use Rattle.masks.proofs.Storing.{storing_from, storing_more, storing_end}
use Rattle.rounds.proofs.note.Goals as goal

pub loop-i-init : goal.loop-i-init
loop-i-init c = storing_from (begun c.into_iter-i-iterator.ensures.into_iter_gives c.each-i-items.ensures)

pub loop-i-preserved : goal.loop-i-preserved
loop-i-preserved c = storing_more c.loop-i.rounds c.args.round c.in-Some.ensures.steps c.loop-i.invariant refl

pub returns : goal.returns
returns c =
    let a = c.args in
    let inv = c.loop-i.invariant in
    record {
      length_is = inv.length_is;
      rounds_are = λ e i l. ⊎_elim
          (λ h. storing_end inv c.in-None.ensures.steps.0 e i h ∙ sym (ap (λ (b : Bool). cond b a.round (get_or a.rounds.now i 0)) h))
          (λ h. inv.beyond i h ∙ sym (ap (λ (b : Bool). cond b a.round (get_or a.rounds.now i 0)) h)) (true_or_false (member i a.opened));
    }

-- `struck_sets` meets its contract. The loop's invariant: the places are those of the first i sets that have a struck state.
use mathlib.Core.Path.{◌≡◌}
use native.Mathlib.Omega.{arith}
use Rattle.masks.proofs.Member.{not_both}
use Rattle.automaton.proofs.Striking.{none_struck, struck_more, unstruck_more}
use Rattle.automaton.proofs.struck_sets.Goals.{then-meets, else-meets}
use Rattle.automaton.proofs.struck_sets.Goals as goal

pub loop-i-init : goal.loop-i-init
loop-i-init c = none_struck c.args.graph.now c.args.struck

pub loop-i-preserved : goal.loop-i-preserved
loop-i-preserved c =
    let a = c.args in
    let is = c.meets.ensures in
    elim c.if-meets.branch [
      | then-meets w ↦ struck_more a.graph.now a.struck c.loop-i.i c.loop-i.places c.if-meets.places c.loop-i.invariant (is.to w.if-meets.true) (rw w.places-is w.with-places.ensures)
      | else-meets w ↦ rw w.places-is (unstruck_more a.graph.now a.struck c.loop-i.i c.loop-i.places c.loop-i.invariant (λ m. not_both (is.of m) w.if-meets.false))
    ]

pub returns : goal.returns
returns c = let e : c.loop-i.i ≡ c.args.set_count = omega arith in rw e at c.loop-i.invariant

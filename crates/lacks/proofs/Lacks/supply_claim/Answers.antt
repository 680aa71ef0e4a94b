-- `lacks::Lacks::supply_claim` meets its contract: forward by the graph, backward by the graph turned round, whose left limits are right ones.
use Prim.Native.Nat.{ℕ}
use mathlib.Core.Path.{refl, sym, ◌∙◌}
use mathlib.Core.Logic.{◌↔◌}
use lib.ListN.{get_or}
use Rattle.masks.specs.Mask.{◌∈◌, ◌⊆◌}
use Rattle.lacks.proofs.Supplying.{claim_none, claim_led, claim_supplied, over_turned}
use Rattle.lacks.proofs.Lacks.supply_claim.Goals.{After-above-up}
use Rattle.lacks.proofs.Lacks.supply_claim.Goals as goal

-- the places live whose sets have the set at place i as a part
raised : (c : After-above-up) → let a = c.args in let sets = a.graph.now.sets in
    (t : ℕ) → (t ∈ c.above-up.result) ↔ ((t ∈ a.live) × (get_or sets a.i 0 ⊆ get_or sets t 0))
raised c = rw c.set_at-p.ensures at c.above-up.ensures

over : (c : After-above-up) → let a = c.args in let sets = a.graph.now.sets in
    (t : ℕ) → t ∈ a.live → get_or sets a.i 0 ⊆ get_or sets t 0 → t ∈ c.above-up.result
over c t h k = (raised c t).1 (h, k)

pub returns-then-up-eq0 : goal.returns-then-up-eq0
returns-then-up-eq0 c =
    let a = c.args in
    let up = c.above-up.result in
    let none = c.if-up-eq0.true in record {
      forward = claim_none a.graph.now a.new a.led a.live a.i up a.self.now.to (over (goal.at.returns-then-up-eq0 c).After-above-up) none;
      backward = (λ back turned. claim_none back a.new a.led a.live a.i up a.self.now.from (over_turned turned a.live a.i up (over (goal.at.returns-then-up-eq0 c).After-above-up)) none);
      above = rw none at (raised (goal.at.returns-then-up-eq0 c).After-above-up);
    }

-- to each state of the set a step leads: only its limits are taken out
pub returns-then-has : goal.returns-then-has
returns-then-has c =
    let a = c.args in
    let g = a.graph.now in
    let up = c.above-up.result in
    let is_led = sym c.has.ensures ∙ c.if-has.true in
    let is_left = sym c.lefts_at-left.ensures in
    let is_right = sym c.rights_at-right.ensures in record {
      forward = claim_led g a.new a.led a.live a.i _ up is_led is_left (over (goal.at.returns-then-has c).After-above-up) c.take_out.ensures;
      backward = (λ back turned. claim_led back a.new a.led a.live a.i _ up is_led (turned.lefts_are a.i ∙ is_right) (over_turned turned a.live a.i up (over (goal.at.returns-then-has c).After-above-up)) c.take_out-then-has.ensures);
      above = raised (goal.at.returns-then-has c).After-above-up;
    }

pub returns : goal.returns
returns c =
    let a = c.args in
    let g = a.graph.now in
    let up = c.above-up.result in
    let is_set = sym c.set_at-p.ensures in
    let is_left = sym c.lefts_at-left.ensures in
    let is_right = sym c.rights_at-right.ensures in record {
      forward = claim_supplied g a.new a.led a.live a.i g.sets up c.has-looping.ensures (λ i. refl) is_set is_left is_right (over (goal.at.returns c).After-above-up) c.lead.ensures;
      backward = (λ back turned. claim_supplied back a.new a.led a.live a.i g.sets up c.has-looping.ensures turned.sets_are (turned.sets_are a.i ∙ is_set)
          (turned.lefts_are a.i ∙ is_right) (turned.rights_are a.i ∙ is_left) (over_turned turned a.live a.i up (over (goal.at.returns c).After-above-up)) c.lead-2.ensures);
      above = raised (goal.at.returns c).After-above-up;
    }

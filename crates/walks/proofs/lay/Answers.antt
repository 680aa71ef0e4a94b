-- `walks::lay` meets its contract. The loop's invariant is `Laying`; each layer but the first adds a state to what is seen.
use Prim.Native.Nat.{ℕ, suc, ◌+◌, ◌≤◌, ◌<◌}
use mathlib.Core.List.{List}
use mathlib.Core.Bool.{◌&&◌}
use mathlib.Core.Path.{◌≡◌, refl, sym, subst, ◌∙◌}
use native.Mathlib.Omega.{arith}
use native.Mathlib.Numerals.{add-one}
use lib.Count.{ones, ones-le}
use lib.Dec.{lit<}
use lib.ListN.{get_or, length, set, length-set}
use lib.Seq.{get_or-set_same, get_or-set_other}
use Rattle.masks.specs.Mask.{member, ◌∈◌}
use Rattle.masks.proofs.Count.{ones_grows, lowest_is}
use Rattle.masks.proofs.Member.{in_none, difference_left, member_lt}
use Rattle.search.specs.Hops.{Onward}
use Rattle.walks.specs.Layers.{Ahead}
use Rattle.walks.proofs.Layers.{Laying, laying_start, near_seen, met_near, laying_met, laying_end, laying_grows, laying_more}
use Rattle.walks.proofs.lay.Goals.{After-intersection-met, After-lowest-start, After-union-seen}
use Rattle.walks.proofs.lay.Goals as goal

-- the states with a step to the last layer
onward : (c : After-intersection-met) → let a = c.args in let at = c.loop-force in
    Onward (λ t s. Ahead a.back.now a.force a.p s t) (get_or at.layers at.k 0) c.near-near.result
onward c = rw (sym c.loop-force.invariant.1) c.near-near.ensures

-- where one is found, there are more states than layers
more-seen : {E : ℕ → ℕ → Type 0} {starts ends : ℕ} (layers : List ℕ) (k seen near met : ℕ) → Laying E starts ends layers k seen → Onward (λ t s. E s t) (get_or layers k 0) near
    → ((t : ℕ) → member t met ≡ (member t near && member t starts)) → ((t : ℕ) → t ∈ seen → k < ones seen) → (s : ℕ) → s ∈ near → k < ones seen
more-seen layers k seen near met now on is_met more s h = let r = near_seen layers k seen near met now on is_met s h in more r.0 r.1

length-kept : (c : After-intersection-met) → length c.loop-force.layers ≡ length c.args.layers.now
length-kept c = let a = c.args in c.loop-force.invariant.0 ∙ length-set a.layers.now 0 a.ends

-- a start that has a step to the last layer
met-seen : (c : After-lowest-start) → c.loop-force.k < ones c.loop-force.seen
met-seen c =
    let a = c.args in
    let at = c.loop-force in
    let on : Onward (λ t s. Ahead a.back.now a.force a.p s t) (get_or at.layers at.k 0) c.near-near.result = rw (sym at.invariant.1) c.near-near.ensures in
    more-seen at.layers at.k at.seen c.near-near.result c.intersection-met.result at.invariant.4 on c.intersection-met.ensures at.invariant.3 c.lowest-start.result
    (met_near at.layers at.k at.seen c.near-near.result c.intersection-met.result at.invariant.4 on c.intersection-met.ensures c.lowest-start.result c.lowest-start.ensures.is)

-- a layer more is a state more
grows : (c : After-union-seen) → c.loop-force.k + 1 < ones c.union-seen.result
grows c =
    let a = c.args in
    let at = c.loop-force in
    let next : ℕ = c.difference-next.result in
    let n : next ≡ 0 → ⊥ = c.if-next-eq0.false in
    let new = (lowest_is next (omega arith) c.difference-next.type_inv).0 in
    let on : Onward (λ t s. Ahead a.back.now a.force a.p s t) (get_or at.layers at.k 0) c.near-near.result = rw (sym at.invariant.1) c.near-near.ensures in
    omega (
      arith,
      more-seen at.layers at.k at.seen c.near-near.result c.intersection-met.result at.invariant.4 on c.intersection-met.ensures at.invariant.3
          _ (difference_left c.near-near.result at.seen next c.difference-next.ensures _ new),
      laying_grows at.layers at.k at.seen c.near-near.result c.intersection-met.result at.invariant.4 on c.intersection-met.ensures
          c.if-met-ne0.false next c.difference-next.ensures c.union-seen.result c.union-seen.ensures at.invariant.2 c.difference-next.type_inv c.union-seen.type_inv n,
    )

few : (c : After-union-seen) → c.loop-force.k + 1 < 64
few c = omega (arith, grows c, ones-le 64 c.union-seen.result c.union-seen.type_inv)

-- and the slice has a place for it
room : (c : After-union-seen) → c.loop-force.k + 1 < length c.loop-force.layers
room c = let size : 64 ≤ length c.args.layers.now = c.requires in
    omega (arith, few c, c.loop-force.invariant.0 ∙ length-set c.args.layers.now 0 c.args.ends)

pub loop-force-init : goal.loop-force-init
loop-force-init c =
    let ends = c.args.ends in
    let layers = c.args.layers.now in
    let size : 64 ≤ length layers = c.requires in
    let here : get_or (set layers 0 ends) 0 0 ≡ ends = get_or-set_same layers 0 ends 0 (omega arith) in
    let some : (t : ℕ) → t ∈ ends → 0 < ones ends = λ t h.
    let g : ones 0 < ones ends = ones_grows 0 ends (lit< tt) c.ranges.ends.fits (λ u m. absurd (in_none u m)) (λ e. in_none t (subst (λ (x : ℕ). t ∈ x) (sym e) h)) in omega arith in
    (refl, sym here, c.ranges.ends.fits, some, laying_start (set layers 0 ends) here)

pub invariant_of-result : goal.invariant_of-result
invariant_of-result c =
    let at = c.loop-force in record {
      low = member_lt c.lowest-start.result c.intersection-met.result c.lowest-start.ensures.is;
      few = omega (arith, met-seen (goal.at.invariant_of-result c).After-lowest-start, ones-le 64 at.seen at.invariant.2);
    }

pub returns-then-met-ne0 : goal.returns-then-met-ne0
returns-then-met-ne0 c =
    let at = c.loop-force in record {
      kept = length-kept (goal.at.returns-then-met-ne0 c).After-intersection-met;
      laid = laying_met at.layers at.k at.seen c.near-near.result c.intersection-met.result at.invariant.4 (onward (goal.at.returns-then-met-ne0 c).After-intersection-met) c.intersection-met.ensures
          c.lowest-start.result c.lowest-start.ensures.is c.lowest-start.ensures.least at.invariant.2 (met-seen (goal.at.returns-then-met-ne0 c).After-lowest-start);
    }

pub returns-then-next-eq0 : goal.returns-then-next-eq0
returns-then-next-eq0 c =
    let at = c.loop-force in record {
      kept = length-kept (goal.at.returns-then-next-eq0 c).After-intersection-met;
      laid = laying_end at.layers at.k at.seen c.near-near.result c.intersection-met.result at.invariant.4 (onward (goal.at.returns-then-next-eq0 c).After-intersection-met) c.intersection-met.ensures
          c.if-met-ne0.false c.difference-next.result c.difference-next.ensures at.layers c.if-next-eq0.true;
    }

pub overflow_add-k : goal.overflow_add-k
overflow_add-k c = omega (arith, few (goal.at.overflow_add-k c).After-union-seen)

pub offset_bounds-layers-k : goal.offset_bounds-layers-k
offset_bounds-layers-k c = omega (arith, few (goal.at.offset_bounds-layers-k c).After-union-seen)

pub loop-force-smaller : goal.loop-force-smaller
loop-force-smaller c = omega (arith, few (goal.at.loop-force-smaller c).After-union-seen)

pub loop-force-preserved : goal.loop-force-preserved
loop-force-preserved c =
    let at = c.loop-force in
    let next : ℕ = c.difference-next.result in
    let here : get_or (set at.layers (at.k + 1) next) (at.k + 1) 0 ≡ next = get_or-set_same at.layers (at.k + 1) next 0 (room (goal.at.loop-force-preserved c).After-union-seen) in (
      length-set at.layers (at.k + 1) next ∙ at.invariant.0,
      sym here,
      c.union-seen.type_inv,
      (λ t h. grows (goal.at.loop-force-preserved c).After-union-seen),
      rw add-one (laying_more at.layers at.k at.seen c.near-near.result c.intersection-met.result at.invariant.4 (onward (goal.at.loop-force-preserved c).After-intersection-met) c.intersection-met.ensures
          c.if-met-ne0.false next c.difference-next.ensures c.union-seen.result c.union-seen.ensures (set at.layers (suc at.k) next) (rw add-one at here)
          (λ j h. get_or-set_other at.layers (suc at.k) j next 0 (λ q. omega arith))),
    )

pub bounds-layers-k : goal.bounds-layers-k
bounds-layers-k c = room (goal.at.bounds-layers-k c).After-union-seen

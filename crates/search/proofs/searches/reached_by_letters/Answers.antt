-- `search::searches::reached_by_letters` meets its contract: each pass but the last adds a state.
use Prim.Native.Nat.{◌+◌, ◌<◌}
use native.Mathlib.Omega.{arith}
use lib.Count.{ones, ones-le}
use lib.Dec.{lit<}
use Rattle.masks.proofs.Member.{in_none}
use Rattle.search.specs.Graph.{graph_of}
use Rattle.search.specs.Hops.{Lettered}
use Rattle.search.specs.Passes.{NewTargets}
use Rattle.search.proofs.Lettering.{new_letters}
use Rattle.search.proofs.Passing.{going_start, going_more, going_end, pass_grows, passes_onward, followed_none}
use Rattle.search.proofs.searches.reached_by_letters.Goals.{After-difference-next, After-union-seen}
use Rattle.search.proofs.searches.reached_by_letters.Goals as goal

-- what a pass adds
adds : (d : After-difference-next) → let l = d.loop-m in
    NewTargets (Lettered (graph_of d.args.graph.now)) l.seen l.last d.difference-next.result
adds d = let l = d.loop-m in new_letters l.seen l.last d.lettered.result d.difference-next.result d.lettered.ensures d.difference-next.ensures

-- a pass that is not the last
grows : (c : After-union-seen) → NewTargets (Lettered (graph_of c.args.graph.now)) c.loop-m.seen c.loop-m.last c.difference-next.result
    → ones c.loop-m.seen < ones c.union-seen.result
grows c new = let l = c.loop-m in
    pass_grows l.seen l.last c.difference-next.result new c.union-seen.result c.union-seen.ensures c.difference-next.type_inv c.if-next-eq0.false l.invariant.0 c.union-seen.type_inv

pub loop-m-init : goal.loop-m-init
loop-m-init c = (lit< tt, (0, going_start _ 0 c.args.m))

pub returns-then-next-eq0 : goal.returns-then-next-eq0
returns-then-next-eq0 c =
    let l = c.loop-m in
    let m = c.args.m in
    passes_onward (λ t h. absurd (in_none t h))
    (going_end 0 m l.seen l.last c.difference-next.result l.invariant.1.0 (adds (goal.at.returns-then-next-eq0 c).After-difference-next) l.invariant.1.1 c.if-next-eq0.true m (followed_none _ m))

pub loop-m-smaller : goal.loop-m-smaller
loop-m-smaller c = omega (arith, ones-le 64 c.union-seen.result c.union-seen.type_inv, grows (goal.at.loop-m-smaller c).After-union-seen (adds (goal.at.loop-m-smaller c).After-difference-next))

pub loop-m-preserved : goal.loop-m-preserved
loop-m-preserved c =
    let l = c.loop-m in
    let m = c.args.m in (
      c.union-seen.type_inv,
      (
        l.invariant.1.0 + 1,
        going_more 0 m l.seen l.last c.difference-next.result l.invariant.1.0 (adds (goal.at.loop-m-preserved c).After-difference-next) l.invariant.1.1 c.union-seen.result c.union-seen.ensures c.difference-next.type_inv c.if-next-eq0.false,
      ),
    )

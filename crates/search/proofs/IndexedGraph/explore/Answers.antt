-- `search::IndexedGraph::explore` meets its contract: each pass but the last adds a state.
use Prim.Native.Nat.{◌<◌, zero-le}
use native.Mathlib.Omega.{arith}
use lib.Count.{ones, ones-le}
use Rattle.search.proofs.Adding.{unentered_start, unentered_more}
use Rattle.search.proofs.Passing.{going_start, going_more, going_end, pass_grows}
use Rattle.search.proofs.IndexedGraph.explore.Goals.{After-union-states}
use Rattle.search.proofs.IndexedGraph.explore.Goals as goal

-- a pass that is not the last
grows : (c : After-union-states) → ones c.loop-force.states < ones c.union-states.result
grows c =
    let l = c.loop-force in
    pass_grows l.states l.front c.added-more.result.states c.added-more.ensures.targets c.union-states.result c.union-states.ensures c.added-more.ensures.fits c.if-next-eq0.false l.invariant.0 c.union-states.type_inv

pub loop-force-init : goal.loop-force-init
loop-force-init c = (c.ranges.found.fits, zero-le, going_start _ c.args.found c.args.last, unentered_start c.args.self.now c.args.force c.args.p c.args.found)

pub added-more-requires : goal.added-more-requires
added-more-requires c = c.loop-force.invariant.3

pub overflow_add-count : goal.overflow_add-count
overflow_add-count c = let l = c.loop-force in omega (arith, l.invariant.1, ones-le 64 l.states l.invariant.0)

pub returns-then-next-eq0 : goal.returns-then-next-eq0
returns-then-next-eq0 c =
    let l = c.loop-force in
    let a = c.args in record {
      fits = l.invariant.0;
      few = omega (arith, l.invariant.1);
      made = going_end a.found a.last l.states l.front c.added-more.result.states l.count c.added-more.ensures.targets l.invariant.2 c.if-next-eq0.true;
    }

pub loop-force-smaller : goal.loop-force-smaller
loop-force-smaller c = omega (arith, ones-le 64 c.union-states.result c.union-states.type_inv, grows (goal.at.loop-force-smaller c).After-union-states)

pub loop-force-preserved : goal.loop-force-preserved
loop-force-preserved c =
    let l = c.loop-force in
    let a = c.args in (
      c.union-states.type_inv,
      omega (arith, l.invariant.1, grows (goal.at.loop-force-preserved c).After-union-states),
      going_more a.found a.last l.states l.front c.added-more.result.states l.count c.added-more.ensures.targets l.invariant.2
          c.union-states.result c.union-states.ensures c.added-more.ensures.fits c.if-next-eq0.false,
      unentered_more a.self.now a.force a.p l.omegas l.states l.front c.added-more.result.states c.added-more.result.omegas c.union-states.result
          l.invariant.3 c.added-more.ensures c.union-states.ensures,
    )

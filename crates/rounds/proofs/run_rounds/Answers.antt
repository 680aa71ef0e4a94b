-- `run_rounds` meets its contract. The loop's invariant: what is lacking is so with the claims in force, and of any rows that the automaton may be
-- of, the arrays are those of the machine after as many rounds, and what the next one opens is awaited at the places.
use Prim.Native.Nat.{◌+◌}
use mathlib.Core.Path.{◌≡◌, refl, subst}
use mathlib.Core.Bool.{false}
use mathlib.Core.Logic.{inl, inr}
use Rattle.std.proofs.lemmas.Bool.{not_from_false}
use native.Mathlib.Omega.{arith}
use Rattle.lists.proofs.Deciding.{denied}
use Rattle.search.specs.Graph.{Graph}
use Rattle.lacks.specs.Lacks.{Supplies}
use Rattle.candidates.proofs.Awaiting.{awaited_all, awaited_next}
use Rattle.candidates.proofs.Holding.{opens_below}
use Rattle.rounds.proofs.Settled.{Stage, handed, tracked_start, tracked_low, tracked_more, stage_start, stage_paired, stage_more, stage_end}
use mathlib.Core.List.{List}
use Rattle.rows.specs.declared.Row.{Row}
use Rattle.rounds.specs.Promises.{Given}
use Rattle.rounds.proofs.run_rounds.Goals.{After-is_running}
use Rattle.rounds.proofs.run_rounds.Goals as goal

pub loop-done-init : goal.loop-done-init
loop-done-init c =
    let lacks = c.fill.ensures in
    let none = c.none-lacks.ensures in
    let places = c.live.result in (
      rw (c.parts.ensures, c.forth-forth.ensures) at c.pieced-pieces.ensures,
      tracked_start c.pieced-pieces.result places c.live.ensures (lacks.forward.lacks none.to) (λ back turned. (lacks.backward back turned).lacks none.from),
      c.requires.2.reached_are,
      λ rows g. let first = stage_start rows g false c.requires.2.tested in (first, awaited_all places (stage_paired rows g first) c.live.ensures),
    )

pub open_next-new-requires : goal.open_next-new-requires
open_next-new-requires c = handed c.loop-done.invariant.1

pub reached_more-seen-requires : goal.reached_more-seen-requires
reached_more-seen-requires c =
    rw c.forth-forth.ensures (record { old = c.loop-done.trial.force; with_new = c.with_new-force.ensures; reached = c.loop-done.invariant.2 })

-- a turn, as the machine's next round
turned : (c : After-is_running) → (rows : List Row) → Given rows c.args.graph.now c.args.ends.initials c.args.ends.finals c.args.set_count
    → Stage rows c.args.graph.now c.args.set_count c.with_new-force.result c.note.new.rounds c.note-in-loop-done.new.rounds c.judge-phase.result (c.loop-done.done + 1)
turned c rows g =
    let inv = c.loop-done.invariant in
    let stage = inv.3 rows g in
    let opens = c.open_next-new.ensures c.args.set_count inv.0 (tracked_low inv.1) in
    let reached = rw c.forth-forth.ensures at c.reached_more-seen.ensures in
    rw c.judge-phase.ensures (stage_more rows g stage.0 refl (record {
      opens = opens_below (opens.opens stage.1);
      with_new = c.with_new-force.ensures;
      tested = c.accepted.ensures c.args.graph.now c.with_new-force.result reached;
      vain_iff = c.nothing.ensures;
      loop_noted = c.note.ensures;
      mix_noted = c.note-in-loop-done.ensures;
    }))

pub loop-done-preserved : goal.loop-done-preserved
loop-done-preserved c =
    let f = c.forth-forth.ensures in
    let inv = c.loop-done.invariant in
    let with_new = c.with_new-force.ensures in
    -- the form is written out, so that of another graph the fact that fails is seen
    let forward = subst (λ (g : Graph). Supplies g c.open_next-new.result c.difference-fresh.result c.live-live.result c.loop-done.lacks.to c.supply-places.new.self.to) f c.supply-places.ensures.forward in
    let backward = rw f at c.supply-places.ensures.backward in
    let above = rw f at c.supply-places.ensures.above in
    let is_live = c.live-live.ensures in
    let opens = c.open_next-new.ensures c.args.set_count inv.0 (tracked_low inv.1) in (
      inv.0,
      tracked_more inv.1 c.difference-fresh.result c.live-live.result c.supply-places.result with_new opens c.difference-fresh.ensures is_live forward backward above,
      rw f at c.reached_more-seen.ensures,
      λ rows g.
          let next = rw (c.is_running.ensures.to c.if-not-is_running.false) at (turned (goal.at.loop-done-preserved c).After-is_running rows g) in
          (next, awaited_next c.live-live.result c.supply-places.result (opens.opens (inv.3 rows g).1) with_new (stage_paired rows g next) is_live above),
    )

pub returns : goal.returns
returns c rows g = let all : c.loop-done.done ≡ c.args.most = omega arith in rw all at (stage_end (c.loop-done.invariant.3 rows g).0 c.args.most (omega arith) (inl all))

pub returns-then-not-is_running : goal.returns-then-not-is_running
returns-then-not-is_running c rows g =
    stage_end (turned (goal.at.returns-then-not-is_running c).After-is_running rows g) c.args.most (omega arith) (inr (denied c.is_running.ensures (not_from_false _ c.if-not-is_running.true)))

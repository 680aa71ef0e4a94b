-- The rows of an automaton accept exactly when a marked state that the start reaches lies on a cycle (`cycle_of`, `accepts_of`), and that is the verdict of
-- a machine with these rows (`verdict_by_cycle`).
use Prim.Native.Nat.{ℕ}
use mathlib.Core.Path.{◌≡◌, refl, ap, sym, ◌∙◌, subst}
use mathlib.Core.Logic.{inr, ◌↔◌}
use mathlib.Core.List.Memᴰ
use mathlib.Core.List.{List, [], ◌∷◌, ◌++◌}
use lib.ListN.{length}
use native.Mathlib.Omega.{arith}
use Rattle.lists.specs.Tests.{◌among◌}
use Rattle.masks.specs.Mask.{◌∈◌}
use Rattle.masks.proofs.Member.{member_small}
use Rattle.rows.specs.declared.Row.{Row}
use Rattle.rows.specs.declared.Row.TheVariants.{Initial, Final, LeftLimit}
use Rattle.orderings.specs.Steps.{loops, ω, Walk, Leads}
use Rattle.orderings.specs.Systems.{Accepts, Allowed}
use Rattle.orderings.specs.Rounds.{OpenBy}
use Rattle.orderings.specs.Timelines.{Accepting, timelines}
use Rattle.orderings.specs.Decide.{step}
use Rattle.orderings.proofs.Walks.{allowed_append}
use Rattle.orderings.proofs.Steps.{leads_append, on_end, set_on}
use Rattle.orderings.proofs.Depths.{open_earlier}
use Rattle.orderings.proofs.Timelines.{lawful}
use Rattle.orderings.proofs.Verdicts.{nonempty_iff}
use Rattle.machine.specs.declared.Verdict.{Verdict}
use Rattle.machine.specs.declared.Verdict.TheVariants.{NonEmpty, Empty}
use Rattle.machine.specs.declared.Phase.TheVariants.{Settled}
use Rattle.machine.specs.Machine.{Machine, open_with}
use Rattle.machine.specs.Calls.{run, settle, second}
use Rattle.machine.specs.Statements.{Number}
use Rattle.machine.proofs.Statements.{second_settles}
use Rattle.machine.proofs.Second.{second_works}
use Rattle.hoa_files.specs.Automata.{Buchi, Readable}
use Rattle.hoa_files.specs.Tables.{the_start, the_final, a_limit, RowsOf}
use Rattle.hoa_files.specs.Cycles.{Reaches, by_edge, MarkedCycle, VerdictByCycle}
use Rattle.hoa_files.proofs.States.{edge_inside}
use Rattle.hoa_files.proofs.Fresh.{standing, rows_table, few_rows, few_sets, loads}
use Rattle.hoa_files.proofs.Cycling.{ReachesOmega, through_edges, reaches_more, first_omega, unstruck, along, along_leads, along_allowed, along_small, cycle_loops}

module _ (h : Buchi) (ok : Readable h) (rows : List Row) (of : RowsOf h rows) where
  -- a set that loops, of a row to state 6, has a marked state on a cycle
  omega_cycle : (k : ℕ) → ReachesOmega h ok rows of (OpenBy (timelines rows) k) h.start → MarkedCycle h
  omega_cycle k o = let q = o.0 in let P = o.1 in let row = standing h ok rows of (LeftLimit P 6) o.4 in let m = row.2.0 in
      let l = open_earlier (timelines rows) k (loops P) o.5 in
      let edges = through_edges h ok rows of (OpenBy (timelines rows) l.0) P (λ i. omega (arith, member_small (length h.states) 6 P row.1 i, ok.at_most_six)) in
      let t = edges q m (l.1.1 q m o.3 row.2.1) in
      (m, row.2.2, reaches_more h o.2 (by_edge q t.0 m t.1 t.2), edges m m (l.1.1 m m row.2.1 row.2.1))

  -- an accepting walk leads from the start to state 6
  accepting_ends : (w : Walk) → Accepting rows w → Leads h.start w 6
  accepting_ends w a = subst (λ x. Leads h.start w x) (standing h ok rows of (Final a.1) a.3.0)
      (subst (λ x. Leads x w a.1) (standing h ok rows of (Initial a.0) a.2.0) a.4)

  pub cycle_of : Accepts (timelines rows) → MarkedCycle h
  cycle_of x = let r = (nonempty_iff (timelines rows) (lawful rows)).0 x in let w = r.1.0 in
      omega_cycle r.0 (first_omega h ok rows of (OpenBy (timelines rows) r.0) w h.start ok.start_inside (accepting_ends w r.1.1.0) r.1.1.1)

  -- a path to a state of a set that loops, then the omega step
  accepts_by : (P m : ℕ) → m ∈ P → LeftLimit P 6 among rows → OpenBy (timelines rows) 1 (loops P) → Reaches h h.start m → Accepts (timelines rows)
  accepts_by P m i row o r = let free = unstruck h ok rows of in let last = step m (ω P) 6 ∷ [] in
      let a : Accepting rows (along h r ++ last) = (
        h.start,
        6,
        ((of.exactly (Initial h.start)).1 the_start, free h.start),
        ((of.exactly (Final 6)).1 the_final, free 6),
        leads_append h.start (along h r) m last 6 (along_leads h r) (refl, refl),
      ) in
      let In = OpenBy (timelines rows) 1 in
      let b : Allowed (timelines rows) In last = (((row, i), λ s k. free s), o, tt) in
      (nonempty_iff (timelines rows) (lawful rows)).1 (1, (along h r ++ last, (a, allowed_append (timelines rows) In (along h r) last (along_allowed h ok rows of In r) b)))

  pub accepts_of : MarkedCycle h → Accepts (timelines rows)
  unfolding OpenBy
  accepts_of c = let m = c.0 in let q = c.3.0 in let e = c.3.1 in let r = c.3.2 in
      let s = set_on (length h.states) (omega (arith, ok.at_most_six)) (along h r) q (along_small h ok r (edge_inside h ok m q e).1) in let P = s.0 in
      let i : m ∈ P = (s.2 m).1 (on_end m q (along h r) (along_leads h r)) in
      let row : LeftLimit P 6 among rows = (of.exactly (LeftLimit P 6)).1 (a_limit P m s.1 i c.1) in
      accepts_by P m i row (inr ((LeftLimit P 6, row, Memᴰ.head refl), cycle_loops h ok rows of (OpenBy (timelines rows) 0) P m q e r s.2)) c.2

  pub by_number : (v : Verdict) (k : ℕ) → Number rows v k → (Settled v ≡ Settled NonEmpty) ↔ MarkedCycle h
  by_number NonEmpty k n = ((λ e. cycle_of n.0), λ c. refl)
  by_number Empty k n = ((λ e. let z : ◌≡◌ {A = ℕ} 0 1 = cc in absurd (omega arith)), λ c. absurd (n.0 (accepts_of c)))

-- what the rows of an automaton come to
pub verdict_by_cycle : (h : Buchi) (rows : List Row) → Readable h → RowsOf h rows → VerdictByCycle h rows
verdict_by_cycle h rows ok of = let w = (second_works rows (rows_table h ok rows of)).works in
    let n = by_number h ok rows of w.verdict (second rows).rounds w.number in
    let s : (run (open_with rows) settle).phase ≡ Settled w.verdict = sym (ap (λ (x : Machine). x.phase) (second_settles rows (rows_table h ok rows of))) ∙ w.settled in
    record {
      few_rows = few_rows h ok rows of;
      few_sets = few_sets h ok rows of;
      loads = loads h ok rows of;
      settles = (w.verdict, s);
      non_empty = ((λ e. n.0 (sym s ∙ e)), λ c. s ∙ n.1 c);
    }

-- Request C-15, of the machines that calls make: more rows, never less (`never_less`, `more_rows`); no less both ways is the same
-- (`no_less_both`). Where nothing is withdrawn and no state
-- struck, rows grow (`run_grows`).
use Prim.Native.Nat.{ℕ, ◌≤◌}
use mathlib.Core.Path.{◌≡◌, refl, sym, subst}
use mathlib.Core.Logic.{inl, ⊎_elim}
use mathlib.Core.List.{List, [], ◌∷◌}
use native.Mathlib.Omega.{arith}
use Rattle.lists.specs.Tests.{◌among◌}
use Rattle.rows.specs.declared.Row.{Row}
use Rattle.rows.specs.declared.Row.TheVariants.{Strike}
use Rattle.rows.specs.Rows.{Bytes}
use Rattle.rows.specs.Batch.{fed, feed}
use Rattle.rows.proofs.Batch.{feed_runs}
use Rattle.orderings.specs.Timelines.{timelines}
use Rattle.orderings.specs.MoreRows.{Grows, StrikesNothing}
use Rattle.orderings.proofs.Timelines.{lawful}
use Rattle.orderings.proofs.Claims.{open_dec}
use Rattle.orderings.proofs.Verdicts.{least_depth, least_depth_unique}
use Rattle.orderings.proofs.MoreRows.{depths_grow, accepts_grows, least_grows}
use Rattle.machine.specs.declared.Verdict.{Verdict}
use Rattle.machine.specs.declared.Verdict.TheVariants.{NonEmpty, Empty}
use Rattle.machine.specs.Machine.{Opening, Machine, load_row}
use Rattle.machine.specs.Calls.{Call, call, run}
use Rattle.machine.specs.WellFormed.{WellFormed}
use Rattle.machine.specs.Statements.{after_calls, Listed, Number, said, SaysNoLess, NeverLess, MoreRows}
use Rattle.machine.proofs.Tables.{load_sets}
use Rattle.machine.proofs.Outcomes.{EachCall, OfBatch, RowsAfter, kept_rows, loaded_rows, withdrawn_rows, rows_after}
use Rattle.machine.proofs.Marks.{calls_formed}
use Rattle.machine.proofs.Statements.{settled_number, settled_listed}

module _ (m m' : Machine) (w : WellFormed m) (w' : WellFormed m') (up : Grows m.rows m'.rows) where
  -- where the smaller is non-empty
  non_empty : (v' : Verdict) → Number m.rows NonEmpty m.rounds → Number m'.rows v' m'.rounds → (v' ≡ NonEmpty) × (m'.rounds ≤ m.rounds)
  non_empty NonEmpty n n' = (refl, least_grows m.rows m'.rows up m.rounds m'.rounds n.1 n'.1)
  non_empty Empty n n' = absurd (n'.0 (accepts_grows m.rows m'.rows up n.0))

  -- an opening of the smaller has a least depth in the larger, no greater
  opens : Listed m → Listed m' → (o : Opening) → o among m.openings → o.round ≤ m'.rounds → (k : ℕ) × (k ≤ o.round) × record { round = k; claim = o.claim } among m'.openings
  opens l l' o i h =
      let d = depths_grow m.rows m'.rows up o.claim o.round ((l.depths o).0 i).1.0 in
      let k = least_depth (timelines m'.rows) (lawful m'.rows) (open_dec m'.rows) o.claim (d.0, d.1, d.2) in
      let b : k.0 ≤ o.round = omega (arith, k.1.1 d.0 d.1 d.2, d.3) in
      (k.0, b, (l'.depths (record { round = k.0; claim = o.claim })).1 (omega (arith, b, h), k.1))

  pub never_less : NeverLess m m'
  never_less = record {
    claims = depths_grow m.rows m'.rows up;
    says = λ v v' e e'.
        let both : v ≡ NonEmpty → (v' ≡ NonEmpty) × (m'.rounds ≤ m.rounds) = λ i.
        non_empty v' (subst (λ (x : Verdict). Number m.rows x m.rounds) i (settled_number m w v e).0) (settled_number m' w' v' e').0 in
        record {
          verdict = λ i. (both i).0;
          number = λ i. (both i).1;
          listed = opens (settled_listed m w v e) (settled_listed m' w' v' e');
        };
  }

-- request C-15
pub more_rows : MoreRows
more_rows cs ds b d up = never_less (after_calls cs) (after_calls ds) (calls_formed cs b) (calls_formed ds d) up

-- no less both ways is the same: the verdict, the number of a non-empty one, and what both list
module _ (m m' : Machine) (l : Listed m) (v v' : Verdict) (n : SaysNoLess (said v m) (said v' m')) (n' : SaysNoLess (said v' m') (said v m)) where
  same_verdict : v ≡ v'
  same_verdict = by v v' n.verdict n'.verdict
    where
      by : (v v' : Verdict) → (v ≡ NonEmpty → v' ≡ NonEmpty) → (v' ≡ NonEmpty → v ≡ NonEmpty) → v ≡ v'
      by NonEmpty v' f g = sym (f refl)
      by Empty NonEmpty f g = g refl
      by Empty Empty f g = refl

  same_number : v ≡ NonEmpty → m.rounds ≡ m'.rounds
  same_number e = omega (arith, n.number e, n'.number (n.verdict e))

  same_opening : (o : Opening) → o among m.openings → o.round ≤ m'.rounds → o among m'.openings
  same_opening o i h =
      let a = (l.depths o).0 i in
      let p = n.listed o i h in
      let q = n'.listed (record { round = p.0; claim = o.claim }) p.2 (omega (arith, p.1, a.0)) in
      let b = (l.depths (record { round = q.0; claim = o.claim })).0 q.2 in
      let e = least_depth_unique (timelines m.rows) o.claim q.0 o.round b.1 a.1 in
      subst (λ (k : ℕ). record { round = k; claim = o.claim } among m'.openings) (omega (arith, p.1, q.1, e)) p.2

  pub no_less_both : (v ≡ v') × (v ≡ NonEmpty → m.rounds ≡ m'.rounds) × ((o : Opening) → o among m.openings → o.round ≤ m'.rounds → o among m'.openings)
  no_less_both = (same_verdict, same_number, same_opening)

-- ---- what grows

same_grows : (rows : List Row) → Grows rows rows
same_grows rows = ((λ r i. i), λ s i. i)

fed_grows : (rows rows' : List Row) (l : List ℕ) → Bytes l → StrikesNothing l → feed load_row rows l ≡ fed rows' → Grows rows rows'
fed_grows rows rows' l b n f = let o = (feed_runs load_row rows rows' l b).0 f in let is = load_sets rows rows' o.rows o.ran in
    ((λ r i. (is r).1 (inl i)), λ s i. ⊎_elim (λ j. j) (λ j. absurd (n o.rows o.fit o.whole s j)) ((is (Strike s)).0 i))

-- calls that withdraw nothing and strike nothing, with batches of bytes
abbrev OnlyAdds : Call → Type 0
OnlyAdds c = OfBatch (λ l. Bytes l × StrikesNothing l) (λ l. ⊥) c

abbrev pub EachOnlyAdds : List Call → Type 0
EachOnlyAdds cs = EachCall OnlyAdds cs

call_grows : (m : Machine) (c : Call) → OnlyAdds c → Grows m.rows (call m c).machine.rows
call_grows m c n = by (rows_after m c) n
  where
    by : {c : Call} {rows : List Row} → RowsAfter m c rows → OnlyAdds c → Grows m.rows rows
    by (kept_rows c) n = same_grows m.rows
    by (loaded_rows l rows f) n = fed_grows m.rows rows l n.0 n.1 f
    by (withdrawn_rows l rows f) n = absurd n

-- they take no row away and strike no state
pub run_grows : (m : Machine) (cs : List Call) → EachOnlyAdds cs → Grows m.rows (run m cs).rows
run_grows m [] n = same_grows m.rows
run_grows m (c ∷ cs) n = let a = call_grows m c n.0 in let b = run_grows (call m c).machine cs n.1 in
    ((λ r i. b.0 r (a.0 r i)), λ s i. a.1 s (b.1 s i))

-- The rows that masks tell are those of the automaton that they hold: `masked_table`.
use Prim.Native.Nat.{◌/◌, ◌%◌, ◌≤◌, ◌<◌}
use mathlib.Core.Path.{◌≡◌, refl, ap, sym, ◌∙◌, subst}
use mathlib.Core.Logic.{⊎_elim}
use mathlib.Core.List.Memᴰ
use mathlib.Core.List.{List, ◌∷◌, ◌++◌}
use native.Mathlib.Omega.{arith}
use Rattle.lists.specs.Tests.{◌among◌, Once}
use Rattle.lists.specs.Order.{Sorted}
use Rattle.lists.proofs.Counting.{once_append}
use Rattle.lists.proofs.Sorting.{sorted_append}
use Rattle.masks.proofs.Member.{some_member}
use Rattle.rows.specs.declared.Row.{Row}
use Rattle.rows.specs.declared.Row.TheVariants.{Initial, Final}
use Rattle.rows.specs.Rows.{row_bytes}
use Rattle.rows.proofs.RowOrder.{row_kind, kind_order}
use Rattle.buchi_rows.specs.declared.BuchiMasks.{BuchiMasks}
use Rattle.hoa_files.specs.Automata.{Buchi, Readable}
use Rattle.hoa_files.specs.Tables.{RowOf, the_start, the_final, an_edge, a_limit, RowsOf}
use Rattle.hoa_files.specs.Reading.{edge_place, InMasks}
use Rattle.buchi_rows.specs.Writing.{edge_rows, limit_rows, masked_rows}
use Rattle.hoa_files.proofs.States.{edge_inside}
use Rattle.buchi_rows.proofs.Kept.{meet_decides}
use Rattle.hoa_files.proofs.Ordered.{edge_rows_out, limit_rows_out, edge_at, edge_rows_in, limit_rows_in, edge_rows_kind, limit_rows_kind, edge_rows_once, limit_rows_once, edge_rows_sorted, limit_rows_sorted}

-- the rows of the automaton that the masks hold
abbrev pub rows_of : BuchiMasks → List Row
rows_of a = masked_rows a.states a.start a.marked a.edges

module _ (h : Buchi) (a : BuchiMasks) (readable : Readable h) (held : InMasks h a) where
  abbrev edges_of : List Row
  edges_of = edge_rows a.edges

  abbrev limits_of : List Row
  limits_of = limit_rows a.states a.marked

  few_states : a.states ≤ 6
  few_states = omega (arith, readable.at_most_six, held.states_are)

  edge_is : (r : Row) → r among edges_of → RowOf h r
  edge_is r m =
      let x = edge_rows_out a.edges r m in
      let k = x.0 in
      let l : k < 36 = x.1 in
      let e : edge_place (k / 6) (k % 6) ≡ k = omega arith in
      subst (RowOf h) (sym x.3) (an_edge (k / 6) (k % 6) ((held.edges_are (k / 6) (k % 6) (omega arith) (omega arith)).0 (rw e x.2)))

  limit_is : (r : Row) → r among limits_of → RowOf h r
  limit_is r m =
      let x = limit_rows_out a.states a.marked r m in
      let y = (meet_decides x.0 a.marked).to x.3 in
      subst (RowOf h) (sym x.4) (a_limit x.0 y.0 (rw (← held.states_are) x.2) y.1 ((held.marked_are y.0).0 y.2))

  of_rows : (r : Row) → r among (Initial a.start ∷ Final 6 ∷ (edges_of ++ limits_of)) → RowOf h r
  of_rows r m = ⊎_elim (λ e. subst (RowOf h) (sym (e ∙ ap Initial held.start_is)) the_start) (λ n.
      ⊎_elim (λ e. rw e the_final) (λ i. ⊎_elim (edge_is r) (limit_is r) (Memᴰ.append_cases edges_of i)) (Memᴰ.cases_cons n)) (Memᴰ.cases_cons m)

  to_rows : (r : Row) → RowOf h r → r among (Initial a.start ∷ Final 6 ∷ (edges_of ++ limits_of))
  to_rows _ the_start = Memᴰ.head (ap Initial (sym held.start_is))
  to_rows _ the_final = Memᴰ.tail (Memᴰ.head refl)
  to_rows _ (an_edge p q e) =
      let x = edge_inside h readable p q e in
      let i : p < 6 = omega (arith, x.0, readable.at_most_six) in
      let j : q < 6 = omega (arith, x.1, readable.at_most_six) in
      let m = rw (edge_at p q j) at (edge_rows_in a.edges (edge_place p q) (omega arith) ((held.edges_are p q i j).1 e)) in
      Memᴰ.tail (Memᴰ.tail (Memᴰ.append_left limits_of m))
  to_rows _ (a_limit P m small i marked) =
      Memᴰ.tail
      (Memᴰ.tail
      (Memᴰ.append_right edges_of (limit_rows_in a.states a.marked P (some_member m P i) (rw held.states_are small) ((meet_decides P a.marked).of (m, i, (held.marked_are m).1 marked)))))

  later_kind : (r : Row) → r among (edges_of ++ limits_of) → 3 ≤ row_kind r
  later_kind r m =
      ⊎_elim (λ i. omega (arith, edge_rows_kind a.edges r i)) (λ i. omega (arith, limit_rows_kind a.states a.marked r i)) (Memᴰ.append_cases edges_of m)

  final_kind : (r : Row) → r among (Final 6 ∷ (edges_of ++ limits_of)) → 2 ≤ row_kind r
  final_kind r m = ⊎_elim (λ e. omega (arith, ap row_kind e)) (λ i. omega (arith, later_kind r i)) (Memᴰ.cases_cons m)

  all_once : Once (Initial a.start ∷ Final 6 ∷ (edges_of ++ limits_of))
  all_once = (
    (λ m. omega (arith, final_kind (Initial a.start) m)),
    (
      (λ m. omega (arith, later_kind (Final 6) m)),
      once_append edges_of limits_of (edge_rows_once a.edges) (limit_rows_once a.states a.marked)
          (λ r i j. omega (arith, edge_rows_kind a.edges r i, limit_rows_kind a.states a.marked r j)),
    ),
  )

  all_sorted : Sorted row_bytes (Initial a.start ∷ Final 6 ∷ (edges_of ++ limits_of))
  all_sorted = (
    (λ r m. kind_order (Initial a.start) r (final_kind r m)),
    (
      (λ r m. kind_order (Final 6) r (later_kind r m)),
      sorted_append row_bytes edges_of limits_of (edge_rows_sorted a.edges) (limit_rows_sorted a.states a.marked few_states)
          (λ r s i j. kind_order r s (omega (arith, edge_rows_kind a.edges r i, limit_rows_kind a.states a.marked s j))),
    ),
  )

  pub masked_table : RowsOf h (rows_of a)
  unfolding masked_rows
  masked_table = record { exactly = λ r. (of_rows r, to_rows r); once = all_once; sorted = all_sorted }

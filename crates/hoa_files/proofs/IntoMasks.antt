-- Every readable automaton has masks that hold it (`some_masks`), and so it has rows (`some_rows`).
use Prim.Native.Nat.{◌/◌, ◌%◌}
use mathlib.Core.Path.{◌≡◌, refl}
use mathlib.Core.List.{List}
use lib.ListN.{length}
use native.Mathlib.Omega.{arith}
use Rattle.masks.proofs.Marking.{some_mask}
use Rattle.rows.specs.declared.Row.{Row}
use Rattle.buchi_rows.specs.declared.BuchiMasks.{BuchiMasks}
use Rattle.hoa_files.specs.Automata.{Buchi, Readable}
use Rattle.hoa_files.specs.Tables.{Edge, IsMarked, RowsOf}
use Rattle.hoa_files.specs.Reading.{edge_place, InMasks}
use Rattle.hoa_files.proofs.States.{dec_marked, dec_edge, state_inside}
use Rattle.hoa_files.proofs.FromMasks.{masked_table, rows_of}

module _ (h : Buchi) where
  pub some_masks : Readable h → (a : BuchiMasks) × InMasks h a
  some_masks r =
      let m = some_mask (IsMarked h) (dec_marked h) 64 (omega arith) in
      let e = some_mask (λ k. Edge h (k / 6) (k % 6)) (λ k. dec_edge h (k / 6) (k % 6)) 64 (omega arith) in (
        record { states = length h.states; start = h.start; marked = m.0; edges = e.0; at_most_six = r.at_most_six },
        record {
          states_are = refl;
          start_is = refl;
          marked_are = λ p. ((λ i. ((m.1 p).0 i).1), λ x. (m.1 p).1 (omega (arith, (state_inside h p x.0 x.1).0, r.at_most_six), x));
          edges_are = λ p q i j.
              let a : edge_place p q / 6 ≡ p = omega arith in
              let b : edge_place p q % 6 ≡ q = omega arith in
              ((λ k. rw (a, b) at ((e.1 (edge_place p q)).0 k).1), λ x. (e.1 (edge_place p q)).1 (omega arith, rw (a, b) x));
        },
      )

  pub some_rows : Readable h → (rows : List Row) × RowsOf h rows
  some_rows r = let x = some_masks r in (rows_of x.0, masked_table h x.0 r x.1)

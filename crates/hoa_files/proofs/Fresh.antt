-- The rows of an automaton: what they are (`row_is`), that they fit and are few (`few_rows`, `few_sets`, `rows_table`), so that a fresh machine loads them
-- (`loads`), and that there is one list of them (`one_table`).
use Prim.Native.Nat.{ℕ, ◌≤◌, ◌<◌}
use mathlib.Core.Path.{◌≡◌, refl, ap, subst}
use mathlib.Core.List.Memᴰ
use mathlib.Core.List.{List, ◌∷◌, ◌++◌, map}
use lib.ListN.{length}
use native.Mathlib.Omega.{arith}
use Rattle.lists.specs.Tests.{◌among◌, gather, range}
use Rattle.lists.proofs.Deciding.{gather_in, map_in, range_in}
use Rattle.lists.proofs.Counting.{once_length}
use Rattle.masks.specs.Mask.{◌∈◌}
use Rattle.masks.proofs.Member.{some_member}
use Rattle.rows.specs.declared.Row.{Row}
use Rattle.rows.specs.declared.Row.TheVariants.{Initial, Final, Successor, LeftLimit, RightLimit, Strike}
use Rattle.rows.specs.Rows.{batch_of, Fits, sets_of, standing_sets}
use Rattle.rows.proofs.Sets.{sets_iff, sets_once}
use Rattle.machine.specs.Machine.{open_with, fresh}
use Rattle.machine.specs.Calls.{load, accept, call}
use Rattle.machine.specs.WellFormed.{Table}
use Rattle.machine.proofs.Tables.{same_table, sort_table}
use Rattle.machine.proofs.Loading.{loads_back}
use Rattle.hoa_files.specs.Automata.{Buchi, Readable}
use Rattle.hoa_files.specs.Tables.{Edge, IsMarked, SetOfStates, RowOf, the_start, the_final, an_edge, a_limit, RowsOf}
use Rattle.hoa_files.proofs.States.{edge_inside}
use Rattle.buchi_rows.proofs.Kept.{few_subsets}

-- the rows that there can be: 2, 36 and 63
abbrev edge_rows_from : ℕ → List Row
edge_rows_from p = map (λ q. Successor p 0 q) (range 0 6)

abbrev every_edge : List Row
every_edge = gather edge_rows_from (range 0 6)

abbrev every_limit : List Row
every_limit = map (λ P. LeftLimit P 6) (range 1 63)

abbrev every_row : ℕ → List Row
every_row start = Initial start ∷ Final 6 ∷ (every_edge ++ every_limit)

module _ (h : Buchi) where
  -- what a row is, by its kind
  abbrev pub IsRow : Row → Type 0
  IsRow (Initial s) = s ≡ h.start
  IsRow (Final s) = s ≡ 6
  IsRow (Successor p a q) = (a ≡ 0) × Edge h p q
  IsRow (LeftLimit P q) = (q ≡ 6) × SetOfStates h P × ((m : ℕ) × (m ∈ P) × IsMarked h m)
  IsRow (RightLimit q P) = ⊥
  IsRow (Strike s) = ⊥

  row_is : {r : Row} → RowOf h r → IsRow r
  row_is the_start = refl
  row_is the_final = refl
  row_is (an_edge p q e) = (refl, e)
  row_is (a_limit P m l i k) = (refl, l, (m, i, k))

  module _ (ok : Readable h) where
    -- a set of states with a state is a number from 1 to 63
    set_small : (P m : ℕ) → SetOfStates h P → m ∈ P → (0 < P) × (P < 64)
    set_small P m l i = (some_member m P i, omega (arith, few_subsets (length h.states) ok.at_most_six))

    row_fits : (r : Row) → IsRow r → Fits r
    row_fits (Initial s) e = omega (arith, ok.start_inside, ok.at_most_six)
    row_fits (Final s) e = omega arith
    row_fits (Successor p a q) e = let k = edge_inside h ok p q e.1 in
        (omega (arith, k.0, ok.at_most_six), omega (arith, e.0), omega (arith, k.1, ok.at_most_six))
    row_fits (LeftLimit P q) e = let k = set_small P e.2.0 e.1 e.2.1 in (k.0, omega (arith, k.1), omega (arith, e.0))
    row_fits (RightLimit q P) e = absurd e
    row_fits (Strike s) e = absurd e

    among_every : (r : Row) → IsRow r → r among every_row h.start
    among_every (Initial s) e = Memᴰ.head (ap Initial e)
    among_every (Final s) e = Memᴰ.tail (Memᴰ.head (ap Final e))
    among_every (Successor p a q) e = let k = edge_inside h ok p q e.1 in
        let i = range_in 0 6 p (omega arith) (omega (arith, k.0, ok.at_most_six)) in let j = range_in 0 6 q (omega arith) (omega (arith, k.1, ok.at_most_six)) in
        Memᴰ.tail (Memᴰ.tail (Memᴰ.append_left every_limit (Memᴰ.cast (ap (λ x. Successor p x q) e.0) (gather_in edge_rows_from i (map_in (λ q. Successor p 0 q) j)))))
    among_every (LeftLimit P q) e = let k = set_small P e.2.0 e.1 e.2.1 in let i = range_in 1 63 P k.0 (omega (arith, k.1)) in
        Memᴰ.tail (Memᴰ.tail (Memᴰ.append_right every_edge (Memᴰ.cast (ap (LeftLimit P) e.0) (map_in (λ P. LeftLimit P 6) i))))
    among_every (RightLimit q P) e = absurd e
    among_every (Strike s) e = absurd e

    set_in : (P : ℕ) (r : Row) → IsRow r → P among sets_of r → P among range 1 63
    set_in P (Initial s) e m = absurd (Memᴰ.not-nil m)
    set_in P (Final s) e m = absurd (Memᴰ.not-nil m)
    set_in P (Successor p a q) e m = absurd (Memᴰ.not-nil m)
    set_in P (LeftLimit Q q) e m = let k = set_small Q e.2.0 e.1 e.2.1 in let i = Memᴰ.eq_of_singleton m in
        range_in 1 63 P (omega (arith, k.0)) (omega (arith, k.1))
    set_in P (RightLimit q Q) e m = absurd e
    set_in P (Strike s) e m = absurd e

    module _ (rows : List Row) (of : RowsOf h rows) where
      pub standing : (r : Row) → r among rows → IsRow r
      standing r m = row_is ((of.exactly r).0 m)

      pub few_rows : length rows ≤ 101
      few_rows = let e : length (every_row h.start) ≡ 101 = refl in omega (arith, once_length rows (every_row h.start) of.once (λ r m. among_every r (standing r m)))

      pub few_sets : length (standing_sets rows) ≤ 63
      few_sets = once_length (standing_sets rows) (range 1 63) (sets_once rows) (λ P m. let s = (sets_iff rows P).0 m in set_in P s.0 (standing s.0 s.1) s.2)

      pub rows_table : Table rows
      rows_table = record { sorted = of.sorted; once = of.once; fit = λ r m. row_fits r (standing r m); few = omega (arith, few_rows); few_sets = omega (arith, few_sets) }

      -- a fresh machine loads them
      pub loads : call fresh (load (batch_of rows)) ≡ accept (open_with rows)
      loads = subst (λ (l : List Row). call fresh (load (batch_of l)) ≡ accept (open_with rows)) (sort_table rows rows_table) (loads_back (open_with rows) rows_table)

-- an automaton has one list of rows
pub one_table : (h : Buchi) (rows rows' : List Row) → Readable h → RowsOf h rows → RowsOf h rows' → rows ≡ rows'
one_table h rows rows' ok a b = same_table rows rows' (rows_table h ok rows a) (rows_table h ok rows' b) (λ r m. (b.exactly r).1 ((a.exactly r).0 m)) (λ r m. (a.exactly r).1 ((b.exactly r).0 m))

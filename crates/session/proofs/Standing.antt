-- The rows of an array, one after another: their keys, and the array of the rows of some keys.
use Prim.Native.Nat.{ℕ, suc, ◌+◌, ◌<◌, ◌≤◌}
use mathlib.Core.Path.{◌≡◌, refl, sym}
use mathlib.Core.List.{List, [], ◌∷◌, ◌++◌, map-append}
use native.Mathlib.Omega.{arith}
use lib.ListN.{length, get_or, take, set, length-append}
use lib.Seq.{take-suc, take-suc-set}
use Rattle.std.proofs.lemmas.List.{map-id}
use Rattle.sorted_keys.specs.declared.Key.{Key}
use Rattle.sorted_keys.specs.Keys.{key_at}
use Rattle.rows.specs.declared.Row.{Row}
use Rattle.rows.specs.Rows.{AllFit}
use Rattle.rows.specs.Keys.{key_of, row_of}
use Rattle.row_table.specs.Arrays.{padded, Keyed}
use Rattle.row_table.proofs.Keys.{fill_more, row_there}
use Rattle.session.specs.Record.{blank}
use Rattle.session.specs.Standing.{first_rows}

module _ (l : List Row) where
  -- one row more
  pub row_more : (i : ℕ) → i < length l → first_rows (i + 1) l ≡ first_rows i l ++ (get_or l i blank ∷ [])
  unfolding first_rows
  row_more i h = let e : i + 1 ≡ suc i = omega arith in rw e (take-suc l i blank h)

  -- one key more
  pub key_more : (i : ℕ) (keys : List Key) → i < length l → i < length keys → Keyed (first_rows i l) keys i
      → Keyed (first_rows (i + 1) l) (set keys i (key_of (get_or l i blank))) (i + 1)
  key_more i keys h g p =
      let e : i + 1 ≡ suc i = omega arith in
      let r = get_or l i blank in
      record {
        count = rw (row_more i h) (simp length-append (omega (arith, p.count)));
        keys_are = rw (row_more i h, e, take-suc-set keys i (key_of r) g, p.keys_are) (sym (map-append key_of (first_rows i l) (r ∷ [])));
      }

  pub no_key : (keys : List Key) → Keyed (first_rows 0 l) keys 0
  unfolding first_rows
  no_key keys = record { count = refl; keys_are = refl }

module _ (rows : List Row) (fit : AllFit rows) (keys : List Key) (n : ℕ) (keyed : Keyed rows keys n) where
  -- the array with one row more
  pub slot_more : (i : ℕ) → i < n → n ≤ 256 → set (padded 256 blank (take i rows)) i (row_of (key_at keys i)) ≡ padded 256 blank (take (i + 1) rows)
  slot_more i h g = rw (row_there rows keys n keyed fit i h, ← map-id (take i rows), ← map-id (take (i + 1) rows))
      (fill_more 256 blank (λ r. r) rows i (omega (arith, keyed.count)) (omega (arith, keyed.count)))

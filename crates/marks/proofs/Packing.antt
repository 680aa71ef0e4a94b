-- Keys packed key by key (`pack_more`), and unpacked place by place (`unpack_more`, `unpacked_at`); those of a machine's rows (`unpacked_holds`).
use Prim.Native.Nat.{ℕ, zero, suc, ◌+◌, ◌%◌, ◌<◌, ◌≤◌}
use mathlib.Core.Path.{◌≡◌, refl, ap, sym, ◌∙◌}
use mathlib.Core.List.{List, [], ◌∷◌, ◌++◌, map}
use native.Mathlib.Omega.{arith}
use native.Mathlib.Numerals.{add-one}
use lib.ListN.{length, get_or, take, set, length-map, get_or-append}
use lib.Seq.{take-suc, take-suc-set}
use Rattle.std.proofs.lemmas.List.{take-map}
use Rattle.lists.proofs.Places.{get_or_among, get_or_map}
use Rattle.rows.specs.declared.Row.{Row}
use Rattle.rows.specs.Rows.{AllFit}
use Rattle.sorted_keys.specs.declared.Key.{Key}
use Rattle.sorted_keys.specs.Keys.{key_at}
use Rattle.rows.specs.Keys.{high, low, key_of}
use Rattle.rows.proofs.Keys.{low_short}
use Rattle.machine.specs.Machine.{Machine}
use Rattle.row_table.specs.Arrays.{padded, Keyed}
use Rattle.row_table.proofs.Keys.{none, held_key, fill_more}
use Rattle.marks.specs.declared.Kept.{Kept}
use Rattle.marks.specs.Record.{kept_of}
use Rattle.marks.specs.Promise.{unpacked}

-- the first i keys, packed
abbrev pub packed : List Row → List ℕ → List ℕ → ℕ → Type 0
packed rows first second i = (first ≡ padded 256 0 (map high (take i rows))) × (second ≡ padded 256 0 (map low (take i rows)))

module _ (rows : List Row) (fit : AllFit rows) (keys : List Key) (n : ℕ) (k : Keyed rows keys n) (few : n ≤ 256) where
  pub pack_more : (first second : List ℕ) (i : ℕ) → i < n → packed rows first second i
      → packed rows (set first i (key_at keys i).high) (set second i ((key_at keys i).low % 65536)) (i + 1)
  pack_more first second i h p =
      let r = get_or rows i none in
      let in_rows : i < length rows = omega (arith, k.count) in
      let few_rows : length rows ≤ 256 = omega (arith, k.count) in
      let held = held_key rows keys n k i h in
      let word : (key_at keys i).low % 65536 ≡ low r = rw held (omega (arith, low_short r (fit r (get_or_among rows i none in_rows)))) in (
        rw (p.0, ap (λ (x : Key). x.high) held) (fill_more 256 0 high rows i in_rows few_rows),
        rw (p.1, word) (fill_more 256 0 low rows i in_rows few_rows),
      )

-- one more of a list that is copied place by place
pub unpack_more : {A : Type 0} (d : A) (l r : List A) (i : ℕ) → i < length l → i < length r → take i r ≡ take i l → take (i + 1) (set r i (get_or l i d)) ≡ take (i + 1) l
unpack_more d l r i h g e = rw (add-one i, take-suc-set r i (get_or l i d) g, take-suc l i d h, e) refl

-- the keys that have some words are as many, and have them place by place
pub unpacked_length : (highs lows : List ℕ) → length highs ≡ length lows → length (unpacked highs lows) ≡ length highs
unpacked_length [] lows e = refl
unpacked_length (x ∷ highs) [] e = absurd (omega arith)
unpacked_length (x ∷ highs) (y ∷ lows) e = ap suc (unpacked_length highs lows (omega arith))

pub unpacked_at : (highs lows : List ℕ) (i : ℕ) → i < length highs → i < length lows
    → key_at (unpacked highs lows) i ≡ record { high = get_or highs i 0; low = get_or lows i 0 }
unpacked_at [] lows i h g = absurd (omega arith)
unpacked_at (x ∷ highs) [] i h g = absurd (omega arith)
unpacked_at (x ∷ highs) (y ∷ lows) zero h g = refl
unpacked_at (x ∷ highs) (y ∷ lows) (suc i) h g = unpacked_at highs lows i (omega arith) (omega arith)

-- the keys of rows, of which the words are, whatever follows these
unpacked_rows : (rows : List Row) (a b : List ℕ) → take (length rows) (unpacked (map high rows ++ a) (map low rows ++ b)) ≡ map key_of rows
unpacked_rows [] a b = refl
unpacked_rows (r ∷ rows) a b = ap (λ (l : List Key). key_of r ∷ l) (unpacked_rows rows a b)

-- so they are those of the machine of which the words are kept
pub unpacked_holds : (k : Kept) (keys : List Key) (n : ℕ) → n ≡ k.row_count → keys ≡ unpacked k.high k.low → (m : Machine) → k ≡ kept_of m → Keyed m.rows keys n
unfolding kept_of
unpacked_holds k keys n c u m e =
    let count : n ≡ length m.rows = c ∙ ap (λ (k : Kept). k.row_count) e in
    record { count = count; keys_are = rw (count, u, e) (unpacked_rows m.rows _ _) }

-- one key more, of the words that are kept of rows
module _ (rows : List Row) (i : ℕ) (here : i < length rows) where
  word_at : (f : Row → ℕ) → get_or (padded 256 0 (map f rows)) i 0 ≡ f (get_or rows i none)
  word_at f =
      let in_map : i < length (map f rows) = rw (length-map rows f) here in
      get_or-append (map f rows) _ 0 i in_map ∙ get_or_map f rows i none 0 here

  pub unpack_row : (keys : List Key) → length keys ≡ 256 → length rows ≤ 256 → take i keys ≡ map key_of (take i rows)
      → take (i + 1) (set keys i (record { high = get_or (padded 256 0 (map high rows)) i 0; low = get_or (padded 256 0 (map low rows)) i 0 })) ≡ map key_of (take (i + 1) rows)
  unpack_row keys l few now =
      let in_keys : i < length (map key_of rows) = rw (length-map rows key_of) here in
      let same : take i keys ≡ take i (map key_of rows) = now ∙ sym (take-map key_of i rows) in
      rw (word_at high, word_at low, ← get_or_map key_of rows i none (key_of none) here, ← take-map key_of (i + 1) rows)
      (unpack_more (key_of none) (map key_of rows) keys i in_keys (omega arith) same)

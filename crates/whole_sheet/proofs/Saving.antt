-- The rows of keys, and their bytes.
use Prim.Native.Nat.{ℕ}
use mathlib.Core.Path.{◌≡◌, refl, ap}
use mathlib.Core.List.{List, [], ◌∷◌, ◌++◌}
use Rattle.lists.specs.Tests.{gather}
use Rattle.sorted_keys.specs.declared.Key.{Key}
use Rattle.rows.specs.Rows.{row_bytes, batch_of}
use Rattle.rows.specs.Keys.{row_of}
use Rattle.whole_sheet.specs.Saving.{rows_of}

-- the bytes of the row of a key
abbrev pub key_bytes : Key → List ℕ
key_bytes k = row_bytes (row_of k)

-- key by key
pub all_key_bytes : (keys : List Key) → batch_of (rows_of keys) ≡ gather key_bytes keys
all_key_bytes [] = refl
all_key_bytes (k ∷ keys) = ap (λ (l : List ℕ). key_bytes k ++ l) (all_key_bytes keys)

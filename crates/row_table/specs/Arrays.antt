-- A table of rows in arrays: the keys of its rows in order, and its sets.
use Rattle.std.specs.Prelude.{ℕ, ◌-◌, ◌≡◌, List, ◌++◌, map, length, take, replicate, Result, Ok, Err}
use Rattle.causes.specs.Numbers.{number_of}
use Rattle.sorted_keys.specs.declared.Key.{Key}
use Rattle.rows.specs.declared.Row.{Row}
use Rattle.rows.specs.Rows.{standing_sets}
use Rattle.rows.specs.Keys.{key_of}
use Rattle.rows.specs.Batch.{Fed, fed, failed, feed}
use Rattle.machine.specs.declared.Refusal.{Refusal}
use Rattle.machine.specs.Machine.{load_row, withdraw_row}
use Rattle.machine.specs.WellFormed.{Table}

-- a list filled up to n with x
abbrev pub padded : {A : Type 0} → ℕ → A → List A → List A
padded n x l = l ++ replicate (n - length l) x

-- the first n places of an array hold the keys of the rows, in order
pub record Keyed (rows : List Row) (keys : List Key) (n : ℕ) : Type 0 where
  pub count : n ≡ length rows
  pub keys_are : take n keys ≡ map key_of rows

-- an array holds the k sets of the rows, rising, and then zeros
pub record SetsIn (rows : List Row) (sets : List ℕ) (k : ℕ) : Type 0 where
  pub count : k ≡ length (standing_sets rows)
  pub sets_are : sets ≡ padded 64 0 (standing_sets rows)

-- arrays that hold a table: the keys of its n rows, and its k sets
abbrev pub Filed : List Key → List ℕ → ℕ → ℕ → List Row → Type 0
Filed keys sets n k rows = Keyed rows keys n × SetsIn rows sets k

-- what a batch comes to: a result of which something holds with the rows that it leads to, or the first row that fails gives its number and its place
abbrev pub Comes : {A : Type 0} → (A → List Row → Type 0) → Fed (List Row) → Result A Refusal → Type 0
Comes Has (fed rows) (Ok x) = Table rows × Has x rows
Comes Has (fed rows) (Err r) = ⊥
Comes Has (failed n place) (Ok x) = ⊥
Comes Has (failed n place) (Err r) = (number_of r.cause ≡ n) × (r.place ≡ place)

-- a batch loaded into the table that the arrays held, and one withdrawn from it
abbrev pub Loads : {A : Type 0} → List Row → List ℕ → (A → List Row → Type 0) → Result A Refusal → Type 0
Loads rows batch Has r = Comes Has (feed load_row rows batch) r

abbrev pub Withdraws : {A : Type 0} → List Row → List ℕ → (A → List Row → Type 0) → Result A Refusal → Type 0
Withdraws rows batch Has r = Comes Has (feed withdraw_row rows batch) r

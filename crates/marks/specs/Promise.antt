-- What the functions on marks promise, of every list of marks that the record stands for.
use Rattle.std.specs.Prelude.{ℕ, suc, ◌≤◌, ◌≡◌, cond, List, [], ◌∷◌, length, Option, None, Some}
use Rattle.std.proofs.Math.Option.{some}
use Rattle.lists.specs.Tests.{◌among◌}
use Rattle.sorted_keys.specs.declared.Key.{Key}
use Rattle.rows.specs.Rows.{AllFit, same_numbers}
use Rattle.machine.specs.declared.Phase.{Phase}
use Rattle.machine.specs.Machine.{Machine}
use Rattle.machine.specs.Marks.{most_marks, Name, Mark, kept_under, mark_under}
use Rattle.row_table.specs.Arrays.{Keyed}
use Rattle.row_table.specs.declared.RowKeys.{RowKeys}
use Rattle.marks.specs.declared.Kept.{Kept}
use Rattle.marks.specs.declared.Marks.{Marks}
use Rattle.marks.specs.Record.{kept_of, marks_of}

-- what is kept of a machine, the keys of whose rows are the first n
abbrev pub Keeps : List Key → ℕ → Phase → ℕ → Kept → Type 0
Keeps keys n phase rounds r = (m : Machine) → AllFit m.rows → Keyed m.rows keys n → phase ≡ m.phase → rounds ≡ m.rounds → r ≡ kept_of m

-- the keys that have the words
abbrev pub unpacked : List ℕ → List ℕ → List Key
unpacked [] lows = []
unpacked (x ∷ highs) [] = []
unpacked (x ∷ highs) (y ∷ lows) = record { high = x; low = y } ∷ unpacked highs lows

-- the same words at all places, and the same count
abbrev pub Unpacks : Kept → RowKeys → Type 0
Unpacks k r = (r.count ≡ k.row_count) × (r.keys ≡ unpacked k.high k.low)

-- the keys of the rows of the machine of which it is kept
abbrev pub HoldsKeys : Kept → RowKeys → Type 0
HoldsKeys k r = (m : Machine) → k ≡ kept_of m → Keyed m.rows r.keys r.count

-- the place of the mark with the name, or that of a new one
abbrev pub place_under : List ℕ → List Mark → ℕ
place_under name [] = 0
place_under name (k ∷ l) = cond (same_numbers name k.name) 0 (suc (place_under name l))

-- the record of at most four marks, whose names are names
pub record StandsFor (s : Marks) (l : List Mark) : Type 0 where
  pub named : (k : Mark) → k among l → Name k.name
  pub few : length l ≤ most_marks
  pub whole : s ≡ marks_of l

-- a name, and its place
pub record PlaceFound (s : Marks) (name : List ℕ) (at : ℕ) : Type 0 where
  pub is_name : Name name
  pub within : at ≤ s.count
  pub place_is : (l : List Mark) → StandsFor s l → at ≡ place_under name l

abbrev pub FindsPlace : Marks → List ℕ → Option ℕ → Type 0
FindsPlace s name None = ¬ Name name
FindsPlace s name (Some i) = PlaceFound s name i

-- a machine is marked under the name
abbrev pub PutsMark : Marks → ℕ → List ℕ → Kept → Marks → Type 0
PutsMark s at name kept r = (l : List Mark) (m : Machine) → StandsFor s l → at ≡ place_under name l → kept ≡ kept_of m → r ≡ marks_of (mark_under name m l)

-- what is kept under the name whose place it is
abbrev pub HoldsKept : Marks → ℕ → Kept → Type 0
HoldsKept s at r = (l : List Mark) (name : List ℕ) (m : Machine) → StandsFor s l → at ≡ place_under name l → kept_under name l ≡ some m → r ≡ kept_of m

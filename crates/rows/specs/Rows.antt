-- Document 01, "Rows and the batch", with request C-18's kind 6: the bytes of a row, and the sets of rows.
use Rattle.std.specs.Prelude.{ℕ, zero, suc, ◌/◌, ◌%◌, ◌^◌, ◌<◌, Bool, true, false, ◌&&◌, List, [], ◌∷◌, ◌++◌, eqb}
use Rattle.lists.specs.Tests.{◌among◌, any, gather}
use Rattle.lists.specs.Order.{insert_by}
use Rattle.rows.specs.declared.Row.{Row}
use Rattle.rows.specs.declared.Row.TheVariants.{Initial, Final, Successor, LeftLimit, RightLimit, Strike}

-- the n low bytes of x, most significant first
abbrev pub big : ℕ → ℕ → List ℕ
big zero x = []
big (suc n) x = x / 256 ^ n % 256 ∷ big n x

-- one byte of kind, then a body whose length the kind fixes; a set is eight bytes
unfoldable pub row_bytes : Row → List ℕ
row_bytes (Initial s) = 1 ∷ s ∷ []
row_bytes (Final s) = 2 ∷ s ∷ []
row_bytes (Successor p a q) = 3 ∷ p ∷ a ∷ q ∷ []
row_bytes (LeftLimit P q) = 4 ∷ (big 8 P ++ (q ∷ []))
row_bytes (RightLimit q P) = 5 ∷ q ∷ big 8 P
row_bytes (Strike s) = 6 ∷ s ∷ []

-- in a batch rows follow one another without a gap or a count
abbrev pub batch_of : List Row → List ℕ
batch_of rows = gather row_bytes rows

-- a state is 0 to 63, a letter 0 to 255, and a set a number of eight bytes that is not 0
abbrev pub Fits : Row → Type 0
Fits (Initial s) = s < 64
Fits (Final s) = s < 64
Fits (Successor p a q) = (p < 64) × (a < 256) × (q < 64)
Fits (LeftLimit P q) = (0 < P) × (P < 256 ^ 8) × (q < 64)
Fits (RightLimit q P) = (0 < P) × (P < 256 ^ 8) × (q < 64)
Fits (Strike s) = s < 64

-- every row of the list does
abbrev pub AllFit : List Row → Type 0
AllFit rows = (r : Row) → r among rows → Fits r

-- a batch, or a buffer: any bytes
abbrev pub Bytes : List ℕ → Type 0
Bytes l = (b : ℕ) → b among l → b < 256

-- the set of a row, if it has one
abbrev pub sets_of : Row → List ℕ
sets_of (Initial s) = []
sets_of (Final s) = []
sets_of (Successor p a q) = []
sets_of (LeftLimit P q) = P ∷ []
sets_of (RightLimit q P) = P ∷ []
sets_of (Strike s) = []

-- P is a set of a standing row
abbrev pub SetOf : List Row → ℕ → Type 0
SetOf rows P = (r : Row) × r among rows × P among sets_of r

-- one number more in a rising list, unless it is there
abbrev pub add_new : ℕ → List ℕ → List ℕ
add_new x l = elim (any (eqb x) l) [ true ↦ l | false ↦ insert_by (λ y. y ∷ []) x l ]

abbrev pub distinct : List ℕ → List ℕ
distinct [] = []
distinct (x ∷ l) = add_new x (distinct l)

-- the different sets of the rows, rising
unfoldable pub standing_sets : List Row → List ℕ
standing_sets rows = distinct (gather sets_of rows)

-- a row's kind and the numbers of its body
abbrev pub numbers : Row → List ℕ
numbers (Initial s) = 1 ∷ s ∷ []
numbers (Final s) = 2 ∷ s ∷ []
numbers (Successor p a q) = 3 ∷ p ∷ a ∷ q ∷ []
numbers (LeftLimit P q) = 4 ∷ P ∷ q ∷ []
numbers (RightLimit q P) = 5 ∷ q ∷ P ∷ []
numbers (Strike s) = 6 ∷ s ∷ []

abbrev pub same_numbers : List ℕ → List ℕ → Bool
same_numbers [] [] = true
same_numbers [] (y ∷ m) = false
same_numbers (x ∷ l) [] = false
same_numbers (x ∷ l) (y ∷ m) = eqb x y && same_numbers l m

-- the two rows are one
unfoldable pub same_row : Row → Row → Bool
same_row r s = same_numbers (numbers r) (numbers s)

-- the row stands
abbrev pub stands? : Row → List Row → Bool
stands? r rows = any (same_row r) rows

-- Document 01, "Rows and the batch" and causes 2 to 5 of "Causes and numbers", with request C-18's kind 6: the row at the head of some bytes.
use Rattle.std.specs.Prelude.{ℕ, ◌+◌, ◌*◌, ◌≤◌, ◌<◌, ◌≡◌, cond, ◌&&◌, List, [], ◌∷◌, eqb, ltb, leb, length, take, drop, get_or, Option, None, Some, Result, Ok, Err}
use Rattle.causes.specs.declared.Cause.{Cause}
use Rattle.causes.specs.declared.Cause.TheVariants.{UnknownKind, CutShort, HighState, ZeroSet}
use Rattle.lists.specs.Tests.{◌among◌, any}
use Rattle.rows.specs.declared.Row.{Row}
use Rattle.rows.specs.declared.Row.TheVariants.{Initial, Final, Successor, LeftLimit, RightLimit, Strike}

-- the number of some bytes, most significant first, after x
abbrev pub number : List ℕ → ℕ → ℕ
number [] x = x
number (b ∷ l) x = number l (x * 256 + b)

-- the set at place i
unfoldable pub set_at : List ℕ → ℕ → ℕ
set_at l i = number (take 8 (drop i l)) 0

-- kinds are 1 to this
abbrev pub last_kind : ℕ
last_kind = 6

abbrev pub Known : ℕ → Type 0
Known k = (1 ≤ k) × (k ≤ last_kind)

-- by the kind: the bytes of a row, the places of its states, and that of its set
abbrev pub width : ℕ → ℕ
width k = get_or (0 ∷ 2 ∷ 2 ∷ 4 ∷ 10 ∷ 10 ∷ 2 ∷ []) k 0

abbrev pub state_places : ℕ → List ℕ
state_places k = get_or ([] ∷ (1 ∷ []) ∷ (1 ∷ []) ∷ (1 ∷ 3 ∷ []) ∷ (9 ∷ []) ∷ (1 ∷ []) ∷ (1 ∷ []) ∷ []) k []

abbrev pub set_places : ℕ → List ℕ
set_places k = get_or ([] ∷ [] ∷ [] ∷ [] ∷ (1 ∷ []) ∷ (2 ∷ []) ∷ [] ∷ []) k []

-- the row of a known kind
unfoldable pub row_at : ℕ → List ℕ → Row
row_at k l =
    cond (eqb k 1) (Initial (get_or l 1 0))
    (cond (eqb k 2) (Final (get_or l 1 0))
    (cond (eqb k 3) (Successor (get_or l 1 0) (get_or l 2 0) (get_or l 3 0))
    (cond (eqb k 4) (LeftLimit (set_at l 1) (get_or l 9 0))
    (cond (eqb k 5) (RightLimit (get_or l 1 0) (set_at l 2))
    (Strike (get_or l 1 0))))))

-- cut short where there are fewer bytes than a width, a high state where one of the states at some places is above 63, else c
abbrev pub cut_or_high : ℕ → List ℕ → List ℕ → Option Cause → Option Cause
cut_or_high w places l c = cond (ltb (length l) w) (Some CutShort) (cond (any (λ i. ltb 63 (get_or l i 0)) places) (Some HighState) c)

-- the cause of the lowest number that refuses a row of a kind, if one does
unfoldable pub row_cause : ℕ → List ℕ → Option Cause
row_cause k l =
    cond (ltb 0 k && leb k last_kind)
    (cut_or_high (width k) (state_places k) l (cond (any (λ j. eqb (set_at l j) 0) (set_places k)) (Some ZeroSet) None))
    (Some UnknownKind)

-- x, unless a cause refuses it
abbrev pub unless : {A : Type 0} → Option Cause → A → Result A Cause
unless None x = Ok x
unless (Some c) x = Err c

-- the row at the head of the bytes and its width, or the cause that refuses it
unfoldable pub read_row : List ℕ → Result (Row × ℕ) Cause
read_row [] = Err CutShort
read_row (k ∷ l) = unless (row_cause k (k ∷ l)) (row_at k (k ∷ l), width k)

-- the kind at the head of the bytes
abbrev pub Headed : ℕ → List ℕ → Type 0
Headed k l = (0 < length l) × (get_or l 0 0 ≡ k)

-- a kind of rows that have a state and a set, each at its place
abbrev pub LimitAt : ℕ → ℕ → ℕ → Type 0
LimitAt k i j = (4 ≤ k) × (k ≤ 5) × (state_places k ≡ i ∷ []) × (set_places k ≡ j ∷ [])

-- a row that no cause refuses, or its cause
abbrev pub row_checked : List ℕ → Result (Unit {0}) Cause
row_checked l = unless (row_cause (get_or l 0 0) l) tt

-- the set at place j of a row that no cause refuses, or its cause
abbrev pub set_read : List ℕ → ℕ → Result ℕ Cause
set_read l j = unless (row_cause (get_or l 0 0) l) (set_at l j)

-- the kind at the head of the bytes, of which a whole row is there
abbrev pub Whole : ℕ → List ℕ → Type 0
Whole k l = (get_or l 0 0 ≡ k) × Known k × (width k ≤ length l)

-- causes 2 to 5 as the table has them; within a row the lowest number decides
pub data Malformed (l : List ℕ) : ℕ → Type 0 where
  unknown_kind : ¬ Known (get_or l 0 0) → Malformed l 2
  cut_short : Known (get_or l 0 0) → length l < width (get_or l 0 0) → Malformed l 3
  high_state : (k i : ℕ) → Whole k l → i among state_places k → 63 < get_or l i 0 → Malformed l 4
  zero_set : (k j : ℕ) → Whole k l → ((i : ℕ) → i among state_places k → get_or l i 0 ≤ 63) → j among set_places k → set_at l j ≡ 0 → Malformed l 5

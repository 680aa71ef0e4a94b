-- Document 01, "Rows and the batch" and causes 2 to 5, with request C-18's kind 6, at the numbers that they name, computed: the bytes of each kind of row (`kinds_in_bytes`),
-- and what the reader says of them (`rows_read`, `states_to_63`, `sets_not_0`, `kinds_1_to_6`, `lowest_number`),
-- and which rows have a set (`sets_of_limits_alone`).
use mathlib.Core.Path.{◌≡◌, refl}
use mathlib.Core.List.{[], ◌∷◌}
use Rattle.rows.specs.declared.Row.TheVariants.{Initial, Final, Successor, LeftLimit, RightLimit, Strike}
use Rattle.std.specs.Prelude.{Ok, Err}
use Rattle.causes.specs.declared.Cause.TheVariants.{UnknownKind, CutShort, HighState, ZeroSet}
use Rattle.rows.specs.Rows.{row_bytes, standing_sets}
use Rattle.rows.specs.Reading.{set_at, row_at, row_cause, read_row}

-- the kind, then the body; a set is eight bytes, most significant first
pub kinds_in_bytes : (row_bytes (Initial 5) ≡ 1 ∷ 5 ∷ [])
    × (row_bytes (Final 6) ≡ 2 ∷ 6 ∷ [])
    × (row_bytes (Successor 5 97 6) ≡ 3 ∷ 5 ∷ 97 ∷ 6 ∷ [])
    × (row_bytes (LeftLimit 0x8100000000000302 5) ≡ 4 ∷ 0x81 ∷ 0 ∷ 0 ∷ 0 ∷ 0 ∷ 0 ∷ 3 ∷ 2 ∷ 5 ∷ [])
    × (row_bytes (RightLimit 5 0x8100000000000302) ≡ 5 ∷ 5 ∷ 0x81 ∷ 0 ∷ 0 ∷ 0 ∷ 0 ∷ 0 ∷ 3 ∷ 2 ∷ [])
    × (row_bytes (Strike 5) ≡ 6 ∷ 5 ∷ [])
unfolding row_bytes
kinds_in_bytes = (refl, refl, refl, refl, refl, refl)

-- state 63 and letter 255 are read; what follows the row is left
pub rows_read : (read_row (1 ∷ 63 ∷ 9 ∷ []) ≡ Ok (Initial 63, 2))
    × (read_row (2 ∷ 63 ∷ []) ≡ Ok (Final 63, 2))
    × (read_row (3 ∷ 63 ∷ 255 ∷ 62 ∷ []) ≡ Ok (Successor 63 255 62, 4))
    × (read_row (4 ∷ 0x81 ∷ 0 ∷ 0 ∷ 0 ∷ 0 ∷ 0 ∷ 3 ∷ 2 ∷ 63 ∷ []) ≡ Ok (LeftLimit 0x8100000000000302 63, 10))
    × (read_row (5 ∷ 63 ∷ 0x81 ∷ 0 ∷ 0 ∷ 0 ∷ 0 ∷ 0 ∷ 3 ∷ 2 ∷ []) ≡ Ok (RightLimit 63 0x8100000000000302, 10))
    × (read_row (6 ∷ 63 ∷ 9 ∷ []) ≡ Ok (Strike 63, 2))
unfolding set_at row_at row_cause read_row
rows_read = (refl, refl, refl, refl, refl, refl)

-- state 64 is refused at each place of a state
pub states_to_63 : (read_row (1 ∷ 64 ∷ []) ≡ Err HighState)
    × (read_row (2 ∷ 64 ∷ []) ≡ Err HighState)
    × (read_row (3 ∷ 64 ∷ 7 ∷ 0 ∷ []) ≡ Err HighState)
    × (read_row (3 ∷ 0 ∷ 7 ∷ 64 ∷ []) ≡ Err HighState)
    × (read_row (4 ∷ 0 ∷ 0 ∷ 0 ∷ 0 ∷ 0 ∷ 0 ∷ 0 ∷ 1 ∷ 64 ∷ []) ≡ Err HighState)
    × (read_row (5 ∷ 64 ∷ 0 ∷ 0 ∷ 0 ∷ 0 ∷ 0 ∷ 0 ∷ 0 ∷ 1 ∷ []) ≡ Err HighState)
    × (read_row (6 ∷ 64 ∷ []) ≡ Err HighState)
unfolding set_at row_at row_cause read_row
states_to_63 = (refl, refl, refl, refl, refl, refl, refl)

-- the set 0 is refused in each kind that has one
pub sets_not_0 : (read_row (4 ∷ 0 ∷ 0 ∷ 0 ∷ 0 ∷ 0 ∷ 0 ∷ 0 ∷ 0 ∷ 1 ∷ []) ≡ Err ZeroSet) × (read_row (5 ∷ 1 ∷ 0 ∷ 0 ∷ 0 ∷ 0 ∷ 0 ∷ 0 ∷ 0 ∷ 0 ∷ []) ≡ Err ZeroSet)
unfolding set_at row_at row_cause read_row
sets_not_0 = (refl, refl)

pub kinds_1_to_6 : (read_row (0 ∷ 1 ∷ []) ≡ Err UnknownKind) × (read_row (7 ∷ 1 ∷ []) ≡ Err UnknownKind) × (read_row (255 ∷ 1 ∷ []) ≡ Err UnknownKind)
unfolding set_at row_at row_cause read_row
kinds_1_to_6 = (refl, refl, refl)

-- no such kind before cut short, cut short before a high state, a high state before the set 0
pub lowest_number : (read_row (7 ∷ []) ≡ Err UnknownKind)
    × (read_row (6 ∷ []) ≡ Err CutShort)
    × (read_row (3 ∷ 64 ∷ 7 ∷ []) ≡ Err CutShort)
    × (read_row (5 ∷ 64 ∷ 0 ∷ 0 ∷ 0 ∷ 0 ∷ 0 ∷ 0 ∷ 0 ∷ []) ≡ Err CutShort)
    × (read_row (4 ∷ 0 ∷ 0 ∷ 0 ∷ 0 ∷ 0 ∷ 0 ∷ 0 ∷ 0 ∷ 64 ∷ []) ≡ Err HighState)
    × (read_row (5 ∷ 64 ∷ 0 ∷ 0 ∷ 0 ∷ 0 ∷ 0 ∷ 0 ∷ 0 ∷ 0 ∷ []) ≡ Err HighState)
unfolding set_at row_at row_cause read_row
lowest_number = (refl, refl, refl, refl, refl, refl)

-- the two kinds of limit rows have a set, and no other kind has one: not a strike either
pub sets_of_limits_alone : standing_sets (Strike 10 ∷ RightLimit 8 9 ∷ Initial 1 ∷ Final 2 ∷ Successor 3 4 5 ∷ LeftLimit 6 7 ∷ []) ≡ 6 ∷ 9 ∷ []
unfolding standing_sets
sets_of_limits_alone = refl

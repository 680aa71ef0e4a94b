-- A row's key: the number of its bytes, filled with zeros to ten, in two words; and a row's set.
use Rattle.std.specs.Prelude.{ℕ, ◌+◌, ◌*◌, ◌/◌, ◌%◌, ◌^◌, cond, eqb, Option, None, Some}
use Rattle.sorted_keys.specs.declared.Key.{Key}
use Rattle.rows.specs.declared.Row.{Row}
use Rattle.rows.specs.declared.Row.TheVariants.{Initial, Final, Successor, LeftLimit, RightLimit, Strike}

-- the first eight bytes
unfoldable pub high : Row → ℕ
high (Initial s) = 1 * 256 ^ 7 + s * 256 ^ 6
high (Final s) = 2 * 256 ^ 7 + s * 256 ^ 6
high (Successor p a q) = 3 * 256 ^ 7 + p * 256 ^ 6 + a * 256 ^ 5 + q * 256 ^ 4
high (LeftLimit P q) = 4 * 256 ^ 7 + P / 256
high (RightLimit q P) = 5 * 256 ^ 7 + q * 256 ^ 6 + P / 65536
high (Strike s) = 6 * 256 ^ 7 + s * 256 ^ 6

-- the last two
unfoldable pub low : Row → ℕ
low (Initial s) = 0
low (Final s) = 0
low (Successor p a q) = 0
low (LeftLimit P q) = P % 256 * 256 + q
low (RightLimit q P) = P % 65536
low (Strike s) = 0

abbrev pub key_of : Row → Key
key_of r = record { high = high r; low = low r }

-- the row of a key, by its kind; a strike where the kind is none of the others
unfoldable pub row_from : ℕ → ℕ → Row
row_from h l =
    cond (eqb (h / 256 ^ 7) 1) (Initial (h / 256 ^ 6 % 256))
    (cond (eqb (h / 256 ^ 7) 2) (Final (h / 256 ^ 6 % 256))
    (cond (eqb (h / 256 ^ 7) 3) (Successor (h / 256 ^ 6 % 256) (h / 256 ^ 5 % 256) (h / 256 ^ 4 % 256))
    (cond (eqb (h / 256 ^ 7) 4) (LeftLimit (h % 256 ^ 7 * 256 + l / 256 % 256) (l % 256))
    (cond (eqb (h / 256 ^ 7) 5) (RightLimit (h / 256 ^ 6 % 256) (h % 256 ^ 6 * 65536 + l % 65536))
    (Strike (h / 256 ^ 6 % 256))))))

abbrev pub row_of : Key → Row
row_of k = row_from k.high k.low

-- the row's set, if it has one
abbrev pub set_of : Row → Option ℕ
set_of (Initial s) = None
set_of (Final s) = None
set_of (Successor p a q) = None
set_of (LeftLimit P q) = Some P
set_of (RightLimit q P) = Some P
set_of (Strike s) = None

-- What is saved, as the array has it.
use Rattle.std.specs.Prelude.{List, map}
use Rattle.sorted_keys.specs.declared.Key.{Key}
use Rattle.rows.specs.declared.Row.{Row}
use Rattle.rows.specs.Keys.{row_of}

-- the rows of the keys
abbrev pub rows_of : List Key → List Row
rows_of keys = map row_of keys

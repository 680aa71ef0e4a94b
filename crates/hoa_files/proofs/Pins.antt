-- A file byte by byte, computed from the definitions.
use mathlib.Core.Path.{◌≡◌, refl}
use mathlib.Core.Bool.{true, false}
use mathlib.Core.List.{[], ◌∷◌}
use Rattle.machine.specs.Text.{decimal}
use Rattle.hoa_files.specs.Automata.{Buchi, file_text}

-- two states, the second the start; the first is marked, and has an edge to itself
abbrev example : Buchi
example = record { start = 1; states = record { marked = true; edges = 1 ∷ 0 ∷ [] } ∷ record { marked = false; edges = 0 ∷ [] } ∷ [] }

pub file_in_bytes : file_text example ≡
    72 ∷ 79 ∷ 65 ∷ 58 ∷ 32 ∷ 118 ∷ 49 ∷ 10
    ∷ 83 ∷ 116 ∷ 97 ∷ 116 ∷ 101 ∷ 115 ∷ 58 ∷ 32 ∷ 50 ∷ 10
    ∷ 83 ∷ 116 ∷ 97 ∷ 114 ∷ 116 ∷ 58 ∷ 32 ∷ 49 ∷ 10
    ∷ 65 ∷ 80 ∷ 58 ∷ 32 ∷ 48 ∷ 10
    ∷ 97 ∷ 99 ∷ 99 ∷ 45 ∷ 110 ∷ 97 ∷ 109 ∷ 101 ∷ 58 ∷ 32 ∷ 66 ∷ 117 ∷ 99 ∷ 104 ∷ 105 ∷ 10
    ∷ 65 ∷ 99 ∷ 99 ∷ 101 ∷ 112 ∷ 116 ∷ 97 ∷ 110 ∷ 99 ∷ 101 ∷ 58 ∷ 32 ∷ 49 ∷ 32 ∷ 73 ∷ 110 ∷ 102 ∷ 40 ∷ 48 ∷ 41 ∷ 10
    ∷ 45 ∷ 45 ∷ 66 ∷ 79 ∷ 68 ∷ 89 ∷ 45 ∷ 45 ∷ 10
    ∷ 83 ∷ 116 ∷ 97 ∷ 116 ∷ 101 ∷ 58 ∷ 32 ∷ 48 ∷ 32 ∷ 123 ∷ 48 ∷ 125 ∷ 10
    ∷ 91 ∷ 116 ∷ 93 ∷ 32 ∷ 49 ∷ 10
    ∷ 91 ∷ 116 ∷ 93 ∷ 32 ∷ 48 ∷ 10
    ∷ 83 ∷ 116 ∷ 97 ∷ 116 ∷ 101 ∷ 58 ∷ 32 ∷ 49 ∷ 10
    ∷ 91 ∷ 116 ∷ 93 ∷ 32 ∷ 48 ∷ 10
    ∷ 45 ∷ 45 ∷ 69 ∷ 78 ∷ 68 ∷ 45 ∷ 45 ∷ 10
    ∷ []
unfolding file_text decimal
file_in_bytes = refl

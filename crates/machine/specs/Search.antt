-- The walk that the sheet prints, computed.
use Rattle.std.specs.Prelude.{ℕ, zero, suc, Bool, true, false, List, [], ◌∷◌, eqb, length}
use Rattle.std.proofs.Math.Option.{Option, none, some}
use Rattle.lists.specs.Tests.{any}
use Rattle.lists.specs.Order.{sort_by}
use Rattle.rows.specs.declared.Row.{Row}
use Rattle.orderings.specs.Steps.{Claim, Step, Walk}
use Rattle.orderings.specs.Decide.{steps, initials, finals}
use Rattle.machine.specs.Order.{step_key, Found}

-- the first answer of a list of tries
abbrev pub first : {A B : Type 0} → (A → Option B) → List A → Option B
first f [] = none
first f (x ∷ l) = elim (f x) [ some y ↦ some y | none ↦ first f l ]

abbrev pub go_on : Step → Option Walk → Option Walk
go_on t none = none
go_on t (some w) = some (t ∷ w)

abbrev pub only_if : {A : Type 0} → Bool → Option A → Option A
only_if true o = o
only_if false o = none

-- the first walk of n of the steps G, which are in order, from a to an end
unfoldable pub walk_of : List Step → List ℕ → ℕ → ℕ → Option Walk
walk_of G ends zero a = only_if (any (eqb a) ends) (some [])
walk_of G ends (suc n) a = first (λ t. elim (eqb t.from a) [ false ↦ none | true ↦ go_on t (walk_of G ends n t.to) ]) G

abbrev pub from_start : ℕ → Option Walk → Option Found
from_start a none = none
from_start a (some w) = some (record { start = a; walk = w })

abbrev pub found_of : List Step → List ℕ → List ℕ → ℕ → Option Found
found_of G starts ends n = first (λ a. from_start a (walk_of G ends n a)) starts

-- of n steps, or of the least count above n that has a walk, of tries counts in all
unfoldable pub least : List Step → List ℕ → List ℕ → ℕ → ℕ → Option Found
least G starts ends zero n = none
least G starts ends (suc tries) n = elim (found_of G starts ends n) [ some f ↦ some f | none ↦ least G starts ends tries (suc n) ]

-- the first of the shortest walks with the claims l; no more steps are needed than there are to choose from
unfoldable pub shortest : List Row → List Claim → Option Found
shortest rows l = let G = steps rows l in least (sort_by step_key G) (sort_by (λ a. a ∷ []) (initials rows)) (finals rows) (suc (length G)) 0

-- Request C-22: the sets by number of states, each visited once.
use Rattle.std.specs.Prelude.{ℕ, zero, suc, Bool, ◌&&◌, ◌||◌, ◌⊎◌, List, [], ◌++◌, eqb, length}
use Rattle.lists.specs.Tests.{keep}
use Rattle.rows.specs.declared.Row.{Row}
use Rattle.orderings.specs.Steps.{Claim, loops, mixes, set_of, members}
use Rattle.orderings.specs.Systems.{Holds}
use Rattle.orderings.specs.Timelines.{timelines}
use Rattle.orderings.specs.Decide.{holds?, claims, accepts?}

-- the number of states of the set that a claim is about
abbrev pub size : Claim → ℕ
size c = length (members (set_of c))

-- a set is visited, with the claims In found before: does it mix, does it loop; a set that mixes also loops
abbrev pub VisitFinds : List Row → (Claim → Type 0) → Claim → Type 0
VisitFinds rows In (mixes P) = Holds (timelines rows) In (mixes P)
VisitFinds rows In (loops P) = Holds (timelines rows) In (mixes P) ⊎ Holds (timelines rows) In (loops P)

-- the same, computed
unfoldable pub finds? : List Row → List Claim → Claim → Bool
finds? rows l (mixes P) = holds? rows l (mixes P)
finds? rows l (loops P) = holds? rows l (mixes P) || holds? rows l (loops P)

-- the claims found once the sets of fewer than k states are visited; then those of k states are, each once
unfoldable pub found : List Row → ℕ → List Claim
found rows zero = []
found rows (suc k) = let l = found rows k in l ++ keep (λ c. eqb (size c) k && finds? rows l c) (claims rows)

-- a set has at most 64 states: when those of fewer than 65 are visited, all are
abbrev pub all_sizes : ℕ
all_sizes = 65

-- with what is found then, a walk leads from an initial to a final state
unfoldable pub rising? : List Row → Bool
rising? rows = accepts? rows (found rows all_sizes)

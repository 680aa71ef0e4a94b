-- The walk of one or more steps inside a set that is sought, and how it goes down layers; a walk as an array, and what is promised of it.
use Rattle.std.specs.Prelude.{ℕ, zero, suc, ◌≡◌, ◌≢◌, List, [], ◌∷◌, length, get_or, take, Option, None, Some}
use Rattle.lists.specs.Tests.{◌among◌}
use Rattle.masks.specs.Mask.{◌∈◌}
use Rattle.rows.specs.declared.Row.{Row}
use Rattle.rows.specs.Rows.{standing_sets}
use Rattle.orderings.specs.Steps.{Claim, Label, Walk, Leads, Inside}
use Rattle.orderings.specs.Systems.{Allowed}
use Rattle.orderings.specs.Timelines.{timelines}
use Rattle.machine.specs.Order.{Found, Candidate, Best}
use Rattle.machine.specs.WellFormed.{Table}
use Rattle.machine.specs.declared.Step.{Step}
use Rattle.machine.specs.Labels.{step_from}
use Rattle.search.specs.declared.Claims.{Claims}
use Rattle.search.specs.Graph.{Graph, TurnedGraph}
use Rattle.search.specs.Masked.{Initials, Finals}
use Rattle.search.specs.Promises.{Stands}
use Rattle.row_table.specs.Letters.{LettersIn}
use Rattle.walks.specs.declared.found.FoundWalk.{FoundWalk}
use Rattle.walks.specs.Choices.{Chooses}

-- a walk of one or more steps inside p, with the claims l, from a state of starts to one of ends
abbrev pub Courses : List Row → List Claim → ℕ → ℕ → ℕ → Found → Type 0
Courses rows l p starts ends f = (f.start ∈ starts) × ((b : ℕ) × (b ∈ ends) × Leads f.start f.walk b)
    × Inside p f.walk × Allowed (timelines rows) (λ c. c among l) f.walk × (f.walk ≢ [])

-- the walk goes down one layer at each of k steps from a, by the first step into it
unfoldable pub Descends : (ℕ → Label → ℕ → Type 0) → Type 0 → List ℕ → ℕ → ℕ → Walk → Type 0
Descends W Ordered layers a zero w = w ≡ []
Descends W Ordered layers a (suc k) w = (t : Step) × (v : Walk) × (w ≡ step_from a t ∷ v)
    × Chooses (get_or layers k 0) (W a) Ordered (Some t) × Descends W Ordered layers t.to k v

-- the walk from a state that takes the steps
abbrev pub walk_from : ℕ → List Step → Walk
walk_from a [] = []
walk_from a (t ∷ l) = step_from a t ∷ walk_from t.to l

-- the walk with its start
abbrev pub as_found : FoundWalk → Found
as_found w = record { start = w.start; walk = walk_from w.start (take w.count w.steps) }

-- from a, each of at most k steps is the first into its layer, one layer down; where they stop early there is none
abbrev pub Follows : (ℕ → Label → ℕ → Type 0) → Type 0 → List ℕ → ℕ → ℕ → List Step → Type 0
Follows W Ordered layers a zero l = l ≡ []
Follows W Ordered layers a (suc k) [] = Chooses (get_or layers k 0) (W a) Ordered None
Follows W Ordered layers a (suc k) (t ∷ l) = Chooses (get_or layers k 0) (W a) Ordered (Some t) × Follows W Ordered layers t.to k l

-- the walk is the first of the shortest, or there is none
abbrev pub Answers : List Row → List Claim → Option FoundWalk → Type 0
Answers rows claims (Some w) = Best rows claims (as_found w)
Answers rows claims None = (g : Found) → ¬ Candidate rows claims g

-- for all rows and claims that the words and the graph, which is turned round, stand for
abbrev pub FirstWalk : List ℕ → ℕ → Graph → Claims → ℕ → ℕ → Option FoundWalk → Type 0
FirstWalk words n back force initials finals w = (g : Graph) (rows : List Row) (claims : List Claim) (k : ℕ) → TurnedGraph g back
    → Stands g force rows claims k → length (standing_sets rows) ≡ k → LettersIn rows words n → Table rows
    → Initials rows initials → Finals rows finals → Answers rows claims w

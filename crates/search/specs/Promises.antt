-- What the search promises, for all rows and claims that the graph and the masks stand for.
use Rattle.std.specs.Prelude.{ℕ, ◌<◌, ◌≡◌, Bool, ◌↔◌, List, [], length, get_or}
use Rattle.lists.specs.Tests.{Decides, ◌among◌}
use Rattle.masks.specs.Mask.{◌∈◌}
use Rattle.rows.specs.declared.Row.{Row}
use Rattle.rows.specs.Rows.{standing_sets, AllFit}
use Rattle.orderings.specs.Steps.{Claim, loops, mixes, Walk}
use Rattle.orderings.specs.Systems.{Allowed, Holds}
use Rattle.orderings.specs.Timelines.{timelines, Accepting}
use Rattle.search.specs.declared.Claims.{Claims}
use Rattle.search.specs.Graph.{Graph}
use Rattle.search.specs.Masked.{Masked, HasLetters, Initials, Finals, Forced}
use Rattle.search.specs.Hops.{Reached, WithNew}

-- the graph is that of the rows, and the places are those of the claims in force
pub record Stands (g : Graph) (force : Claims) (rows : List Row) (claims : List Claim) (n : ℕ) : Type 0 where
  pub masked : Masked rows g n
  pub forced : Forced (λ c. c among claims) g n force

-- r says whether a walk of zero or more steps leads from an initial to a final state
abbrev pub AcceptsRight : Graph → Claims → ℕ → ℕ → Bool → Type 0
AcceptsRight g force initials finals r = (rows : List Row) (claims : List Claim) (n : ℕ)
    → Stands g force rows claims n → AllFit rows → Initials rows initials → Finals rows finals
    → Decides r ((w : Walk) × Accepting rows w × Allowed (timelines rows) (λ c. c among claims) w)

-- the same of whatever graph and claims lead from the initial states, in one step or more, to the states seen
abbrev pub AcceptsSeen : ℕ → ℕ → ℕ → Bool → Type 0
AcceptsSeen initials seen finals r = (g : Graph) (force : Claims) → Reached g force initials seen → AcceptsRight g force initials finals r

-- r says whether letters alone lead from an initial to a final state, in zero or more steps
abbrev pub AcceptsLetters : Graph → ℕ → ℕ → Bool → Type 0
AcceptsLetters g initials finals r = (rows : List Row) → HasLetters rows g → AllFit rows → Initials rows initials → Finals rows finals
    → Decides r ((w : Walk) × Accepting rows w × Allowed (timelines rows) (λ c. c among []) w)

-- the claims in force are old ones, with which the states seen are reached, and new ones
pub record SeenBefore (g : Graph) (force new : Claims) (initials seen : ℕ) : Type 0 where
  pub old : Claims
  pub with_new : WithNew old new force
  pub reached : Reached g old initials seen

-- the claim holds with the claims in force, and is not in force yet
abbrev pub NewlyHolds : List Row → List Claim → Claim → Type 0
NewlyHolds rows claims c = Holds (timelines rows) (λ d. d among claims) c × ¬ (c among claims)

-- new has the places below k whose loops are opened next, and those whose mixes are
pub record Opened (g : Graph) (rows : List Row) (claims : List Claim) (k : ℕ) (new : Claims) : Type 0 where
  pub loop_iff : (i : ℕ) → (i ∈ new.loops) ↔ ((i < k) × NewlyHolds rows claims (loops (get_or g.sets i 0)))
  pub mix_iff : (i : ℕ) → (i ∈ new.mixes) ↔ ((i < k) × NewlyHolds rows claims (mixes (get_or g.sets i 0)))

abbrev pub OpensBelow : Graph → Claims → ℕ → ℕ → Claims → Type 0
OpensBelow g force n k new =
    (rows : List Row) (claims : List Claim) → Stands g force rows claims n → length (standing_sets rows) ≡ n → Opened g rows claims k new

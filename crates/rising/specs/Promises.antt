-- What the visits by rising size promise: one by one of the masks, and together of every table of rows that the graph stands for.
use Rattle.std.specs.Prelude.{ℕ, ◌<◌, ◌≡◌, ◌⊎◌, ◌↔◌, List, length, get_or}
use Rattle.std.specs.Int.Count.{ones}
use Rattle.lists.specs.Tests.{◌among◌}
use Rattle.masks.specs.Mask.{◌∈◌}
use Rattle.rows.specs.declared.Row.{Row}
use Rattle.rows.specs.Rows.{AllFit, standing_sets}
use Rattle.orderings.specs.Rising.{found}
use Rattle.machine.specs.declared.Verdict.{Verdict}
use Rattle.machine.specs.Calls.{verdict_of}
use Rattle.search.specs.declared.Claims.{Claims}
use Rattle.search.specs.Graph.{Graph}
use Rattle.search.specs.Hops.{Hop}
use Rattle.search.specs.Masked.{Masked, Forced}
use Rattle.candidates.specs.Promises.{LoopsAt, MixesAt}
use Rattle.rounds.specs.Promises.{Given}

-- for each number of states the places of the first n sets that have so many
abbrev pub BySize : Graph → ℕ → List ℕ → Type 0
BySize g n sizes = (k i : ℕ) → k < 65 → (i ∈ get_or sizes k 0) ↔ ((i < n) × (ones (get_or g.sets i 0) ≡ k))

-- each state of p is in m, or a step inside p leads to it
abbrev pub Led : Graph → Claims → ℕ → ℕ → Type 0
Led g force p m = (t : ℕ) → t ∈ p → (t ∈ m) ⊎ ((s : ℕ) × Hop g force p s t)

-- the set at place i mixes or loops with the claims in force: a visit to it finds its loop
abbrev pub LoopFound : Graph → Claims → ℕ → Type 0
LoopFound g force i = MixesAt g force i ⊎ LoopsAt g force i

-- the visit to the set at place i finds its loop, and its mix
abbrev pub VisitsAt : Graph → Claims → ℕ → Claims → Type 0
VisitsAt g force i new = ((t : ℕ) → (t ∈ new.loops) ↔ ((t ≡ i) × LoopFound g force i)) × ((t : ℕ) → (t ∈ new.mixes) ↔ ((t ≡ i) × MixesAt g force i))

-- visits to the sets at some places find these loops, and these mixes
pub record FoundAt (g : Graph) (force : Claims) (places : ℕ) (new : Claims) : Type 0 where
  pub loop_iff : (i : ℕ) → (i ∈ new.loops) ↔ ((i ∈ places) × LoopFound g force i)
  pub mix_iff : (i : ℕ) → (i ∈ new.mixes) ↔ ((i ∈ places) × MixesAt g force i)

-- the claims found once the sets of fewer than k states are visited
abbrev pub Rises : Graph → ℕ → ℕ → Claims → Type 0
Rises g n k force = (rows : List Row) → AllFit rows → Masked rows g n → length (standing_sets rows) ≡ n → Forced (λ c. c among found rows k) g n force

-- the verdict is that of the rows
abbrev pub Judges : Graph → ℕ → ℕ → ℕ → Verdict → Type 0
Judges g initials finals n v = (rows : List Row) → Given rows g initials finals n → v ≡ verdict_of rows

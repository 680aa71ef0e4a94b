-- A search for what a set of states reaches: passes over whole masks, until one adds nothing.
use Rattle.std.specs.Prelude.{ℕ, ◌+◌, ◌^◌, ◌≤◌, ◌<◌, ◌≡◌, ◌⊎◌, ◌↔◌, List, get_or}
use Rattle.std.specs.Int.Count.{ones}
use Rattle.lists.specs.Tests.{◌among◌}
use Rattle.masks.specs.Mask.{◌∈◌, ◌⊆◌}
use Rattle.rows.specs.declared.Row.{Row}
use Rattle.orderings.specs.Steps.{Claim}
use Rattle.orderings.specs.Claims.{Through}
use Rattle.orderings.specs.Systems.{AtHand}
use Rattle.orderings.specs.Timelines.{timelines}
use Rattle.search.specs.declared.Claims.{Claims}
use Rattle.search.specs.Graph.{Graph}
use Rattle.search.specs.Hops.{Hop, Chain, Onward, InnerClaims}
use Rattle.search.specs.Promises.{Stands}

-- a pass adds all targets of the start m and of the states found so far
abbrev pub Pass : (ℕ → ℕ → Type 0) → ℕ → ℕ → ℕ → Type 0
Pass E m found r = (t : ℕ) → (t ∈ r) ↔ ((t ∈ found) ⊎ ((s : ℕ) × ((s ∈ m) ⊎ (s ∈ found)) × E s t))

-- r has a state that found has not
abbrev pub FindsMore : ℕ → ℕ → Type 0
FindsMore found r = (t : ℕ) × (t ∈ r) × ¬ (t ∈ found)

-- k passes, each of which adds a state, lead from the states found at first to r
pub data Passes (E : ℕ → ℕ → Type 0) (m first : ℕ) : ℕ → ℕ → Type 0 where
  no_pass : Passes E m first 0 first
  one_more : {k found r : ℕ} → Passes E m first k found → Pass E m found r → FindsMore found r → Passes E m first (k + 1) r

-- count passes, of which the last, and only the last, adds nothing
pub record PassesToEnd (E : ℕ → ℕ → Type 0) (m first count r : ℕ) : Type 0 where
  pub before : ℕ
  pub count_is : count ≡ before + 1
  pub passes : Passes E m first before r
  pub vain : Pass E m r r

-- r is the set of the states to which walks of one or more steps inside p lead from the states m, of whatever rows and claims the graph
-- stands for; the claims handed in are those about parts of p
abbrev pub WalkedTo : Graph → Claims → ℕ → ℕ → ℕ → Type 0
WalkedTo g force p m r = (rows : List Row) (claims : List Claim) (n : ℕ) (whole : Claims) → Stands g whole rows claims n
    → InnerClaims g whole p force → Onward (Through (AtHand (timelines rows) (λ c. c among claims)) p) m r

-- what is found inside p from the states m: at most one pass more than p has states, and exactly the ends of walks of one or more steps
pub record FoundByPasses (g : Graph) (force : Claims) (p m states count : ℕ) : Type 0 where
  pub few : count ≤ ones p + 1
  pub made : PassesToEnd (Hop g force p) m 0 count states
  pub chains : Onward (Chain (Hop g force p)) m states
  pub walks : WalkedTo g force p m states

-- ---- the states last are those whose steps a pass must follow

-- steps from the start and from the states found lead to states found, but for those from the states last
pub record Followed (E : ℕ → ℕ → Type 0) (m found last : ℕ) : Type 0 where
  pub within : (a : ℕ) → a ∈ last → (a ∈ m) ⊎ (a ∈ found)
  pub others : (a b : ℕ) → (a ∈ m) ⊎ (a ∈ found) → E a b → (a ∈ last) ⊎ (b ∈ found)

-- next are the targets of the states last that are not found yet
abbrev pub NewTargets : (ℕ → ℕ → Type 0) → ℕ → ℕ → ℕ → Type 0
NewTargets E found last next = (t : ℕ) → (t ∈ next) ↔ (((s : ℕ) × (s ∈ last) × E s t) × ¬ (t ∈ found))

-- of the loops in force, the left limits of all but omegas lead, inside p, to states found
pub record Unentered (g : Graph) (loops p omegas found : ℕ) : Type 0 where
  pub in_force : omegas ⊆ loops
  pub others : (i t : ℕ) → i ∈ loops → t ∈ get_or g.lefts i 0 → t ∈ p → (i ∈ omegas) ⊎ (t ∈ found)

-- a pass adds next, and of the loops omegas it leaves rest
pub record Adding (g : Graph) (force : Claims) (p omegas found last next rest : ℕ) : Type 0 where
  pub fits : next < 2 ^ 64
  pub targets : NewTargets (Hop g force p) found last next
  pub fewer : rest ⊆ omegas
  pub entered : (i t : ℕ) → i ∈ omegas → t ∈ get_or g.lefts i 0 → t ∈ p → (i ∈ rest) ⊎ ((t ∈ found) ⊎ (t ∈ next))

-- the search that goes on where found is found: from whatever states m, if steps are followed but for those from the states last
pub record Explores (E : ℕ → ℕ → Type 0) (found last states count : ℕ) : Type 0 where
  pub fits : states < 2 ^ 64
  pub few : count ≤ ones states + 1
  pub made : (m : ℕ) → Followed E m found last → PassesToEnd E m found count states

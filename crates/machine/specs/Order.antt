-- Document 01, "The sheet": which walk it prints.
use Rattle.std.specs.Prelude.{ℕ, ◌≤◌, ◌≡◌, List, [], ◌∷◌, length}
use Rattle.lists.specs.Tests.{◌among◌, gather}
use Rattle.lists.specs.Order.{◌≺◌}
use Rattle.rows.specs.declared.Row.{Row}
use Rattle.orderings.specs.Steps.{Claim, Label, letter, ω, back, mix, Step, Walk, Leads}
use Rattle.orderings.specs.Systems.{Allowed}
use Rattle.orderings.specs.Timelines.{IsInitial, IsFinal, timelines}

-- by kind: letter, omega, back, mix
abbrev pub kind : Label → ℕ
kind (letter a) = 0
kind (ω P) = 1
kind (back P) = 2
kind (mix P) = 3

-- lower letter or set
abbrev pub value : Label → ℕ
value (letter a) = a
value (ω P) = P
value (back P) = P
value (mix P) = P

-- lower target
abbrev pub step_key : Step → List ℕ
step_key t = kind t.label ∷ value t.label ∷ t.to ∷ []

-- a walk with its start
pub record Found : Type 0 where
  pub start : ℕ
  pub walk : Walk

-- by lower start, then at the first different step
abbrev pub walk_key : Found → List ℕ
walk_key f = f.start ∷ gather step_key f.walk

-- a walk from an initial to a final state, with letter steps and steps of the claims l
abbrev pub Candidate : List Row → List Claim → Found → Type 0
Candidate rows l f = IsInitial rows f.start
    × ((b : ℕ) × IsFinal rows b × Leads f.start f.walk b)
    × Allowed (timelines rows) (λ c. c among l) f.walk

-- of the walks that C is about: none has fewer steps, and among equals it is the first
pub record Foremost (C : Found → Type 0) (f : Found) : Type 0 where
  pub is : C f
  pub short : (g : Found) → C g → length f.walk ≤ length g.walk
  pub first : (g : Found) → C g → length g.walk ≡ length f.walk → ¬ (walk_key g ≺ walk_key f)

-- no other such walk has fewer steps, and among equals it is the first
abbrev pub Best : List Row → List Claim → Found → Type 0
Best rows l = Foremost (Candidate rows l)

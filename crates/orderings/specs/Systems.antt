-- Document 01, "Steps and claims", from "derivation" on, for any steps and claims: derivations and depths. No rounds, no search.
use Rattle.std.specs.Prelude.{ℕ, suc, max, ◌≤◌, ◌≡◌, ◌⊎◌, List, [], ◌∷◌, map}
use Rattle.std.proofs.Math.Option.{Option, none, some}
use Rattle.lists.specs.Tests.{◌among◌}

-- what steps and claims are, for one table of standing rows
pub record System : Type 1 where
  pub Claim : Type 0
  pub Step : Type 0
  pub same : (c d : Claim) → Dec (c ≡ d)
  -- the claims that a derivation may hold
  pub Subject : Claim → Type 0
  -- the standing rows allow the step where the claim that it needs, if any, is in force
  pub Possible : Step → Type 0
  pub needs : Step → Option Claim
  -- the steps are a walk, and one from an initial to a final state
  pub IsWalk : List Step → Type 0
  pub Accepting : List Step → Type 0
  -- what a claim says, of the walks at hand
  pub Says : (List Step → Type 0) → Claim → Type 0

abbrev pub InForce : {C : Type 0} → (C → Type 0) → Option C → Type 0
InForce In none = Unit {0}
InForce In (some c) = In c

-- made of steps that the standing rows and the claims in force allow
abbrev pub Allowed : (S : System) → (S.Claim → Type 0) → List S.Step → Type 0
Allowed S In [] = Unit {0}
Allowed S In (t ∷ w) = S.Possible t × InForce In (S.needs t) × Allowed S In w

-- a walk with the claims in force
abbrev pub AtHand : (S : System) → (S.Claim → Type 0) → List S.Step → Type 0
AtHand S In w = S.IsWalk w × Allowed S In w

-- the claim holds with the claims in force
abbrev pub Holds : (S : System) → (S.Claim → Type 0) → S.Claim → Type 0
Holds S In c = S.Subject c × S.Says (AtHand S In) c

-- a step's depth is that of the claim that it needs, 0 for a letter step
abbrev pub need_depth : {C : Type 0} → (C → ℕ) → Option C → ℕ
need_depth d none = 0
need_depth d (some c) = d c

-- a walk's depth is the greatest of its claims, 0 with letter steps only
abbrev pub walk_depth : (S : System) → (S.Claim → ℕ) → List S.Step → ℕ
walk_depth S d [] = 0
walk_depth S d (t ∷ w) = max (need_depth d (S.needs t)) (walk_depth S d w)

-- the greatest depth that some walks use
abbrev pub greatest : (S : System) → (S.Claim → ℕ) → List (List S.Step) → ℕ
greatest S d [] = 0
greatest S d (w ∷ ws) = max (walk_depth S d w) (greatest S d ws)

-- a claim, and the walks that justify it
pub record Line (S : System) : Type 0 where
  pub claim : S.Claim
  pub walks : List (List S.Step)

-- a finite list of claims, the last one first
abbrev pub Derivation : System → Type 0
Derivation S = List (Line S)

-- the derivation has the claim
abbrev pub Has : (S : System) → Derivation S → S.Claim → Type 0
Has S D c = c among map (λ (l : Line S). l.claim) D

abbrev pub choose : {A : Type 0} → Dec A → ℕ → ℕ → ℕ
choose (yes a) m n = m
choose (no a) m n = n

-- a claim's depth in a derivation: one more than the greatest that its walks use; 0 where the derivation does not have it
unfoldable pub depth : (S : System) → Derivation S → S.Claim → ℕ
depth S [] c = 0
depth S (l ∷ D) c = choose (S.same c l.claim) (suc (greatest S (depth S D) l.walks)) (depth S D c)

-- each claim is one that a derivation may hold, and is justified with letter steps and steps of claims before it
abbrev pub Valid : (S : System) → Derivation S → Type 0
Valid S [] = Unit {0}
Valid S (l ∷ D) = S.Subject l.claim
    × ((w : List S.Step) → w among l.walks → AtHand S (Has S D) w)
    × S.Says (λ w. w among l.walks) l.claim
    × Valid S D

-- some derivation has the claim
abbrev pub Derivable : (S : System) → S.Claim → Type 0
Derivable S c = (D : Derivation S) × Valid S D × Has S D c

-- the claim holds at depth k: some derivation has it there
abbrev pub HoldsAt : (S : System) → S.Claim → ℕ → Type 0
HoldsAt S c k = (D : Derivation S) × Valid S D × Has S D c × (depth S D c ≡ k)

-- the smallest depth of the claim over all derivations is k
abbrev pub LeastDepth : (S : System) → S.Claim → ℕ → Type 0
LeastDepth S c k = HoldsAt S c k × ((D : Derivation S) → Valid S D → Has S D c → k ≤ depth S D c)

-- g is the greatest least depth of any derivable claim, 0 if there is none
abbrev pub GreatestLeast : System → ℕ → Type 0
GreatestLeast S g = ((c : S.Claim) (k : ℕ) → LeastDepth S c k → k ≤ g)
    × (((c : S.Claim) × LeastDepth S c g) ⊎ ((g ≡ 0) × ((c : S.Claim) → ¬ Derivable S c)))

-- a walk from an initial to a final state in a derivation
abbrev pub AcceptedIn : (S : System) → Derivation S → List S.Step → Type 0
AcceptedIn S D w = S.Accepting w × Allowed S (Has S D) w

-- some derivation gives a walk from an initial to a final state
abbrev pub Accepts : System → Type 0
Accepts S = (D : Derivation S) × Valid S D × ((w : List S.Step) × AcceptedIn S D w)

-- in some derivation a walk from an initial to a final state has depth k, and in none has such a walk less
abbrev pub LeastAccepted : System → ℕ → Type 0
LeastAccepted S k = ((D : Derivation S) × Valid S D × ((w : List S.Step) × AcceptedIn S D w × (walk_depth S (depth S D) w ≡ k)))
    × ((D : Derivation S) → Valid S D → (w : List S.Step) → AcceptedIn S D w → k ≤ walk_depth S (depth S D) w)

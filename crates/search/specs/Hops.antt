-- Steps as the masks have them, chains of steps, and the states that chains join.
use Rattle.std.specs.Prelude.{ℕ, ◌-◌, ◌^◌, ◌<◌, ◌≡◌, ◌||◌, ◌⊎◌, ◌↔◌, List, get_or}
use Rattle.masks.specs.Graph.{Target}
use Rattle.masks.specs.Mask.{member, ◌∈◌, ◌⊆◌}
use Rattle.search.specs.declared.Claims.{Claims}
use Rattle.search.specs.Graph.{Graph}

-- a and b lie in the sets that two lists of masks have at one of the places
abbrev pub ByPlaces : List ℕ → List ℕ → ℕ → ℕ → ℕ → Type 0
ByPlaces here there places a b = (i : ℕ) × (i ∈ places) × (a ∈ get_or here i 0) × (b ∈ get_or there i 0)

-- a letter step from a to b
abbrev pub Lettered : Graph → ℕ → ℕ → Type 0
Lettered g a b = b ∈ get_or g.letters a 0

-- an omega or a back step from a to b by one of the places
abbrev pub Looping : Graph → ℕ → ℕ → ℕ → Type 0
Looping g places a b = ByPlaces g.sets g.lefts places a b ⊎ ByPlaces g.rights g.sets places a b

-- a mix step
abbrev pub Mixing : Graph → ℕ → ℕ → ℕ → Type 0
Mixing g places a b = ByPlaces g.rights g.lefts places a b

-- a step from a to b by a claim in force
abbrev pub Claimed : Graph → Claims → ℕ → ℕ → Type 0
Claimed g force a b = Looping g force.loops a b ⊎ Mixing g force.mixes a b

-- a back or a mix step from a to b by a claim in force
abbrev pub BackOrMix : Graph → Claims → ℕ → ℕ → Type 0
BackOrMix g force a b = ByPlaces g.rights g.sets force.loops a b ⊎ Mixing g force.mixes a b

-- r has the states that the left limits of the places omegas lead to, and those to which a back or a mix step leads from one of the states m
abbrev pub Touched : Graph → Claims → ℕ → ℕ → ℕ → Type 0
Touched g force omegas m r = (t : ℕ) → (t ∈ r) ↔ (Target g.lefts omegas t ⊎ ((s : ℕ) × (s ∈ m) × BackOrMix g force s t))

-- a step from a to b, both in p: by a letter, or by a claim in force
pub record Hop (g : Graph) (force : Claims) (p a b : ℕ) : Type 0 where
  pub start : a ∈ p
  pub end : b ∈ p
  pub kind : Lettered g a b ⊎ Claimed g force a b

-- one or more steps E, from a
pub data Chain (E : ℕ → ℕ → Type 0) (a : ℕ) : ℕ → Type 0 where
  one : {b : ℕ} → E a b → Chain E a b
  more : {b c : ℕ} → Chain E a b → E b c → Chain E a c

-- r is the set of the states to which a step leads from one of the states m
abbrev pub Onward : (ℕ → ℕ → Type 0) → ℕ → ℕ → Type 0
Onward E m r = (t : ℕ) → (t ∈ r) ↔ ((s : ℕ) × (s ∈ m) × E s t)

-- the set of all states
abbrev pub all_mask : ℕ
all_mask = 2 ^ 64 - 1

-- r is the set of the states to which chains lead from the states m
abbrev pub Reached : Graph → Claims → ℕ → ℕ → Type 0
Reached g force m r = Onward (Chain (Hop g force all_mask)) m r

-- the places whose sets are parts of p
abbrev pub Inner : List ℕ → ℕ → ℕ → ℕ → Type 0
Inner sets places p r = (i : ℕ) → (i ∈ r) ↔ ((i ∈ places) × (get_or sets i 0 ⊆ p))

-- the claims about parts of p
pub record InnerClaims (g : Graph) (force : Claims) (p : ℕ) (inner : Claims) : Type 0 where
  pub loops_are : Inner g.sets force.loops p inner.loops
  pub mixes_are : Inner g.sets force.mixes p inner.mixes

-- a chain leads from each state of p to each, itself too
abbrev pub Joined : (ℕ → ℕ → Type 0) → ℕ → Type 0
Joined E p = (a b : ℕ) → a ∈ p → b ∈ p → Chain E a b

-- q is a part of p with a state, and chains lead from each state of q to each
pub record JoinedPart (E : ℕ → ℕ → Type 0) (p q : ℕ) : Type 0 where
  pub part : q ⊆ p
  pub some : 0 < q
  pub joined : Joined E q

-- s lies on a chain from a to b: at its start, at its end, or between
abbrev pub Between : (ℕ → ℕ → Type 0) → ℕ → ℕ → ℕ → Type 0
Between E a b s = ((s ≡ a) × Chain E s b) ⊎ (Chain E a s × ((s ≡ b) ⊎ Chain E s b))

-- s lies on a chain from one of the states m to one of the states n
abbrev pub OnChain : (ℕ → ℕ → Type 0) → ℕ → ℕ → ℕ → Type 0
OnChain E m n s = (a : ℕ) × (b : ℕ) × (a ∈ m) × (b ∈ n) × Between E a b s

-- every state of p lies on such a chain or is both in m and in n, and there is such a chain
pub record Covered (E : ℕ → ℕ → Type 0) (m n p : ℕ) : Type 0 where
  pub states : (s : ℕ) → s ∈ p → OnChain E m n s ⊎ ((s ∈ m) × (s ∈ n))
  pub chain : (a : ℕ) × (b : ℕ) × (a ∈ m) × (b ∈ n) × Chain E a b

-- r has the places of a and those of b
abbrev pub Unites : ℕ → ℕ → ℕ → Type 0
Unites a b r = (t : ℕ) → member t r ≡ (member t a || member t b)

-- the claims in force are old ones and new ones
pub record WithNew (old new force : Claims) : Type 0 where
  pub loops_are : Unites old.loops new.loops force.loops
  pub mixes_are : Unites old.mixes new.mixes force.mixes

-- no claim in force
abbrev pub no_claims : Claims
no_claims = record { loops = 0; mixes = 0 }

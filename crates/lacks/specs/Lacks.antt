-- Which states of which sets no step inside the set leads to. With every step turned round: which states no step leads from.
use Rattle.std.specs.Prelude.{ℕ, ◌<◌, ◌≡◌, Bool, true, ◌⊎◌, ◌↔◌, List, get_or, replicate}
use Rattle.masks.specs.Mask.{◌∈◌, ◌⊆◌}
use Rattle.search.specs.declared.Claims.{Claims}
use Rattle.search.specs.Graph.{Graph}
use Rattle.search.specs.Hops.{Hop, InnerClaims, WithNew, no_claims}

-- the set at place i has an entrance and an exit
pub record Pieced (g : Graph) (i : ℕ) : Type 0 where
  pub entrance : (s : ℕ) × (s ∈ get_or g.sets i 0) × (s ∈ get_or g.lefts i 0)
  pub exit : (s : ℕ) × (s ∈ get_or g.sets i 0) × (s ∈ get_or g.rights i 0)

-- r has the places below n of such sets
abbrev pub PiecedBelow : Graph → ℕ → ℕ → Type 0
PiecedBelow g n r = (i : ℕ) → (i ∈ r) ↔ ((i < n) × Pieced g i)

-- the set at place i has the state q, no step inside it with the claims in force leads to q, and q is no entrance where the place is among pieces
pub record Lacking (g : Graph) (force : Claims) (pieces i q : ℕ) : Type 0 where
  pub has : q ∈ get_or g.sets i 0
  pub unled : (inner : Claims) → InnerClaims g force (get_or g.sets i 0) inner → (a : ℕ) → ¬ Hop g inner (get_or g.sets i 0) a q
  pub unspared : i ∈ pieces → ¬ (q ∈ get_or g.lefts i 0)

-- of these places, the mask of a state has only those at which the state is lacking; a place that it does not have says nothing
abbrev pub LacksIn : Graph → Claims → ℕ → ℕ → List ℕ → Type 0
LacksIn g force pieces places lack = (i q : ℕ) → i ∈ places → i ∈ get_or lack q 0 → Lacking g force pieces i q

-- the masks, which had nothing, become so where no claim is in force
pub record ByLetters (g : Graph) (pieces : ℕ) (before after : List ℕ) : Type 0 where
  pub lacks : before ≡ replicate 64 0 → (places : ℕ) → LacksIn g no_claims pieces places after

-- to each state of the set at place i a step leads inside the set, with the claims in force
abbrev pub LedAt : Graph → Claims → ℕ → Type 0
LedAt g force i = (q : ℕ) → q ∈ get_or g.sets i 0
    → (inner : Claims) × InnerClaims g force (get_or g.sets i 0) inner × ((a : ℕ) × Hop g inner (get_or g.sets i 0) a q)

-- new claims supplied: where the masks were so with old claims, they are so with the new ones too, at the places live; so far as to each state of
-- the sets at the places led a step leads with the old claims
abbrev pub Supplies : Graph → Claims → ℕ → ℕ → List ℕ → List ℕ → Type 0
Supplies g new led live before after = (old force : Claims) (pieces places : ℕ) → WithNew old new force → live ⊆ places
    → ((j : ℕ) → j ∈ led → LedAt g old j) → LacksIn g old pieces places before → LacksIn g force pieces live after

-- r has the places live whose sets have a part that a new claim is about
abbrev pub AboveNew : Graph → Claims → ℕ → ℕ → Type 0
AboveNew g new live r =
    (i : ℕ) → (i ∈ r) ↔ ((i ∈ live) × ((j : ℕ) × ((j ∈ new.loops) ⊎ (j ∈ new.mixes)) × (get_or g.sets j 0 ⊆ get_or g.sets i 0)))

-- ---- one state, one place, one claim

-- some mask of a state has the place i
abbrev pub InSome : List ℕ → ℕ → Type 0
InSome lack i = (q : ℕ) × (i ∈ get_or lack q 0) × (q < 64)

-- r has those of the places whose sets have p as a part
abbrev pub Above : List ℕ → ℕ → ℕ → ℕ → Type 0
Above sets places p r = (i : ℕ) → (i ∈ r) ↔ ((i ∈ places) × (p ⊆ get_or sets i 0))

-- the places of r are those of sets that have the state q and none of the states sources
abbrev pub Without : List ℕ → ℕ → ℕ → ℕ → Type 0
Without sets q sources r = (i : ℕ) → i ∈ r → (q ∈ get_or sets i 0) × ((a : ℕ) → a ∈ sources → ¬ (a ∈ get_or sets i 0))

-- the masks at the states m lose these places; no mask gains a place
pub record TakenOut (m places : ℕ) (before after : List ℕ) : Type 0 where
  pub left : (q i : ℕ) → i ∈ get_or after q 0 → (i ∈ get_or before q 0) × (q ∈ m → ¬ (i ∈ places))

-- no mask gains a place, and none keeps a place among pieces whose set has its state as an entrance
pub record Spares (g : Graph) (pieces : ℕ) (before after : List ℕ) : Type 0 where
  pub left : (q i : ℕ) → i ∈ get_or after q 0
      → (i ∈ get_or before q 0) × (i ∈ pieces → q ∈ get_or g.sets i 0 → ¬ (q ∈ get_or g.lefts i 0))

-- no mask gains a place; at the places up, whose sets have the part p, the masks then say of no state to which a claim about p leads inside the
-- set that it is lacking: a loop leads to the states left, and to those of p where the set has one of the states right; a mix leads to the states
-- left where the set has one of those
pub record Leads (sets : List ℕ) (p left right up : ℕ) (looping : Bool) (before after : List ℕ) : Type 0 where
  pub fewer : (q i : ℕ) → i ∈ get_or after q 0 → i ∈ get_or before q 0
  pub omega_step : looping ≡ true → (q i : ℕ) → i ∈ up → i ∈ get_or after q 0 → ¬ (q ∈ left)
  pub back_step : looping ≡ true → (q i a : ℕ) → i ∈ up → i ∈ get_or after q 0 → a ∈ right → a ∈ get_or sets i 0 → ¬ (q ∈ p)
  pub mix_step : (q i a : ℕ) → i ∈ up → i ∈ get_or after q 0 → a ∈ right → a ∈ get_or sets i 0 → ¬ (q ∈ left)

-- a step from a to b by the new claims about the set at place j; back to a state of the set only where the place is not among led
abbrev pub ClaimStep : Graph → Claims → ℕ → ℕ → ℕ → ℕ → Type 0
ClaimStep g new led j a b =
    ((j ∈ new.loops)
    × (((a ∈ get_or g.sets j 0) × (b ∈ get_or g.lefts j 0)) ⊎ ((¬ (j ∈ led)) × (a ∈ get_or g.rights j 0) × (b ∈ get_or g.sets j 0))))
    ⊎ ((j ∈ new.mixes) × (a ∈ get_or g.rights j 0) × (b ∈ get_or g.lefts j 0))

-- of the places live whose sets have the set at place j as a part, no mask of a state has one inside whose set such a step leads to the state
abbrev pub Freed : Graph → Claims → ℕ → ℕ → List ℕ → ℕ → Type 0
Freed g new led live lack j =
    (i q a : ℕ) → i ∈ live → get_or g.sets j 0 ⊆ get_or g.sets i 0 → i ∈ get_or lack q 0 → a ∈ get_or g.sets i 0 → ¬ ClaimStep g new led j a q

-- no mask gains a place, and the new claims about the set at place j are supplied
pub record SuppliesClaim (g : Graph) (new : Claims) (led live j : ℕ) (before after : List ℕ) : Type 0 where
  pub fewer : (q i : ℕ) → i ∈ get_or after q 0 → i ∈ get_or before q 0
  pub freed : Freed g new led live after j

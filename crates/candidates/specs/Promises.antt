-- What a round opens, said of the masks alone, and the places at which it is awaited.
use Rattle.std.specs.Prelude.{ℕ, ◌<◌, ◌≡◌, Bool, ◌&&◌, ◌⊎◌, ◌↔◌, List, get_or}
use Rattle.lists.specs.Tests.{Decides}
use Rattle.masks.specs.Mask.{member, ◌∈◌, ◌⊆◌}
use Rattle.search.specs.declared.Claims.{Claims}
use Rattle.search.specs.Graph.{Graph, TurnedGraph}
use Rattle.search.specs.Hops.{Hop, InnerClaims, Joined, Covered}
use Rattle.lacks.specs.declared.Lacks.{Lacks}
use Rattle.lacks.specs.Lacks.{Pieced, PiecedBelow, LacksIn}
use Rattle.candidates.specs.declared.Trial.{Trial}

-- the set at place i loops with the claims in force
pub record LoopsAt (g : Graph) (force : Claims) (i : ℕ) : Type 0 where
  pub inner : Claims
  pub is_inner : InnerClaims g force (get_or g.sets i 0) inner
  pub joined : Joined (Hop g inner (get_or g.sets i 0)) (get_or g.sets i 0)

-- r has those states of the set at place i that a list of masks has there: its entrances, or its exits
abbrev pub InSet : Graph → List ℕ → ℕ → ℕ → Type 0
InSet g l i r = (t : ℕ) → member t r ≡ (member t (get_or l i 0) && member t (get_or g.sets i 0))

-- the set at place i mixes with the claims in force
pub record MixesAt (g : Graph) (force : Claims) (i : ℕ) : Type 0 where
  pub inner : Claims
  pub is_inner : InnerClaims g force (get_or g.sets i 0) inner
  pub entrances : ℕ
  pub are_entrances : InSet g g.lefts i entrances
  pub exits : ℕ
  pub are_exits : InSet g g.rights i exits
  pub covered : Covered (Hop g inner (get_or g.sets i 0)) entrances exits (get_or g.sets i 0)

-- new has the places below n whose loops hold with the claims in force and are not in force yet, and those whose mixes are so
pub record OpensOn (g : Graph) (force : Claims) (n : ℕ) (new : Claims) : Type 0 where
  pub loop_iff : (i : ℕ) → (i ∈ new.loops) ↔ ((i < n) × LoopsAt g force i × ¬ (i ∈ force.loops))
  pub mix_iff : (i : ℕ) → (i ∈ new.mixes) ↔ ((i < n) × MixesAt g force i × ¬ (i ∈ force.mixes))

-- where piece says whether the set at place i has an entrance and an exit, new has the place i alone where it loops, and where it mixes
abbrev pub FindsAt : Graph → Claims → Bool → ℕ → Claims → Type 0
FindsAt g force piece i new = Decides piece (Pieced g i)
    → ((t : ℕ) → (t ∈ new.loops) ↔ ((t ≡ i) × LoopsAt g force i)) × ((t : ℕ) → (t ∈ new.mixes) ↔ ((t ≡ i) × MixesAt g force i))

-- of the places, pieces has those whose sets have an entrance and an exit
abbrev pub PiecedAmong : Graph → ℕ → ℕ → Type 0
PiecedAmong g pieces places = (i : ℕ) → i ∈ places → (i ∈ pieces) ↔ Pieced g i

-- new has those of the places whose sets loop, and those whose sets mix
pub record FoundAmong (g : Graph) (force : Claims) (places : ℕ) (new : Claims) : Type 0 where
  pub loop_iff : (i : ℕ) → (i ∈ new.loops) ↔ ((i ∈ places) × LoopsAt g force i)
  pub mix_iff : (i : ℕ) → (i ∈ new.mixes) ↔ ((i ∈ places) × MixesAt g force i)

-- r has the places below n with no claim in force
abbrev pub LiveBelow : Claims → ℕ → ℕ → Type 0
LiveBelow force n r = (i : ℕ) → (i ∈ r) ↔ ((i < n) × (¬ (i ∈ force.loops)) × (¬ (i ∈ force.mixes)))

-- the claims in force as rounds leave them: the loop of a set whose mix is in force holds, and the mix of one whose loop is in force holds only
-- where it is in force too
pub record Paired (g : Graph) (force : Claims) (n : ℕ) : Type 0 where
  pub low : (i : ℕ) → i ∈ force.mixes → i < n
  pub due : (i : ℕ) → i ∈ force.mixes → LoopsAt g force i
  pub both : (i : ℕ) → i ∈ force.loops → MixesAt g force i → i ∈ force.mixes

-- what a round opens, it opens at the places, which have no claim in force; but the loop of a set whose mix is in force
pub record Awaited (g : Graph) (force : Claims) (n places : ℕ) : Type 0 where
  pub paired : Paired g force n
  pub live : (i : ℕ) → i ∈ places → (i < n) × (¬ (i ∈ force.loops)) × (¬ (i ∈ force.mixes))
  pub loop_at : (i : ℕ) → i < n → LoopsAt g force i → ¬ (i ∈ force.loops) → (i ∈ places) ⊎ (i ∈ force.mixes)
  pub mix_at : (i : ℕ) → i < n → MixesAt g force i → ¬ (i ∈ force.mixes) → i ∈ places

-- none of the masks of the 64 states has the place i
abbrev pub InNone : List ℕ → ℕ → Type 0
InNone lack i = (q : ℕ) → q < 64 → ¬ (i ∈ get_or lack q 0)

-- r has the places at which no state is lacking, forward or backward
abbrev pub Unstuck : ℕ → Lacks → ℕ → Type 0
Unstuck places lacks r = (i : ℕ) → (i ∈ r) ↔ ((i ∈ places) × InNone lacks.to i × InNone lacks.from i)

-- the sets at the places fresh loop with the claims in force
abbrev pub LoopingAt : Graph → Claims → ℕ → Type 0
LoopingAt g force fresh = (i : ℕ) → i ∈ fresh → LoopsAt g force i

-- r is a part of p with a state that stands at one of the places
abbrev pub PartAmong : Graph → ℕ → ℕ → ℕ → Type 0
PartAmong g places p r = (0 < r) × ((i : ℕ) × (i ∈ places) × (r ≡ get_or g.sets i 0) × (r ⊆ p))

-- what a round is handed: sets that loop, and the states lacking at the places, forward and backward
pub record Handed (g : Graph) (t : Trial) (lacks : Lacks) : Type 0 where
  pub looping : LoopingAt g t.force t.fresh
  pub to_lacks : LacksIn g t.force t.pieces t.places lacks.to
  pub from_lacks : (back : Graph) → TurnedGraph g back → LacksIn back t.force t.pieces t.places lacks.from

-- where the places are awaited, new has what a round opens; its loops that are not due hold anyway
pub record OpensAwaited (g : Graph) (force : Claims) (n places : ℕ) (new : Claims) : Type 0 where
  pub opens : Awaited g force n places → OpensOn g force n new
  pub tested : (i : ℕ) → i ∈ new.loops → ¬ (i ∈ force.mixes) → LoopsAt g force i

-- the same for any n sets: pieces are the places of those with an entrance and an exit, and the places are among theirs
abbrev pub OpensNext : Graph → Claims → ℕ → ℕ → Claims → Type 0
OpensNext g force pieces places new = (n : ℕ) → PiecedBelow g n pieces → ((i : ℕ) → i ∈ places → i < n) → OpensAwaited g force n places new

-- What the search reads of an automaton: letter steps, sets and limits, as masks of states.
use Rattle.std.specs.Prelude.{ℕ, ◌+◌, ◌≤◌, ◌<◌, ◌≡◌, ◌⊎◌, ◌↔◌, List, length, take, drop, get_or}
use Rattle.masks.specs.Graph.{SourceAdded, Turned}
use Rattle.masks.specs.Mask.{◌∈◌}

-- for each state the targets of its letter steps; the sets by place; for each set the states r with row P → r, and with row r → P
pub record Graph : Type 0 where
  pub letters : List ℕ
  pub sets : List ℕ
  pub lefts : List ℕ
  pub rights : List ℕ

-- the 64 masks of an array from a place on
unfoldable pub part : List ℕ → ℕ → List ℕ
part l base = take 64 (drop base l)

-- the first four parts of one array of 448 masks
unfoldable pub graph_of : List ℕ → Graph
graph_of l = record { letters = part l 0; sets = part l 64; lefts = part l 128; rights = part l 192 }

-- back is the graph g with every step turned round: letters turned, the same sets, lefts and rights exchanged
pub record TurnedGraph (g back : Graph) : Type 0 where
  pub turned : Turned g.letters back.letters
  pub sets_are : (i : ℕ) → get_or back.sets i 0 ≡ get_or g.sets i 0
  pub lefts_are : (i : ℕ) → get_or back.lefts i 0 ≡ get_or g.rights i 0
  pub rights_are : (i : ℕ) → get_or back.rights i 0 ≡ get_or g.lefts i 0

-- the other three parts of the array: for each state r the places of the sets that have it, of those with row P → r, of those with row r → P
pub record Indexed (l : List ℕ) : Type 0 where
  pub by_sets : Turned (graph_of l).sets (part l 256)
  pub by_lefts : Turned (graph_of l).lefts (part l 320)
  pub by_rights : Turned (graph_of l).rights (part l 384)

-- an array becomes the graph turned round; where that of the graph has its other parts, it has them too
pub record TurnsIndexed (l new : List ℕ) : Type 0 where
  pub turned : TurnedGraph (graph_of l) (graph_of new)
  pub indexed : Indexed l → Indexed new

-- an array has the graph g turned round, and these parts
pub record HasTurned (g : Graph) (back : List ℕ) : Type 0 where
  pub turned : TurnedGraph g (graph_of back)
  pub indexed : Indexed back

-- r has the places whose masks have the state s
abbrev pub Having : List ℕ → ℕ → ℕ → Type 0
Having masks s r = (i : ℕ) → (i ∈ r) ↔ (s ∈ get_or masks i 0)

-- r has the places whose masks have one of the states m
abbrev pub Meeting : List ℕ → ℕ → ℕ → Type 0
Meeting masks m r = (i : ℕ) → (i ∈ r) ↔ ((s : ℕ) × (s ∈ m) × (s ∈ get_or masks i 0))

-- the masks of one part of an array are those of a list; the other masks stay
pub record Fills (old : List ℕ) (base : ℕ) (masks new : List ℕ) : Type 0 where
  pub length_is : length new ≡ length old
  pub filled : (j : ℕ) → j < 64 → get_or new (base + j) 0 ≡ get_or masks j 0
  pub others : (j : ℕ) → (j < base) ⊎ (base + 64 ≤ j) → get_or new j 0 ≡ get_or old j 0

-- the place i is added to each mask of one part that is at a place of m; the other masks stay
pub record PlaceAdded (old : List ℕ) (base m i : ℕ) (new : List ℕ) : Type 0 where
  pub length_is : length new ≡ length old
  pub added : SourceAdded (part old base) m i (part new base)
  pub others : (j : ℕ) → (j < base) ⊎ (base + 64 ≤ j) → get_or new j 0 ≡ get_or old j 0

-- one part that had nothing is another turned round, which has nothing from place n on; the other masks stay
pub record PartIndexed (old : List ℕ) (from by n : ℕ) (new : List ℕ) : Type 0 where
  pub length_is : length new ≡ length old
  pub turned : length old ≡ 448 → ((j : ℕ) → j < 64 → get_or old (by + j) 0 ≡ 0) → ((i : ℕ) → n ≤ i → i < 64 → get_or old (from + i) 0 ≡ 0)
      → Turned (part new from) (part new by)
  pub others : (j : ℕ) → (j < by) ⊎ (by + 64 ≤ j) → get_or new j 0 ≡ get_or old j 0

-- no set stands from place n on, none there has limits, and nothing stands behind the four parts
pub record Unindexed (l : List ℕ) (n : ℕ) : Type 0 where
  pub size : length l ≡ 448
  pub no_sets : (i : ℕ) → n ≤ i → i < 64 → get_or l (64 + i) 0 ≡ 0
  pub no_lefts : (i : ℕ) → n ≤ i → i < 64 → get_or l (128 + i) 0 ≡ 0
  pub no_rights : (i : ℕ) → n ≤ i → i < 64 → get_or l (192 + i) 0 ≡ 0
  pub blank : (j : ℕ) → 256 ≤ j → get_or l j 0 ≡ 0

-- the graph stays, and it has its other parts
pub record Indexes (n : ℕ) (old new : List ℕ) : Type 0 where
  pub graph_stays : graph_of new ≡ graph_of old
  pub indexed : Unindexed old n → Indexed new

-- What a frame is about, and its legs: the walk of the sheet, a tour of a set, or the pieces of a set.
use Rattle.std.specs.Prelude.{ℕ, ◌≡◌, ◌↔◌, List, [], ◌∷◌, map, length}
use Rattle.lists.specs.Tests.{◌among◌}
use Rattle.masks.specs.Mask.{◌∈◌}
use Rattle.rows.specs.Rows.{standing_sets}
use Rattle.orderings.specs.Steps.{Claim, loops, mixes, members, Walk}
use Rattle.orderings.specs.Claims.{Entrance, Exit}
use Rattle.machine.specs.declared.Verdict.TheVariants.{NonEmpty}
use Rattle.machine.specs.declared.Phase.TheVariants.{Settled}
use Rattle.machine.specs.Machine.{Machine, open_claims}
use Rattle.machine.specs.WellFormed.{WellFormed}
use Rattle.machine.specs.Search.{shortest}
use Rattle.machine.specs.Word.{round_trip}
use Rattle.machine.specs.Expression.{walk_in, nearest, piece, earlier}
use Rattle.search.specs.declared.Claims.{Claims}
use Rattle.search.specs.Graph.{Graph, TurnedGraph}
use Rattle.search.specs.Hops.{InnerClaims, all_mask}
use Rattle.search.specs.Masked.{Masked, Forced, Initials, Finals}
use Rattle.row_table.specs.Letters.{LettersIn}
use Rattle.walks.specs.Choices.{Way, SetsRise}
use Rattle.walks.specs.Walks.{Descends}
use Rattle.tours.specs.declared.frames.Shape.{Shape}
use Rattle.tours.specs.declared.frames.Shape.TheVariants.{Whole, Tour, Pieces}
use Rattle.tours.specs.declared.frames.Frame.{Frame}
use Rattle.walks.specs.declared.found.Leg.{Leg}

-- the arrays hold the machine: the words of its letter rows, and its graph, turned round
pub record Held (m : Machine) (g : Graph) (words : List ℕ) (n : ℕ) (back : Graph) (k : ℕ) : Type 0 where
  pub formed : WellFormed m
  pub letters : LettersIn m.rows words n
  pub turned : TurnedGraph g back
  pub masked : Masked m.rows g k
  pub count : length (standing_sets m.rows) ≡ k

-- the claims with which it is written out: for a claim, those opened in earlier rounds
abbrev pub claims_for : Machine → Shape → ℕ → List Claim
claims_for m Whole P = open_claims m
claims_for m (Tour q) P = earlier m.openings (loops P)
claims_for m Pieces P = earlier m.openings (mixes P)

-- all states, from the initial to the final ones; a set that loops, from a state of it; a set that mixes, with its entrances and exits
abbrev pub About : Machine → Shape → ℕ → ℕ → ℕ → Type 0
About m Whole P starts ends = (P ≡ all_mask) × Initials m.rows starts × Finals m.rows ends × (m.phase ≡ Settled NonEmpty)
About m (Tour q) P starts ends = (q ∈ P) × loops P among open_claims m
About m Pieces P starts ends = mixes P among open_claims m × ((s : ℕ) → (s ∈ starts) ↔ Entrance m.rows P s) × ((s : ℕ) → (s ∈ ends) ↔ Exit m.rows P s)

-- and in force are those of these claims that are about parts of the set
pub record Framed (m : Machine) (g : Graph) (k : ℕ) (shape : Shape) (P starts ends : ℕ) (force : Claims) : Type 0 where
  pub about : About m shape P starts ends
  pub all : Claims
  pub forced : Forced (λ c. c among claims_for m shape P) g k all
  pub inner : InnerClaims g all P force

abbrev pub FramedBy : Machine → Graph → ℕ → Frame → Type 0
FramedBy m g k f = Framed m g k f.shape f.set f.starts f.ends f.force

-- the walk from a to its neighbour b on a tour of P, and the piece of P for s
abbrev pub neighbour : ℕ → ℕ → ℕ → Machine → Walk
neighbour P a b m = nearest m.rows (earlier m.openings (loops P)) P a b

abbrev pub piece_of : ℕ → ℕ → Machine → Walk
piece_of P s m = piece m.rows (earlier m.openings (mixes P)) P s

-- from each state of a list to the next
abbrev pub hops : (ℕ → ℕ → Walk) → List ℕ → List Walk
hops f [] = []
hops f (a ∷ []) = []
hops f (a ∷ b ∷ l) = f a b ∷ hops f (b ∷ l)

-- the walk of the sheet; the walks of a tour between neighbours; the pieces
abbrev pub legs : Machine → Shape → ℕ → List Walk
legs m Whole P = walk_in (shortest m.rows (open_claims m)) ∷ []
legs m (Tour q) P = hops (λ a b. neighbour P a b m) (round_trip P q)
legs m Pieces P = map (λ s. piece_of P s m) (members P)

-- down the layers the leg is the walk of every machine that the arrays hold
abbrev pub LaysLeg : Graph → Shape → ℕ → ℕ → ℕ → Claims → (Machine → Walk) → List ℕ → Leg → Type 0
LaysLeg back shape P starts ends force walk layers r = (m : Machine) (g : Graph) (words : List ℕ) (n k : ℕ)
    → Held m g words n back k → Framed m g k shape P starts ends force
    → Descends (Way words n back force) (SetsRise back force) layers r.start r.steps (walk m)

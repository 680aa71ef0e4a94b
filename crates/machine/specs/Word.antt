-- Request C-12, as propositions: what the expression says of the walk, and how it justifies its claims. Nothing here is computed by a search.
use Rattle.std.specs.Prelude.{ℕ, zero, suc, ◌+◌, ◌*◌, ◌-◌, ◌<◌, ◌≡◌, ◌⊎◌, ◌↔◌, ◌≢◌, ◌&&◌, cond, List, [], ◌∷◌, ◌++◌, map, ltb, leb}
use Rattle.std.proofs.Math.Option.{Option, none, some}
use Rattle.lists.specs.Tests.{◌among◌, Once, keep}
use Rattle.rows.specs.declared.Row.{Row}
use Rattle.orderings.specs.Steps.{Claim, loops, mixes, set_of, Label, letter, ω, back, mix, Step, needs, members, Walk, Leads, Inside, On}
use Rattle.orderings.specs.Claims.{Entrance, Exit, Gap}
use Rattle.orderings.specs.Systems.{Allowed, Line, Derivation, Has, depth, Valid, AcceptedIn}
use Rattle.orderings.specs.Timelines.{timelines}
use Rattle.machine.specs.Machine.{Opening, Machine, open_claims}
use Rattle.machine.specs.Order.{Found, Foremost, Best}
use Rattle.machine.specs.Text.{text, number_text}

-- "with openings of earlier rounds only": d was opened in a round before that of c
abbrev pub Before : List Opening → Claim → Claim → Type 0
Before l c d = (o : Opening) × (p : Opening) × o among l × p among l × (o.claim ≡ c) × (p.claim ≡ d) × (p.round < o.round)

-- a walk of one or more steps inside the set of c, with letter steps and steps of earlier openings
abbrev pub Expands : List Row → List Opening → Claim → Walk → Type 0
Expands rows l c w = Inside (set_of c) w × Allowed (timelines rows) (Before l c) w × (w ≢ [])

abbrev pub found : ℕ → Walk → Found
found a w = record { start = a; walk = w }

-- from a to b
abbrev pub Between : List Row → List Opening → ℕ → ℕ → ℕ → Found → Type 0
Between rows l P a b f = (f.start ≡ a) × Leads f.start f.walk b × Expands rows l (loops P) f.walk

-- "between neighbours it takes the fewest-step walk of one or more steps inside the set. Ties go by document 01's order of walks"
abbrev pub Nearest : List Row → List Opening → ℕ → ℕ → ℕ → Walk → Type 0
Nearest rows l P a b w = Foremost (Between rows l P a b) (found a w)

-- from each state of a list to the next
abbrev pub Along : (ℕ → ℕ → Walk → Type 0) → List ℕ → Walk → Type 0
Along N [] T = T ≡ []
Along N (a ∷ []) T = T ≡ []
Along N (a ∷ b ∷ l) T = (v : Walk) × (u : Walk) × N a b v × Along N (b ∷ l) u × (T ≡ v ++ u)

-- the states of P in rising order from q on, passing from the highest to the lowest, and back
unfoldable pub round_trip : ℕ → ℕ → List ℕ
round_trip P q = q ∷ (keep (ltb q) (members P) ++ (keep (λ s. ltb s q) (members P) ++ (q ∷ [])))

-- "a tour of the set from q: through its states in rising order, passing from the highest to the lowest, and back"
abbrev pub Tour : List Row → List Opening → ℕ → ℕ → Walk → Type 0
Tour rows l P q T = Along (Nearest rows l P) (round_trip P q) T

-- a piece that has s at an end of a step
abbrev pub PieceBy : List Row → List Opening → ℕ → ℕ → Found → Type 0
PieceBy rows l P s f = Entrance rows P f.start × ((e : ℕ) × Exit rows P e × Leads f.start f.walk e) × On s f.start f.walk × Expands rows l (mixes P) f.walk

-- "the fewest-step piece that has that state at an end of a step"; C-16: where there is none, the piece of no steps
abbrev pub PieceFor : List Row → List Opening → ℕ → ℕ → Walk → Type 0
PieceFor rows l P s w = ((e : ℕ) × Foremost (PieceBy rows l P s) (found e w)) ⊎ (((f : Found) → ¬ PieceBy rows l P s f) × Gap rows P s × (w ≡ []))

-- two lists, one by one
abbrev pub Each : {A B : Type 0} → (A → B → Type 0) → List A → List B → Type 0
Each R [] [] = Unit {0}
Each R [] (y ∷ m) = ⊥
Each R (x ∷ l) [] = ⊥
Each R (x ∷ l) (y ∷ m) = R x y × Each R l m

-- texts with a byte between them
abbrev pub joined : ℕ → List (List ℕ) → List ℕ
joined c [] = []
joined c (t ∷ []) = t
joined c (t ∷ u ∷ l) = t ++ (c ∷ joined c (u ∷ l))

-- "parts are joined by `.`", "a walk without steps is `e`"
abbrev pub parts_text : List (List ℕ) → List ℕ
parts_text [] = text "e"
parts_text (p ∷ l) = joined 46 (p ∷ l)

-- the parts written are, one by one, the steps of the walk; R says how a step is written
abbrev pub WritesWalk : (Step → List ℕ → Type 0) → Walk → List ℕ → Type 0
WritesWalk R w b = (parts : List (List ℕ)) × Each R w parts × (b ≡ parts_text parts)

module _ (rows : List Row) where
  abbrev pub line : Claim → List Walk → Line (timelines rows)
  line c ws = record { claim = c; walks = ws }

  -- the tour is among the walks that justify "P loops", and each of these is a stretch of the tour, gone round
  abbrev pub Toured : Derivation (timelines rows) → ℕ → Walk → Type 0
  Toured D P T = (ws : List Walk) × line (loops P) ws among D × T among ws × ((w : Walk) → w among ws → (u : Walk) × (v : Walk) × (T ++ T ≡ u ++ (w ++ v)))

  -- the walks that justify "P mixes" are the pieces that have a step
  abbrev pub Pieced : Derivation (timelines rows) → ℕ → List Walk → Type 0
  Pieced D P ps = (ws : List Walk) × line (mixes P) ws among D × ((w : Walk) → w among ws ↔ (w among ps × (w ≢ [])))

  module _ (l : List Opening) (D : Derivation (timelines rows)) where
    -- `(T)w` and `(T)v`
    abbrev pub WritesTour : (Step → List ℕ → Type 0) → ℕ → ℕ → List ℕ → List ℕ → Type 0
    WritesTour R P q close b = (T : Walk) × Tour rows l P q T × Toured D P T × ((i : List ℕ) × WritesWalk R T i × (b ≡ text "(" ++ (i ++ close)))

    -- `sh(..)`, one piece for each state, rising, separated by commas
    abbrev pub WritesPieces : (Step → List ℕ → Type 0) → ℕ → List ℕ → Type 0
    WritesPieces R P b = (ps : List Walk) × Each (PieceFor rows l P) (members P) ps × Pieced D P ps
        × ((is : List (List ℕ)) × Each (WritesWalk R) ps is × (b ≡ text "sh(" ++ (joined 44 is ++ text ")")))

    -- how a step from p to q is written, where R says how the steps within are
    abbrev pub Part : (Step → List ℕ → Type 0) → ℕ → Label → ℕ → List ℕ → Type 0
    Part R p (letter a) q b = b ≡ number_text a
    Part R p (ω P) q b = WritesTour R P p (text ")w") b
    Part R p (back P) q b = WritesTour R P q (text ")v") b
    Part R p (mix P) q b = WritesPieces R P b

    -- with a falling round number
    unfoldable pub Spells : ℕ → Step → List ℕ → Type 0
    Spells zero t b = Part (λ s c. ⊥) t.from t.label t.to b
    Spells (suc n) t b = Part (Spells n) t.from t.label t.to b

  -- a step of the walk needs the claim
  abbrev pub Asks : Walk → Claim → Type 0
  Asks w c = (t : Step) × t among w × (needs t.label ≡ some c)

  -- the claim occurs in the expression of a walk: in a step of it, or in a walk written for a claim that occurs
  pub data Occurs (D : Derivation (timelines rows)) (w : Walk) : Claim → Type 0 where
    outside : (c : Claim) → Asks w c → Occurs D w c
    within : (c d : Claim) (ws : List Walk) (v : Walk) → Occurs D w d → line d ws among D → v among ws → Asks v c → Occurs D w c

-- the letters written: the decimal numbers that stand in the bytes, after one that was begun
abbrev pub begun : Option ℕ → ℕ
begun none = 0
begun (some n) = n

abbrev pub ended : Option ℕ → List ℕ
ended none = []
ended (some n) = n ∷ []

unfoldable pub numbers_from : Option ℕ → List ℕ → List ℕ
numbers_from o [] = ended o
numbers_from o (b ∷ l) = cond (leb 48 b && leb b 57) (numbers_from (some (begun o * 10 + (b - 48))) l) (ended o ++ numbers_from none l)

abbrev pub numbers : List ℕ → List ℕ
numbers l = numbers_from none l

-- a letter of the walk, or of one that justifies a claim of the derivation
abbrev pub HasLetter : Walk → ℕ → Type 0
HasLetter w a = (t : Step) × t among w × (t.label ≡ letter a)

abbrev pub Uses : (rows : List Row) → Derivation (timelines rows) → Walk → ℕ → Type 0
Uses rows D w a = HasLetter w a ⊎ ((x : Line (timelines rows)) × x among D × ((v : Walk) × v among x.walks × HasLetter v a))

-- Request C-12: the bytes write the walk of the sheet, from an initial to a final state; one derivation, which has exactly the claims that occur
pub record TellsWalk (m : Machine) (bytes : List ℕ) : Type 0 where
  pub told : Found
  pub best : Best m.rows (open_claims m) told
  pub derivation : Derivation (timelines m.rows)
  pub valid : Valid (timelines m.rows) derivation
  pub accepts : AcceptedIn (timelines m.rows) derivation told.walk
  pub once : Once (map (λ (x : Line (timelines m.rows)). x.claim) derivation)
  pub exactly : (c : Claim) → Has (timelines m.rows) derivation c ↔ Occurs m.rows derivation told.walk c
  -- each claim was opened in the round that is its depth there
  pub depths : (c : Claim) → Has (timelines m.rows) derivation c → record { round = depth (timelines m.rows) derivation c; claim = c } among m.openings
  -- the parts written are, one by one, the steps of the walk
  pub spelled : WritesWalk (Spells m.rows m.openings derivation m.rounds) told.walk bytes

-- Request C-12: the walk of a non-empty sheet as an expression.
use Rattle.std.specs.Prelude.{ℕ, zero, suc, ◌+◌, Bool, true, false, ◌&&◌, cond, List, [], ◌∷◌, ◌++◌, map, eqb, ltb, length}
use Rattle.std.proofs.Math.Option.{Option, none, some}
use Rattle.lists.specs.Tests.{any, keep}
use Rattle.lists.specs.Order.{sort_by}
use Rattle.rows.specs.declared.Row.{Row}
use Rattle.orderings.specs.Steps.{Claim, loops, mixes, Label, letter, ω, back, mix, Step, members, Walk}
use Rattle.orderings.specs.Decide.{same_claim, steps_in, entrances, exits}
use Rattle.machine.specs.Machine.{Opening, Machine, open_claims}
use Rattle.machine.specs.Order.{step_key, Found}
use Rattle.machine.specs.Search.{first, go_on, only_if, from_start, shortest}
use Rattle.machine.specs.Text.{text, number_text}
use Rattle.machine.specs.Word.{round_trip, joined}

-- a state that is still to be met, after the state a
abbrev pub met : Option ℕ → ℕ → Option ℕ
met none a = none
met (some s) a = elim (eqb a s) [ true ↦ none | false ↦ some s ]

abbrev pub nothing_left : Option ℕ → Bool
nothing_left none = true
nothing_left (some s) = false

-- the first walk of n of the steps G, which are in order, from a to an end, by way of the state still to be met
unfoldable pub walk_by : List Step → List ℕ → Option ℕ → ℕ → ℕ → Option Walk
walk_by G ends todo zero a = only_if (any (eqb a) ends && nothing_left (met todo a)) (some [])
walk_by G ends todo (suc n) a = first (λ t. elim (eqb t.from a) [ false ↦ none | true ↦ go_on t (walk_by G ends (met todo a) n t.to) ]) G

-- of n steps, or of the least count above n that has such a walk, of tries counts in all
unfoldable pub least_by : List Step → List ℕ → List ℕ → Option ℕ → ℕ → ℕ → Option Found
least_by G starts ends todo zero n = none
least_by G starts ends todo (suc tries) n = elim (first (λ a. from_start a (walk_by G ends todo n a)) starts) [ some f ↦ some f | none ↦ least_by G starts ends todo tries (suc n) ]

abbrev pub walk_in : Option Found → Walk
walk_in none = []
walk_in (some f) = f.walk

abbrev pub ordered : List Row → List Claim → ℕ → List Step
ordered rows l P = sort_by step_key (steps_in rows l P)

-- the fewest-step walk of one or more steps inside P from a to b, the first of them
unfoldable pub nearest : List Row → List Claim → ℕ → ℕ → ℕ → Walk
nearest rows l P a b = let G = ordered rows l P in walk_in (least_by G (a ∷ []) (b ∷ []) none (length G) 1)

-- the fewest-step piece that has s at an end of a step, the first of them; no steps where there is none
unfoldable pub piece : List Row → List Claim → ℕ → ℕ → Walk
piece rows l P s = let G = ordered rows l P in walk_in (least_by G (sort_by (λ a. a ∷ []) (entrances rows P)) (exits rows P) (some s) (length G + length G) 1)

-- one for each state of the set, rising
abbrev pub pieces : List Row → List Claim → ℕ → List Walk
pieces rows l P = map (piece rows l P) (members P)

-- between neighbours
abbrev pub along : (ℕ → ℕ → Walk) → List ℕ → Walk
along f [] = []
along f (a ∷ []) = []
along f (a ∷ b ∷ l) = f a b ++ along f (b ∷ l)

unfoldable pub tour : List Row → List Claim → ℕ → ℕ → Walk
tour rows l P q = along (nearest rows l P) (round_trip P q)

-- the claims opened in rounds before k
abbrev pub claims_below : ℕ → List Opening → List Claim
claims_below k l = map (λ o. o.claim) (keep (λ o. ltb o.round k) l)

-- the round of a claim, 0 where it is not open
abbrev pub round_of : List Opening → Claim → ℕ
round_of [] c = 0
round_of (o ∷ l) c = cond (same_claim c o.claim) o.round (round_of l c)

-- the claims opened in rounds before that of the claim
unfoldable pub earlier : List Opening → Claim → List Claim
earlier l c = claims_below (round_of l c) l

-- parts are joined by `.`; a walk without steps is `e`
abbrev pub walk_text : (Step → List ℕ) → Walk → List ℕ
walk_text part [] = text "e"
walk_text part (t ∷ w) = joined 46 (map part (t ∷ w))

-- a step, where `inner` writes the steps within: a letter, `(T)w`, `(T)v`, or `sh(..)`
abbrev pub spelled : List Row → List Opening → (Step → List ℕ) → ℕ → Label → ℕ → List ℕ
spelled rows l inner p (letter a) q = number_text a
spelled rows l inner p (ω P) q = text "(" ++ (walk_text inner (tour rows (earlier l (loops P)) P p) ++ text ")w")
spelled rows l inner p (back P) q = text "(" ++ (walk_text inner (tour rows (earlier l (loops P)) P q) ++ text ")v")
spelled rows l inner p (mix P) q = text "sh(" ++ (joined 44 (map (walk_text inner) (pieces rows (earlier l (mixes P)) P)) ++ text ")")

-- a step, whose claim is expanded with openings of earlier rounds only; n is no less than its round
unfoldable pub part : List Row → List Opening → ℕ → Step → List ℕ
part rows l zero t = spelled rows l (λ s. []) t.from t.label t.to
part rows l (suc n) t = spelled rows l (part rows l n) t.from t.label t.to

unfoldable pub expression_of : Machine → List ℕ
expression_of m = walk_text (part m.rows m.openings m.rounds) (walk_in (shortest m.rows (open_claims m)))

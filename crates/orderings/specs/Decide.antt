-- Whether a claim holds (`holds?`), and whether a walk leads from an initial to a final state (`accepts?`), computed from the steps that
-- rows and claims allow (`steps`) and the states that these reach (`reach`). Nothing here has to be believed: proofs/Deciding.
use Rattle.std.specs.Prelude.{ℕ, Bool, true, false, not, ◌&&◌, ◌||◌, List, [], ◌∷◌, ◌++◌, map, eqb, length}
use Rattle.std.proofs.Math.Option.{Option, none, some}
use Rattle.lists.specs.Tests.{any, all, put, keep, gather}
use Rattle.lists.specs.Growing.{grown}
use Rattle.masks.specs.Mask.{member}
use Rattle.rows.specs.declared.Row.{Row}
use Rattle.rows.specs.declared.Row.TheVariants.{Initial, Final, Successor, LeftLimit, RightLimit, Strike}
use Rattle.rows.specs.Rows.{standing_sets, stands?}
use Rattle.orderings.specs.Steps.{Claim, loops, mixes, set_of, Label, letter, ω, back, mix, Step, needs, members, content}
use Rattle.orderings.specs.Timelines.{same}

-- the test of a decision
abbrev pub yes? : {A : Type 0} → Dec A → Bool
yes? (yes a) = true
yes? (no n) = false

abbrev pub same_claim : Claim → Claim → Bool
same_claim c d = yes? (same c d)

abbrev pub claim_in? : List Claim → Claim → Bool
claim_in? l c = any (same_claim c) l

abbrev pub step : ℕ → Label → ℕ → Step
step p l q = record { from = p; label = l; to = q }

-- the mix steps to q, from the states with a row to the set P
abbrev pub mix_steps : ℕ → ℕ → Row → List Step
mix_steps P q (Initial s) = []
mix_steps P q (Final s) = []
mix_steps P q (Successor p a r) = []
mix_steps P q (LeftLimit Q r) = []
mix_steps P q (RightLimit p Q) = put (eqb P Q) (step p (mix P) q) []
mix_steps P q (Strike s) = []

-- the steps that one row gives, a mix step with its row P → q
abbrev pub steps_of : List Row → Row → List Step
steps_of rows (Initial s) = []
steps_of rows (Final s) = []
steps_of rows (Successor p a q) = step p (letter a) q ∷ []
steps_of rows (LeftLimit P q) = map (λ p. step p (ω P) q) (members P) ++ gather (mix_steps P q) rows
steps_of rows (RightLimit p P) = map (λ q. step p (back P) q) (members P)
steps_of rows (Strike s) = []

abbrev pub unstruck? : List Row → ℕ → Bool
unstruck? rows s = not (stands? (Strike s) rows)

abbrev pub in_force? : List Claim → Option Claim → Bool
in_force? l none = true
in_force? l (some c) = claim_in? l c

-- the steps that the rows and the claims of a list allow
abbrev pub steps : List Row → List Claim → List Step
steps rows l = keep (λ t. in_force? l (needs t.label) && all (unstruck? rows) (content t.from t.label t.to)) (gather (steps_of rows) rows)

-- those inside P
abbrev pub steps_in : List Row → List Claim → ℕ → List Step
steps_in rows l P = keep (λ t. all (λ s. member s P) (content t.from t.label t.to)) (steps rows l)

-- one of the steps leads to x from a, or from a state of the list
abbrev pub leads_to? : List Step → ℕ → List ℕ → ℕ → Bool
leads_to? G a found x = any (λ t. eqb t.to x && (eqb t.from a || any (eqb t.from) found)) G

abbrev pub targets : List Step → List ℕ
targets G = map (λ t. t.to) G

-- the states to which a walk of one or more of the steps leads from a
unfoldable pub reach : List Step → ℕ → List ℕ
reach G a = grown eqb (targets G) (leads_to? G a) (length (targets G))

abbrev pub reaches? : List Step → ℕ → ℕ → Bool
reaches? G a b = any (eqb b) (reach G a)

-- s lies on a walk of one or more steps from e to f: at its start, at its end, or between
abbrev pub between? : List Step → ℕ → ℕ → ℕ → Bool
between? G e f s = (eqb s e && reaches? G s f) || (reaches? G e s && (eqb s f || reaches? G s f))

abbrev pub loops? : List Step → ℕ → Bool
loops? G P = all (λ a. let r = reach G a in all (λ b. any (eqb b) r) (members P)) (members P)

abbrev pub entrances : List Row → ℕ → List ℕ
entrances rows P = keep (λ e. stands? (LeftLimit P e) rows) (members P)

abbrev pub exits : List Row → ℕ → List ℕ
exits rows P = keep (λ f. stands? (RightLimit f P) rows) (members P)

-- s lies on a piece of one or more of the steps
abbrev pub on_piece? : List Row → List Step → ℕ → ℕ → Bool
on_piece? rows G P s = any (λ e. any (λ f. between? G e f s) (exits rows P)) (entrances rows P)

abbrev pub gap? : List Row → ℕ → ℕ → Bool
gap? rows P s = stands? (LeftLimit P s) rows && stands? (RightLimit s P) rows && unstruck? rows s

abbrev pub mixes? : List Row → List Step → ℕ → Bool
mixes? rows G P = all (λ s. on_piece? rows G P s || gap? rows P s) (members P) && any (on_piece? rows G P) (members P)

abbrev pub says? : List Row → List Step → Claim → Bool
says? rows G (loops P) = loops? G P
says? rows G (mixes P) = mixes? rows G P

-- the claim holds with the claims of the list, for a set of a standing row
unfoldable pub holds? : List Row → List Claim → Claim → Bool
holds? rows l c = any (eqb (set_of c)) (standing_sets rows) && says? rows (steps_in rows l (set_of c)) c

-- the claims, by set, then loop before mix
abbrev pub both : List ℕ → List Claim
both [] = []
both (P ∷ l) = loops P ∷ mixes P ∷ both l

abbrev pub claims : List Row → List Claim
claims rows = both (standing_sets rows)

abbrev pub initial_of : Row → List ℕ
initial_of (Initial s) = s ∷ []
initial_of (Final s) = []
initial_of (Successor p a q) = []
initial_of (LeftLimit P q) = []
initial_of (RightLimit q P) = []
initial_of (Strike s) = []

abbrev pub final_of : Row → List ℕ
final_of (Initial s) = []
final_of (Final s) = s ∷ []
final_of (Successor p a q) = []
final_of (LeftLimit P q) = []
final_of (RightLimit q P) = []
final_of (Strike s) = []

abbrev pub initials : List Row → List ℕ
initials rows = keep (unstruck? rows) (gather initial_of rows)

abbrev pub finals : List Row → List ℕ
finals rows = keep (unstruck? rows) (gather final_of rows)

-- a walk of zero or more steps, with the claims of the list, leads from an initial to a final state
unfoldable pub accepts? : List Row → List Claim → Bool
accepts? rows l = let G = steps rows l in any (λ a. any (λ b. eqb a b || reaches? G a b) (finals rows)) (initials rows)

-- Document 01, "The session as a plain machine" and "Rounds", as functions that compute.
use Rattle.std.specs.Prelude.{ℕ, suc, Bool, true, false, ◌&&◌, not, cond, List, [], ◌∷◌, ◌++◌, map, ltb, leb, length}
use Rattle.lists.specs.Tests.{keep}
use Rattle.lists.specs.Order.{insert_by}
use Rattle.rows.specs.declared.Row.{Row}
use Rattle.rows.specs.Rows.{row_bytes, standing_sets, same_row, stands?}
use Rattle.rows.specs.Batch.{Turn, go, stop}
use Rattle.orderings.specs.Steps.{Claim}
use Rattle.orderings.specs.Decide.{claim_in?, holds?, claims, accepts?}
use Rattle.machine.specs.declared.Verdict.TheVariants.{NonEmpty, Empty}
use Rattle.machine.specs.declared.Phase.{Phase}
use Rattle.machine.specs.declared.Phase.TheVariants.{Open, Running, Settled}

-- an opening with its round
pub record Opening : Type 0 where
  pub round : ℕ
  pub claim : Claim

-- a set of standing rows, kept sorted as byte strings; a phase, with the verdict when settled; the openings; the count of rounds done
pub record Machine : Type 0 where
  pub rows : List Row
  pub phase : Phase
  pub openings : List Opening
  pub rounds : ℕ

-- open, with given rows
abbrev pub open_with : List Row → Machine
open_with rows = record { rows = rows; phase = Open; openings = []; rounds = 0 }

-- fresh is open with no rows
abbrev pub fresh : Machine
fresh = open_with []

-- document 01's limits: standing rows, different sets, rounds done, bytes of a sheet, bytes of a batch
abbrev pub most_rows : ℕ
most_rows = 256

abbrev pub most_sets : ℕ
most_sets = 64

abbrev pub most_rounds : ℕ
most_rounds = 129

abbrev pub longest_sheet : ℕ
longest_sheet = 6400

abbrev pub longest_batch : ℕ
longest_batch = 65536

-- a row that stands already changes nothing; 6: as many rows as may stand do; 7: it would bring a set too many
abbrev pub admit_row : ℕ → ℕ → Row → List Row → Turn (List Row)
admit_row max_rows max_sets r rows = let new = insert_by row_bytes r rows in
    cond (stands? r rows) (go rows)
    (cond (ltb (length rows) max_rows) (cond (leb (length (standing_sets new)) max_sets) (go new) (stop 7)) (stop 6))

-- 6: 256 stand; 7: a 65th set
unfoldable pub load_row : Row → List Row → Turn (List Row)
load_row r rows = admit_row most_rows most_sets r rows

-- 8: the row does not stand
unfoldable pub withdraw_row : Row → List Row → Turn (List Row)
withdraw_row r rows = cond (stands? r rows) (go (keep (λ s. not (same_row r s)) rows)) (stop 8)

-- settled as non-empty where a walk leads from an initial to a final state, as empty where a round was vain, else running
abbrev pub judged : Bool → Bool → Phase
judged true vain = Settled NonEmpty
judged false true = Settled Empty
judged false false = Running

-- close: a walk of zero or more steps at depth 0
unfoldable pub closed : Machine → Machine
closed m = record { rows = m.rows; phase = judged (accepts? m.rows []) false; openings = []; rounds = 0 }

abbrev pub open_claims : Machine → List Claim
open_claims m = map (λ o. o.claim) m.openings

-- every claim that holds with letter steps and the steps of the claims opened before, and that isn't open yet
unfoldable pub opened_next : Machine → List Claim
opened_next m = let l = open_claims m in keep (λ c. not (claim_in? l c) && holds? m.rows l c) (claims m.rows)

abbrev pub nothing? : {A : Type 0} → List A → Bool
nothing? [] = true
nothing? (x ∷ l) = false

-- openings of round k
abbrev pub openings_of : ℕ → List Claim → List Opening
openings_of k l = map (λ c. record { round = k; claim = c }) l

abbrev pub with_openings : Machine → List Opening → Bool → Machine
with_openings m l vain = record {
  rows = m.rows;
  openings = l;
  rounds = suc m.rounds;
  phase = judged (accepts? m.rows (map (λ o. o.claim) l)) vain;
}

-- one round
unfoldable pub next_round : Machine → Machine
next_round m = let new = opened_next m in with_openings m (m.openings ++ openings_of (suc m.rounds) new) (nothing? new)

-- reopen drops openings and rounds and keeps the rows
abbrev pub reopened : Machine → Machine
reopened m = open_with m.rows

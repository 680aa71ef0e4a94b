-- What the rounds promise, of every table of rows that the graph stands for.
use Rattle.std.specs.Prelude.{ℕ, ◌<◌, ◌≡◌, Bool, true, false, List, ◌∷◌, get_or, replicate}
use Rattle.masks.specs.Mask.{◌∈◌}
use Rattle.rows.specs.declared.Row.{Row}
use Rattle.orderings.specs.Steps.{loops, mixes}
use Rattle.machine.specs.declared.Phase.{Phase}
use Rattle.machine.specs.Machine.{most_rounds, Machine, open_with, judged, closed, next_round}
use Rattle.machine.specs.Calls.{close, round, run}
use Rattle.machine.specs.WellFormed.{Table, WellFormed}
use Rattle.search.specs.Graph.{Graph}
use Rattle.search.specs.Hops.{Reached, no_claims}
use Rattle.search.specs.Masked.{Masked, HasLetters, Initials, Finals}
use Rattle.search.specs.Promises.{AcceptsRight}
use Rattle.row_table.specs.Arrays.{SetsIn}
use Rattle.rounds.specs.declared.Progress.{Progress}
use Rattle.rounds.specs.Arrays.{rounds_of}

-- the graph of a table of rows, its n sets, its initial and its final states
pub record Given (rows : List Row) (g : Graph) (initials finals n : ℕ) : Type 0 where
  pub table : Table rows
  pub sets_in : SetsIn rows g.sets n
  pub masked : Masked rows g n
  pub initial_iff : Initials rows initials
  pub final_iff : Finals rows finals

-- the rounds of the claims, the phase and the count of rounds are those of the machine
pub record Mirrors (m : Machine) (loop-rounds mix-rounds : List ℕ) (phase : Phase) (count : ℕ) : Type 0 where
  pub loops_are : loop-rounds ≡ rounds_of m loops
  pub mixes_are : mix-rounds ≡ rounds_of m mixes
  pub phase_is : phase ≡ m.phase
  pub count_is : count ≡ m.rounds

-- no claim is open and no round is done: a walk leads from an initial to a final state, or not
abbrev pub closed_as : Bool → Progress
closed_as accepted = record { loop_rounds = replicate 64 0; mix_rounds = replicate 64 0; phase = judged accepted false; rounds = 0 }

-- the letter steps of a table of rows, its initial and its final states; the graph may have nothing else
pub record LettersGiven (rows : List Row) (g : Graph) (initials finals : ℕ) : Type 0 where
  pub table : Table rows
  pub letters : HasLetters rows g
  pub initial_iff : Initials rows initials
  pub final_iff : Finals rows finals

-- they are those of the machine, closed
abbrev pub Closes : Graph → ℕ → ℕ → Progress → Type 0
Closes g initials finals r = (m : Machine) → LettersGiven m.rows g initials finals
    → Mirrors (closed m) r.loop_rounds r.mix_rounds r.phase r.rounds

-- where they were those of a machine, they are those of the machine after one round more
abbrev pub DoesRound : Graph → ℕ → ℕ → ℕ → Progress → Progress → Type 0
DoesRound g initials finals n old new = (m : Machine) → WellFormed m → Given m.rows g initials finals n
    → Mirrors m old.loop_rounds old.mix_rounds old.phase old.rounds
    → Mirrors (next_round m) new.loop_rounds new.mix_rounds new.phase new.rounds

-- letters alone lead to the states reached, and from no initial to a final state
pub record Unaccepted (g : Graph) (initials finals reached : ℕ) : Type 0 where
  pub reached_are : Reached g no_claims initials reached
  pub tested : AcceptsRight g no_claims initials finals false

-- they are those of the machine with these rows, closed and after rounds until it is settled, k at most
abbrev pub WorksUpTo : Graph → ℕ → ℕ → ℕ → ℕ → Progress → Type 0
WorksUpTo g initials finals n k r = (rows : List Row) → Given rows g initials finals n
    → Mirrors (run (open_with rows) (close ∷ replicate k round)) r.loop_rounds r.mix_rounds r.phase r.rounds

-- they are those of the machine with these rows, closed and settled
abbrev pub Settles : Graph → ℕ → ℕ → ℕ → Progress → Type 0
Settles g initials finals n r = WorksUpTo g initials finals n most_rounds r

-- ---- a first round that opens nothing

-- the set at place i has a state that is no exit of it, and from which no letter leads to a state of the set
pub record Idle (g : Graph) (i : ℕ) : Type 0 where
  pub state : ℕ
  pub has : state ∈ get_or g.sets i 0
  pub no_exit : ¬ (state ∈ get_or g.rights i 0)
  pub unleading : (t : ℕ) → t ∈ get_or g.letters state 0 → ¬ (t ∈ get_or g.sets i 0)

-- the first n sets are so
abbrev pub AllIdle : Graph → ℕ → Type 0
AllIdle g n = (i : ℕ) → i < n → Idle g i

-- no walk leads from an initial to a final state, and one round is done, which opened nothing
abbrev pub vain : Progress
vain = record { loop_rounds = replicate 64 0; mix_rounds = replicate 64 0; phase = judged false true; rounds = 1 }

-- What one row does to the masks of a graph, to the words of letter rows, and to what is kept of the rows met.
use Rattle.std.specs.Prelude.{ℕ, ◌+◌, ◌-◌, ◌*◌, ◌/◌, ◌%◌, ◌≤◌, ◌<◌, ◌≡◌, Bool, true, false, ◌⊎◌, ◌≢◌, List, length, get_or, set, Option, None, Some, Result, Ok, Err}
use Rattle.masks.specs.Mask.{◌∈◌}
use Rattle.chains.specs.Chains.{Chains}
use Rattle.causes.specs.declared.Cause.{Cause}
use Rattle.causes.specs.declared.Cause.TheVariants.{TooManyRows, TooManySets}
use Rattle.rows.specs.Reading.{row_at, read_row}
use Rattle.search.specs.Graph.{part}
use Rattle.automaton.specs.Promise.{Adds, AddsAt}
use Rattle.loader.specs.declared.Letters.{Letters}
use Rattle.loader.specs.declared.Sets.{Sets}
use Rattle.loader.specs.declared.Loading.{Loading}

-- the chain of a letter row's word, and that of a set; the factors are primes of 32 bits, which spread them
unfoldable pub letter_chain : ℕ → ℕ
letter_chain w = w / 4294967296 % 16777216 * 3032491095 / 65536 % 1024

unfoldable pub set_chain : ℕ → ℕ
set_chain P = (P % 4294967296 * 2654435761 / 4194304 % 512 + P / 4294967296 * 3266489917 / 4194304 % 512) % 512

-- the words of the letter rows stand first, in their chains
pub record LettersReady (words : List ℕ) (l : Letters) : Type 0 where
  pub sizes : (length words ≡ 256) × (length l.next ≡ 256) × (length l.heads ≡ 1024)
  pub few : l.count ≤ 256
  pub chains : Chains letter_chain l.heads l.next words l.count

-- the sets stand first in their part of the graph, in their chains
pub record SetsReady (graph : List ℕ) (s : Sets) : Type 0 where
  pub sizes : (length graph ≡ 448) × (length s.next ≡ 64) × (length s.heads ≡ 512)
  pub few : s.count ≤ 64
  pub chains : Chains set_chain s.heads s.next (part graph 64) s.count

-- there are at most 256 rows, no fewer than letter rows
pub record Ready (graph words : List ℕ) (m : Loading) : Type 0 where
  pub few : m.row_count ≤ 256
  pub few_letters : m.letters.count ≤ m.row_count
  pub letters : LettersReady words m.letters
  pub sets : SetsReady graph m.sets

-- what came of a row that can be refused: nothing, or its cause
abbrev pub Came : Type 0
Came = Result (Unit {0}) Cause

-- a state put into a mask: it is in it, or 256 rows stand, or it is put in
pub data PutsState (old rows s new rows' : ℕ) : Came → Type 0 where
  stands : s ∈ old → new ≡ old → rows' ≡ rows → PutsState old rows s new rows' (Ok tt)
  full : ¬ (s ∈ old) → rows ≡ 256 → PutsState old rows s new rows' (Err TooManyRows)
  put : ¬ (s ∈ old) → rows < 256 → Adds old s new → rows' ≡ rows + 1 → PutsState old rows s new rows' (Ok tt)

-- the word w is one of the first n
abbrev pub WordAt : List ℕ → ℕ → ℕ → Type 0
WordAt words n w = (j : ℕ) × (j < n) × (get_or words j 0 ≡ w)

-- w is put behind the first n words
pub record PutBehind (old : List ℕ) (n w : ℕ) (new : List ℕ) : Type 0 where
  pub here : get_or new n 0 ≡ w
  pub before : (j : ℕ) → j < n → get_or new j 0 ≡ get_or old j 0

-- the letter row of the word w, from p to q, is met: its word stands among the first n; it is not where the mask of p lacks q, or no word is its own
abbrev pub LetterNew : List ℕ → List ℕ → ℕ → ℕ → ℕ → ℕ → Type 0
LetterNew graph letters n p q w = ¬ (q ∈ get_or graph p 0) ⊎ ¬ WordAt letters n w

abbrev pub LetterMet : List ℕ → List ℕ → ℕ → ℕ → ℕ → ℕ → Bool → Type 0
LetterMet graph letters n p q w true = WordAt letters n w
LetterMet graph letters n p q w false = LetterNew graph letters n p q w

-- a letter row put in: the mask of p gets q, and its word stands last, in its chain
pub record LetterPut (graph words : List ℕ) (l : Letters) (p q w : ℕ) (graph' words' : List ℕ) (l' : Letters) : Type 0 where
  pub adds : AddsAt graph 0 p q graph'
  pub word : PutBehind words l.count w words'
  pub count : l'.count ≡ l.count + 1
  pub ready : LettersReady words' l'

-- a letter row loaded: it is met, or 256 rows stand, or it is put in
pub data PutsLetter (graph words : List ℕ) (m : Loading) (p q w : ℕ) (graph' words' : List ℕ) (m' : Loading) : Came → Type 0 where
  stands : WordAt words m.letters.count w → graph' ≡ graph → words' ≡ words → m' ≡ m → PutsLetter graph words m p q w graph' words' m' (Ok tt)
  full : LetterNew graph words m.letters.count p q w → m.row_count ≡ 256 → PutsLetter graph words m p q w graph' words' m' (Err TooManyRows)
  put : LetterNew graph words m.letters.count p q w → m.row_count < 256 → LetterPut graph words m.letters p q w graph' words' m'.letters
      → m' ≡ record m { row_count = m.row_count + 1; letters = m'.letters } → PutsLetter graph words m p q w graph' words' m' (Ok tt)

-- one of the first k sets is P; the link of its place, or 0
abbrev pub SetAt : List ℕ → ℕ → ℕ → ℕ → Type 0
SetAt graph k P i = (i < k) × (get_or (part graph 64) i 0 ≡ P)

abbrev pub FindsSet : List ℕ → ℕ → ℕ → Option ℕ → Type 0
FindsSet graph k P (Some i) = SetAt graph k P i
FindsSet graph k P None = (i : ℕ) → ¬ SetAt graph k P i

-- a set put behind the others, with one state in the part that begins at base
pub record SetPut (graph : List ℕ) (s : Sets) (base P q : ℕ) (graph' : List ℕ) (s' : Sets) : Type 0 where
  pub set_is : get_or graph' (64 + s.count) 0 ≡ P
  pub state_is : Adds 0 q (get_or graph' (base + s.count) 0)
  pub others : (j : ℕ) → j ≢ 64 + s.count → j ≢ base + s.count → get_or graph' j 0 ≡ get_or graph j 0
  pub count : s'.count ≡ s.count + 1
  pub ready : SetsReady graph' s'

-- a limit row of a set that was not met: 256 rows stand, or 64 sets do, or the set is put in
pub data PutsSet (graph : List ℕ) (m : Loading) (base P q : ℕ) (graph' : List ℕ) (m' : Loading) : Came → Type 0 where
  full : m.row_count ≡ 256 → PutsSet graph m base P q graph' m' (Err TooManyRows)
  sets_full : m.row_count < 256 → m.sets.count ≡ 64 → PutsSet graph m base P q graph' m' (Err TooManySets)
  put : m.row_count < 256 → m.sets.count < 64 → SetPut graph m.sets base P q graph' m'.sets
      → m' ≡ record m { row_count = m.row_count + 1; sets = m'.sets } → PutsSet graph m base P q graph' m' (Ok tt)

-- a limit row loaded: its state is put into the mask of its set, or its set is new
pub data PutsLimit (graph : List ℕ) (m : Loading) (base P q : ℕ) (graph' : List ℕ) (m' : Loading) : Came → Type 0 where
  known : (i v n : ℕ) {r : Came} → SetAt graph m.sets.count P i → PutsState (get_or graph (base + i) 0) m.row_count q v n r
      → graph' ≡ set graph (base + i) v → m' ≡ record m { row_count = n } → PutsLimit graph m base P q graph' m' r
  new : {r : Came} → ((i : ℕ) → ¬ SetAt graph m.sets.count P i) → PutsSet graph m base P q graph' m' r → PutsLimit graph m base P q graph' m' r

-- the row at the head of the bytes is refused, or it is loaded by what it does
abbrev pub Tries : List ℕ → (Came → Type 0) → Result ℕ Cause → Type 0
Tries l Does (Ok len) = (read_row l ≡ Ok (row_at (get_or l 0 0) l, len)) × Does (Ok tt)
Tries l Does (Err c) = (read_row l ≡ Err c) ⊎ ((len : ℕ) × (read_row l ≡ Ok (row_at (get_or l 0 0) l, len)) × Does (Err c))

-- of a kind of limit rows: the part of the graph, the place of the state, and that of the set
abbrev pub limit_base : ℕ → ℕ
limit_base k = 128 + 64 * (k - 4)

abbrev pub limit_state : ℕ → ℕ
limit_state k = 9 - 8 * (k - 4)

abbrev pub limit_set : ℕ → ℕ
limit_set k = 1 + (k - 4)

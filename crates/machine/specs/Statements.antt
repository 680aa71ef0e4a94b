-- What is shown of the plain machine, as statements: `Closed`, `Rounded`, `Listed`, `Works`, `SecondWorks`, `RoundsEnd`, `VerdictOfRounds`, `MoreRows`, `Prints`,
-- `Expresses`, `Saves`. Nothing here is computed by the machine's own search.
use Rattle.std.specs.Prelude.{ℕ, suc, ◌≤◌, ◌<◌, ◌*◌, ◌^◌, ◌≡◌, ◌⊎◌, ◌↔◌, ◌≢◌, List, [], ◌∷◌, ◌++◌, length}
use Rattle.std.proofs.Math.Option.{Option, some}
use Rattle.lists.specs.Tests.{◌among◌, Once, gather}
use Rattle.lists.specs.Order.{Sorted, sort_by}
use Rattle.rows.specs.declared.Row.{Row}
use Rattle.rows.specs.Rows.{row_bytes, batch_of, AllFit, Bytes, standing_sets}
use Rattle.orderings.specs.Steps.{Claim, loops, mixes, set_of, Walk}
use Rattle.orderings.specs.Systems.{Allowed, Holds, walk_depth, depth, LeastDepth, GreatestLeast, Accepts, LeastAccepted}
use Rattle.orderings.specs.Timelines.{Accepting, timelines}
use Rattle.orderings.specs.MoreRows.{Grows, KeepsDepths}
use Rattle.machine.specs.declared.Verdict.{Verdict}
use Rattle.machine.specs.declared.Verdict.TheVariants.{NonEmpty, Empty}
use Rattle.machine.specs.declared.Phase.TheVariants.{Open, Running, Settled}
use Rattle.machine.specs.Machine.{most_sets, most_rounds, Opening, Machine, open_with, fresh, open_claims}
use Rattle.machine.specs.Order.{Found}
use Rattle.machine.specs.Sheet.{verdict_line, opening_line, walk_lines, sheet}
use Rattle.machine.specs.Word.{numbers, Uses, TellsWalk}
use Rattle.machine.specs.Calls.{load, round, verdict, print, expression, done, wrote, decided, refused, accept, call, second}
use Rattle.machine.specs.Marks.{Marked, fresh_marked, MarkedCall, mark, return_to, marked_call, marked_run, MarkedBrings}

-- a walk of zero or more steps, with letter steps and steps of the claims l, leads from an initial to a final state
abbrev pub SomeWalk : List Row → List Claim → Type 0
SomeWalk rows l = (w : Walk) × Accepting rows w × Allowed (timelines rows) (λ c. c among l) w

-- Document 01: "Fresh is open with no rows"
pub record FreshMachine (m : Machine) : Type 0 where
  pub rows : m.rows ≡ []
  pub phase : m.phase ≡ Open
  pub none : m.openings ≡ []
  pub count : m.rounds ≡ 0

-- Document 01, "reopen": m' is m without its openings and rounds, open again
pub record Reopened (m m' : Machine) : Type 0 where
  pub rows : m'.rows ≡ m.rows
  pub phase : m'.phase ≡ Open
  pub none : m'.openings ≡ []
  pub count : m'.rounds ≡ 0

-- Document 01, "close": m' is m closed
pub record Closed (m m' : Machine) : Type 0 where
  pub rows : m'.rows ≡ m.rows
  pub count : m'.rounds ≡ 0
  pub none : m'.openings ≡ []
  pub non_empty : (m'.phase ≡ Settled NonEmpty) ↔ SomeWalk m.rows []
  pub running : (m'.phase ≡ Running) ↔ (¬ SomeWalk m.rows [])

-- the sheet's order of openings: by round, then set, then loop before mix
abbrev pub loop_first : Claim → ℕ
loop_first (loops P) = 0
loop_first (mixes P) = 1

abbrev pub opening_key : Opening → List ℕ
opening_key o = o.round ∷ set_of o.claim ∷ loop_first o.claim ∷ []

-- Document 01, "Rounds": m' is m after one round
pub record Rounded (m m' : Machine) : Type 0 where
  pub rows : m'.rows ≡ m.rows
  pub count : m'.rounds ≡ suc m.rounds
  -- every claim that holds with letter steps and the steps of the claims opened in rounds before, and that isn't open yet
  pub opens : (o : Opening) → o among m'.openings
      ↔ (o among m.openings ⊎ ((o.round ≡ suc m.rounds) × Holds (timelines m.rows) (λ c. c among open_claims m) o.claim × ¬ (o.claim among open_claims m)))
  -- after it, a walk leads from an initial to a final state; or it opened nothing
  pub non_empty : (m'.phase ≡ Settled NonEmpty) ↔ SomeWalk m.rows (open_claims m')
  pub empty : (m'.phase ≡ Settled Empty) ↔ (¬ SomeWalk m.rows (open_claims m') × (m'.openings ≡ m.openings))
  pub running : (m'.phase ≡ Running) ↔ (¬ SomeWalk m.rows (open_claims m') × (m'.openings ≢ m.openings))

-- the openings that a sheet lists: in its order, none twice, each derivable claim of least depth at most the count of rounds with that depth
pub record Listed (m : Machine) : Type 0 where
  pub order : Sorted opening_key m.openings
  pub once : Once (open_claims m)
  pub depths : (o : Opening) → o among m.openings ↔ ((o.round ≤ m.rounds) × LeastDepth (timelines m.rows) o.claim o.round)

-- demands 2 and 3: the verdict, and the round number K
abbrev pub Number : List Row → Verdict → ℕ → Type 0
Number rows NonEmpty K = Accepts (timelines rows) × LeastAccepted (timelines rows) K
Number rows Empty K = ¬ Accepts (timelines rows) × ((g : ℕ) × (K ≡ suc g) × GreatestLeast (timelines rows) g)

-- m' comes from m by rounds, each of which a running machine does
pub data ByRounds : Machine → Machine → Type 0 where
  no_round : {m : Machine} → ByRounds m m
  one_round : {m m' m'' : Machine} → m.phase ≡ Running → Rounded m m' → ByRounds m' m'' → ByRounds m m''

-- m is what the open machine with these rows comes to: closed, then rounds until settled
pub record Works (rows : List Row) (m : Machine) : Type 0 where
  pub start : Machine
  pub closed : Closed (open_with rows) start
  pub rounds : ByRounds start m
  pub verdict : Verdict
  pub settled : m.phase ≡ Settled verdict
  -- its openings are those of a sheet, and its count of rounds is the number that the demands name
  pub listed : Listed m
  pub number : Number rows verdict m.rounds
  pub most : m.rounds ≤ most_rounds

-- the second machine of demand 3, by propositions: fresh, it loads the rows sorted; what it comes to, and no other machine does
pub record SecondWorks (rows : List Row) : Type 0 where
  pub loads : call fresh (load (batch_of (sort_by row_bytes rows))) ≡ accept (open_with rows)
  pub works : Works rows (second rows)
  pub only : (m : Machine) → Works rows m → m ≡ second rows

-- load and withdraw as sets of rows: a batch is rows one after another
abbrev pub Loaded : Machine → List ℕ → Machine → Type 0
Loaded m l m' = (batch : List Row) × AllFit batch × (l ≡ batch_of batch) × ((r : Row) → r among m'.rows ↔ (r among m.rows ⊎ r among batch))

abbrev pub Withdrawn : Machine → List ℕ → Machine → Type 0
Withdrawn m l m' = (batch : List Row) × AllFit batch × (l ≡ batch_of batch) × ((r : Row) → r among m'.rows ↔ (r among m.rows × ¬ (r among batch)))

-- ---- lists of calls from a fresh machine, marks and returns among them

-- each brings what it should
abbrev pub AllBring : List MarkedCall → Type 0
AllBring cs = (c : MarkedCall) → c among cs → MarkedBrings c

-- the machine as it is after them
abbrev pub after_calls : List MarkedCall → Machine
after_calls cs = (marked_run fresh_marked cs).now

-- request C-11, of a return on y to what was marked on x: it is accepted, brings back the whole machine, and keeps the marks
pub record Returns (x : Marked) (name : List ℕ) (y : Marked) : Type 0 where
  pub accepted : (marked_call y (return_to name)).answer ≡ done
  pub now_is : (marked_call y (return_to name)).machine.now ≡ x.now
  pub marks_are : (marked_call y (return_to name)).machine.marks ≡ y.marks

-- after a mark, whatever is called but a mark under the same name
abbrev pub EveryReturn : Type 0
EveryReturn = (x : Marked) (name : List ℕ) (cs : List MarkedCall) → (marked_call x (mark name)).answer ≡ done → ¬ (mark name among cs)
    → Returns x name (marked_run (marked_call x (mark name)).machine cs)

-- mark and then return is the same
abbrev pub MarkAndReturn : Type 0
MarkAndReturn = (x : Marked) (name : List ℕ) → (marked_call x (mark name)).answer ≡ done
    → (marked_call (marked_call x (mark name)).machine (return_to name)).machine ≡ (marked_call x (mark name)).machine

-- request C-14, of a machine that calls make: rounds end, since every round but the last opens something
pub record RoundsEnd (m : Machine) : Type 0 where
  pub opened : (k : ℕ) → 1 ≤ k → k < m.rounds → (o : Opening) × (o.round ≡ k) × o among m.openings
  -- so at most one more is done than claims are open
  pub counted : m.rounds ≤ suc (length m.openings)
  -- of which each set has two, and at most 64 sets stand
  pub two_each : length m.openings ≤ 2 * length (standing_sets m.rows)
  pub few_sets : length (standing_sets m.rows) ≤ most_sets
  -- that makes 129
  pub so_far : m.rounds ≤ most_rounds
  -- and a round that is done next is none beyond
  pub next : (call m round).answer ≡ done → suc m.rounds ≤ most_rounds

-- from any list of calls a round is never the 130th
abbrev pub NeverThe130th : Type 0
NeverThe130th = (cs : List MarkedCall) → AllBring cs → RoundsEnd (after_calls cs)

-- request C-22, of a machine that calls make: the verdict by rising size is that of the rounds
pub record VerdictOfRounds (m : Machine) : Type 0 where
  -- the call is never refused, and leaves the machine as it was
  pub answers : (v : Verdict) × ((call m verdict).answer ≡ decided v)
  pub kept : (call m verdict).machine ≡ m
  -- the second machine of the standing rows settles with it, whatever the phase of this one
  pub by_rounds : (v : Verdict) → ((call m verdict).answer ≡ decided v) ↔ ((second m.rows).phase ≡ Settled v)
  -- a settled machine has it itself
  pub own : (v : Verdict) → m.phase ≡ Settled v → (call m verdict).answer ≡ decided v
  -- non-empty exactly when some finite derivation gives a walk from an initial to a final state
  pub meaning : ((call m verdict).answer ≡ decided NonEmpty) ↔ Accepts (timelines m.rows)

-- after any list of calls
abbrev pub EveryVerdict : Type 0
EveryVerdict = (cs : List MarkedCall) → AllBring cs → VerdictOfRounds (after_calls cs)

-- what a sheet says beside its walk: the verdict, the round number and the openings
pub record Said : Type 0 where
  pub verdict : Verdict
  pub number : ℕ
  pub openings : List Opening

-- of a settled machine
abbrev pub said : Verdict → Machine → Said
said v m = record { verdict = v; number = m.rounds; openings = m.openings }

-- request C-15, of what two sheets say, the second of more rows
pub record SaysNoLess (s s' : Said) : Type 0 where
  -- a non-empty verdict of the smaller is one of the larger
  pub verdict : s.verdict ≡ NonEmpty → s'.verdict ≡ NonEmpty
  -- with no greater round number
  pub number : s.verdict ≡ NonEmpty → s'.number ≤ s.number
  -- what opens in the smaller up to the larger's last round opens in the larger, in no later round
  pub listed : (o : Opening) → o among s.openings → o.round ≤ s'.number → (k : ℕ) × (k ≤ o.round) × record { round = k; claim = o.claim } among s'.openings

-- m' is a machine with more rows than m
pub record NeverLess (m m' : Machine) : Type 0 where
  pub claims : KeepsDepths m.rows m'.rows
  pub says : (v v' : Verdict) → m.phase ≡ Settled v → m'.phase ≡ Settled v' → SaysNoLess (said v m) (said v' m')

-- after any two lists of calls
abbrev pub MoreRows : Type 0
MoreRows = (cs ds : List MarkedCall) → AllBring cs → AllBring ds
    → Grows (after_calls cs).rows (after_calls ds).rows → NeverLess (after_calls cs) (after_calls ds)

-- the bytes are a sheet that says so: they are its lines, and a set is a number of eight bytes
pub record SheetSays (l : List ℕ) (s : Said) : Type 0 where
  pub walk : Option Found
  pub lines : l ≡ verdict_line s.verdict s.number ++ (gather opening_line s.openings ++ walk_lines walk)
  pub sets : (o : Opening) → o among s.openings → set_of o.claim < 256 ^ 8

-- demand 3 at one print: the machine m was fed the calls before it, and the buffer has some size
pub record Prints (m : Machine) (size : ℕ) : Type 0 where
  -- accepted exactly when m is settled and the buffer is long enough for the second machine's sheet, whose bytes it writes
  pub accepted : (l : List ℕ) → ((call m (print size)).answer ≡ wrote l)
      ↔ ((v : Verdict) × (m.phase ≡ Settled v) × (l ≡ sheet v (second m.rows)) × (length l ≤ size))
  -- the second machine is settled with the same verdict, and its round number is the depth that the demand names
  pub numbered : (v : Verdict) → m.phase ≡ Settled v
      → ((second m.rows).phase ≡ Settled v) × Number m.rows v (second m.rows).rounds × ((second m.rows).rounds ≤ most_rounds)

-- demand 3 of the plain machine: at every print of every list of calls
abbrev pub EveryPrint : Type 0
EveryPrint = (cs : List MarkedCall) → AllBring cs → (size : ℕ) → Prints (after_calls cs) size

-- request C-12 at one call of expression: the machine m was fed the calls before it, and the buffer has some size
pub record Expresses (m : Machine) (size : ℕ) : Type 0 where
  -- accepted exactly when m is settled as non-empty, with the bytes that tell its walk, where they fit; there are such bytes, and no others
  pub accepted : (l : List ℕ) → ((call m (expression size)).answer ≡ wrote l) ↔ ((m.phase ≡ Settled NonEmpty) × TellsWalk m l × (length l ≤ size))
  pub some_bytes : m.phase ≡ Settled NonEmpty → (l : List ℕ) × TellsWalk m l
  pub one : (k l : List ℕ) → TellsWalk m k → TellsWalk m l → k ≡ l
  -- the walk that they tell is the one on the sheet
  pub of_the_sheet : m.phase ≡ Settled NonEmpty → (l : List ℕ) (t : TellsWalk m l)
      → sheet NonEmpty m ≡ verdict_line NonEmpty m.rounds ++ (gather opening_line m.openings ++ walk_lines (some t.told))
  -- its depth in the derivation is the sheet's round number
  pub deep : m.phase ≡ Settled NonEmpty → (l : List ℕ) (t : TellsWalk m l)
      → walk_depth (timelines m.rows) (depth (timelines m.rows) t.derivation) t.told.walk ≡ m.rounds
  -- exactly the letters written are used
  pub letters : (l : List ℕ) (t : TellsWalk m l) (a : ℕ) → a among numbers l ↔ Uses m.rows t.derivation t.told.walk a
  -- 9 when open, 11 when running, 17 where the verdict is empty, whatever the size; then 12
  pub when_open : m.phase ≡ Open → (call m (expression size)).answer ≡ refused 9 0
  pub when_running : m.phase ≡ Running → (call m (expression size)).answer ≡ refused 11 0
  pub when_empty : m.phase ≡ Settled Empty → (call m (expression size)).answer ≡ refused 17 0
  pub too_short : m.phase ≡ Settled NonEmpty → (l : List ℕ) → TellsWalk m l → size < length l → (call m (expression size)).answer ≡ refused 12 0
  pub unchanged : (call m (expression size)).machine ≡ m

-- at every such call of every list of calls
abbrev pub EveryExpression : Type 0
EveryExpression = (cs : List MarkedCall) → AllBring cs → (size : ℕ) → Expresses (after_calls cs) size

-- saved rows, loaded into a fresh machine, give the same rows
pub record Saves (m : Machine) (l : List ℕ) : Type 0 where
  pub bytes : Bytes l
  pub sorted : l ≡ batch_of (sort_by row_bytes m.rows)
  pub loads : (call fresh (load l)).answer ≡ done
  pub same : (call fresh (load l)).machine.rows ≡ m.rows

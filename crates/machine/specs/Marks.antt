-- Request C-11, "Places to return to": the plain machine with its marks (`Marked`), the two calls on them beside document 01's (`MarkedCall`,
-- `marked_call`), the causes that they add to the table (`MarkedCause`), and what such machines are like (`MarkedFormed`).
use Rattle.std.specs.Prelude.{ℕ, ◌≤◌, Bool, ◌&&◌, cond, List, [], ◌∷◌, map, leb, length}
use Rattle.std.proofs.Math.Option.{Option, none, some}
use Rattle.lists.specs.Tests.{◌among◌, Once, all}
use Rattle.rows.specs.Rows.{same_numbers}
use Rattle.machine.specs.Machine.{Machine, fresh}
use Rattle.machine.specs.Calls.{Call, Outcome, done, refused, call, Brings}
use Rattle.machine.specs.Causes.{Cause}
use Rattle.machine.specs.WellFormed.{WellFormed}

-- up to four marks, each named by 1 to 8 bytes `a` to `z`
abbrev pub most_marks : ℕ
most_marks = 4

abbrev pub longest_name : ℕ
longest_name = 8

pub record Name (l : List ℕ) : Type 0 where
  pub some_byte : 1 ≤ length l
  pub short : length l ≤ longest_name
  pub letters : (b : ℕ) → b among l → (97 ≤ b) × (b ≤ 122)

abbrev pub letter? : ℕ → Bool
letter? b = leb 97 b && leb b 122

unfoldable pub name? : List ℕ → Bool
name? l = leb 1 (length l) && (leb (length l) longest_name && all letter? l)

-- a mark keeps rows, phase, verdict, round count and openings with their rounds under its name: a whole machine
pub record Mark : Type 0 where
  pub name : List ℕ
  pub kept : Machine

-- the machine as it is now, and its marks, in the order in which their names were first used; marks keep no marks
pub record Marked : Type 0 where
  pub now : Machine
  pub marks : List Mark

abbrev pub unmarked : Machine → Marked
unmarked m = record { now = m; marks = [] }

abbrev pub fresh_marked : Marked
fresh_marked = unmarked fresh

abbrev pub names : List Mark → List (List ℕ)
names l = map (λ k. k.name) l

-- what is kept under a name
abbrev pub kept_under : List ℕ → List Mark → Option Machine
kept_under name [] = none
kept_under name (k ∷ l) = cond (same_numbers name k.name) (some k.kept) (kept_under name l)

-- marking keeps the machine under the name; the same name marks anew
abbrev pub mark_under : List ℕ → Machine → List Mark → List Mark
mark_under name m [] = record { name = name; kept = m } ∷ []
mark_under name m (k ∷ l) = cond (same_numbers name k.name) (record { name = name; kept = m } ∷ l) (k ∷ mark_under name m l)

-- a call of document 01 or of a later request on the machine as it is now, or one of the two on its marks, with the bytes of a name
pub data MarkedCall : Type 0 where
  on : Call → MarkedCall
  mark return_to : List ℕ → MarkedCall

pub record MarkedNext : Type 0 where
  pub machine : Marked
  pub answer : Outcome

abbrev pub accept_marked : Marked → MarkedNext
accept_marked x = record { machine = x; answer = done }

abbrev pub refuse_marked : Marked → ℕ → MarkedNext
refuse_marked x n = record { machine = x; answer = refused n 0 }

-- all other calls keep the marks
abbrev pub call_now : Marked → Call → MarkedNext
call_now x c = record { machine = record { now = (call x.now c).machine; marks = x.marks }; answer = (call x.now c).answer }

-- 16: a fifth name
abbrev pub marks_to : Marked → List Mark → MarkedNext
marks_to x l = cond (leb (length l) most_marks) (accept_marked (record { now = x.now; marks = l })) (refuse_marked x 16)

-- returning brings back what is kept, and keeps the marks; 15: a name without a mark
abbrev pub brings_back : Marked → Option Machine → MarkedNext
brings_back x none = refuse_marked x 15
brings_back x (some m) = accept_marked (record { now = m; marks = x.marks })

-- 14: a name of another form, tested first; no phase is refused
unfoldable pub marked_call : Marked → MarkedCall → MarkedNext
marked_call x (on c) = call_now x c
marked_call x (mark name) = cond (name? name) (marks_to x (mark_under name x.now x.marks)) (refuse_marked x 14)
marked_call x (return_to name) = cond (name? name) (brings_back x (kept_under name x.marks)) (refuse_marked x 14)

-- it is fed a list of calls in order
abbrev pub marked_run : Marked → List MarkedCall → Marked
marked_run x [] = x
marked_run x (c ∷ cs) = marked_run (marked_call x c).machine cs

-- batches hold bytes; a name is any list
abbrev pub MarkedBrings : MarkedCall → Type 0
MarkedBrings (on c) = Brings c
MarkedBrings (mark name) = Unit {0}
MarkedBrings (return_to name) = Unit {0}

-- the calls that bring a name
pub data BringsName : MarkedCall → List ℕ → Type 0 where
  marking : (name : List ℕ) → BringsName (mark name) name
  returning : (name : List ℕ) → BringsName (return_to name) name

-- the table of causes, with the numbers that the request adds, place 0
pub data MarkedCause (x : Marked) : MarkedCall → ℕ → ℕ → Type 0 where
  by_table : (c : Call) (n place : ℕ) → Cause x.now c n place → MarkedCause x (on c) n place
  -- name of another form
  no_name : (c : MarkedCall) (name : List ℕ) → BringsName c name → ¬ Name name → MarkedCause x c 14 0
  -- return to a name without a mark
  no_mark : (name : List ℕ) → Name name → ¬ (name among names x.marks) → MarkedCause x (return_to name) 15 0
  -- a fifth name
  fifth_name : (name : List ℕ) → Name name → ¬ (name among names x.marks) → most_marks ≤ length x.marks → MarkedCause x (mark name) 16 0

-- the marked machines that calls make: each machine is one that calls make, and at most four names, each once
pub record MarkedFormed (x : Marked) : Type 0 where
  pub now_formed : WellFormed x.now
  pub kept_formed : (k : Mark) → k among x.marks → WellFormed k.kept
  pub named : (k : Mark) → k among x.marks → Name k.name
  pub once : Once (names x.marks)
  pub few : length x.marks ≤ most_marks

-- Document 01, "Causes and numbers": the table of causes, as a relation between a machine, a call, a number and a place.
use Rattle.std.specs.Prelude.{ℕ, ◌<◌, ◌≤◌, ◌≡◌, ◌⊎◌, ◌↔◌, List, ◌∷◌, ◌++◌, length}
use Rattle.lists.specs.Tests.{◌among◌, Once}
use Rattle.rows.specs.declared.Row.{Row}
use Rattle.rows.specs.Rows.{row_bytes, batch_of, Fits, AllFit, sets_of, standing_sets}
use Rattle.rows.specs.Reading.{Malformed}
use Rattle.machine.specs.declared.Verdict.{Verdict}
use Rattle.machine.specs.declared.Verdict.TheVariants.{NonEmpty, Empty}
use Rattle.machine.specs.declared.Phase.{Phase}
use Rattle.machine.specs.declared.Phase.TheVariants.{Open, Running, Settled}
use Rattle.machine.specs.Machine.{most_rows, most_sets, Machine}
use Rattle.machine.specs.Sheet.{sheet}
use Rattle.machine.specs.Expression.{expression_of}
use Rattle.machine.specs.Calls.{Call, load, withdraw, close, round, reopen, print, save, expression, saved}

-- running, or settled with some verdict
pub data NotOpen : Phase → Type 0 where
  running : NotOpen Running
  settled : (v : Verdict) → NotOpen (Settled v)

-- load, withdraw or close
pub data NeedsOpen : Call → Type 0 where
  loading : (l : List ℕ) → NeedsOpen (load l)
  withdrawing : (l : List ℕ) → NeedsOpen (withdraw l)
  closing : NeedsOpen close

-- reopen, round, print or expression
pub data NeedsClosed : Call → Type 0 where
  reopening : NeedsClosed reopen
  rounding : NeedsClosed round
  printing : (size : ℕ) → NeedsClosed (print size)
  expressing : (size : ℕ) → NeedsClosed (expression size)

-- print or expression
pub data NeedsSettled : Call → Type 0 where
  to_print : (size : ℕ) → NeedsSettled (print size)
  to_express : (size : ℕ) → NeedsSettled (expression size)

-- what a machine writes for a call
pub data Writes (m : Machine) : Call → List ℕ → ℕ → Type 0 where
  sheets : (v : Verdict) (size : ℕ) → m.phase ≡ Settled v → Writes m (print size) (sheet v m) size
  saves : (size : ℕ) → Writes m (save size) (saved m) size
  expresses : (size : ℕ) → m.phase ≡ Settled NonEmpty → Writes m (expression size) (expression_of m) size

-- 6: row not standing, as many stand as may; 7: a set more than there may be
pub data AdmitStops (max_rows max_sets : ℕ) (rows : List Row) (r : Row) : ℕ → Type 0 where
  full : ¬ (r among rows) → max_rows ≤ length rows → AdmitStops max_rows max_sets rows r 6
  sets_full : (P : ℕ) → ¬ (r among rows) → length rows < max_rows → P among sets_of r → ¬ (P among standing_sets rows) → max_sets ≤ length (standing_sets rows) → AdmitStops max_rows max_sets rows r 7

-- 6: row not standing, 256 stand; 7: a 65th set
abbrev pub LoadStops : List Row → Row → ℕ → Type 0
LoadStops rows r n = AdmitStops most_rows most_sets rows r n

-- 8: row not standing
pub data WithdrawStops (rows : List Row) (r : Row) : ℕ → Type 0 where
  absent : ¬ (r among rows) → WithdrawStops rows r 8

-- the rows that stand, none twice, after some rows of a batch are loaded, and after some are withdrawn
abbrev pub AfterLoading : List Row → List Row → List Row → Type 0
AfterLoading rows batch now = Once now × ((r : Row) → r among now ↔ (r among rows ⊎ r among batch))

abbrev pub AfterWithdrawing : List Row → List Row → List Row → Type 0
AfterWithdrawing rows batch now = Once now × ((r : Row) → r among now ↔ (r among rows × ¬ (r among batch)))

-- the first row of a batch that fails; Stands says which rows stand after the earlier ones, Stops by which number a row then fails
pub record FirstFailure (Stands : List Row → List Row → Type 0) (Stops : List Row → Row → ℕ → Type 0) (l : List ℕ) (n place : ℕ) : Type 0 where
  -- the batch is some rows and more; the place is that of the byte after them
  pub earlier : List Row
  pub rest : List ℕ
  pub fit : AllFit earlier
  pub split : l ≡ batch_of earlier ++ rest
  pub more : 0 < length rest
  pub first_byte : place ≡ length (batch_of earlier)
  -- none of these rows fails, where those before it count as loaded or withdrawn
  pub none_fails : (before later now : List Row) (r : Row) (k : ℕ) → earlier ≡ before ++ (r ∷ later) → Stands before now → ¬ Stops now r k
  -- what follows is no row, by 2 to 5, or a row that fails where all of these do
  pub now : List Row
  pub stands : Stands earlier now
  pub cause : Malformed rest n ⊎ ((r : Row) × (tail : List ℕ) × Fits r × (rest ≡ row_bytes r ++ tail) × Stops now r n)

pub data Cause (m : Machine) : Call → ℕ → ℕ → Type 0 where
  -- load, withdraw or close when not open
  not_open : (c : Call) → NeedsOpen c → NotOpen m.phase → Cause m c 1 0
  -- the first row of the batch that fails decides: by 2 to 5, by 6 or 7 of load, by 8 of withdraw
  load_fails : (l : List ℕ) (n place : ℕ) → m.phase ≡ Open → FirstFailure (AfterLoading m.rows) LoadStops l n place → Cause m (load l) n place
  withdraw_fails : (l : List ℕ) (n place : ℕ) → m.phase ≡ Open → FirstFailure (AfterWithdrawing m.rows) WithdrawStops l n place → Cause m (withdraw l) n place
  -- reopen, round, print or expression when open
  still_open : (c : Call) → NeedsClosed c → m.phase ≡ Open → Cause m c 9 0
  -- round when settled
  round_settled : (v : Verdict) → m.phase ≡ Settled v → Cause m round 10 0
  -- print or expression when running
  still_running : (c : Call) → NeedsSettled c → m.phase ≡ Running → Cause m c 11 0
  -- print, save or expression: buffer too short
  short_buffer : (c : Call) (l : List ℕ) (size : ℕ) → Writes m c l size → size < length l → Cause m c 12 0
  -- request C-12: expression when settled as empty
  verdict_empty : (size : ℕ) → m.phase ≡ Settled Empty → Cause m (expression size) 17 0

-- beside the table: the number with which a call refuses a session record that is foreign to it, since no calls make it; the place is 0
abbrev pub foreign_record : ℕ
foreign_record = 24

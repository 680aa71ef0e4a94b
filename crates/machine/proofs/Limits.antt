-- Document 01's limits at the numbers that it names, whatever the definitions call them, and what a buffer holds after a call.
use Prim.Native.Nat.{ℕ, ◌≤◌, ◌<◌}
use mathlib.Core.Path.{◌≡◌, refl}
use mathlib.Core.List.{List}
use lib.ListN.{length, take, drop, length-append, length-drop}
use lib.Seq.{take_at, drop_at}
use native.Mathlib.Omega.{arith}
use Rattle.lists.specs.Tests.{◌among◌}
use Rattle.lists.proofs.Deciding.{so, not_so, ltb_decides}
use Rattle.rows.specs.declared.Row.{Row}
use Rattle.rows.specs.Rows.{sets_of, standing_sets}
use Rattle.rows.specs.Batch.{go, stop}
use Rattle.rows.proofs.Same.{stands_decides}
use Rattle.machine.specs.declared.Verdict.{Verdict}
use Rattle.machine.specs.Machine.{load_row, withdraw_row}
use Rattle.machine.specs.Text.{text}
use Rattle.machine.specs.Sheet.{line}
use Rattle.machine.specs.Calls.{done, wrote, decided, refused, buffer_after}
use Rattle.machine.specs.Causes.{sets_full, absent}
use Rattle.machine.specs.Program.{shown, outcome, program}
use Rattle.machine.proofs.Tables.{with_row, load_same, load_new, load_stops, withdraw_stops}

module _ (r : Row) (rows : List Row) where
  -- a row that stands is accepted, however many stand
  pub standing_row : r among rows → load_row r rows ≡ go rows
  standing_row = load_same r rows

  module _ (new : ¬ (r among rows)) where
    -- a 256th row, with a 64th set or none
    pub row_256 : length rows ≡ 255 → length (standing_sets (with_row r rows)) ≤ 64 → load_row r rows ≡ go (with_row r rows)
    row_256 e h = load_new r rows new (omega arith) h

    -- a 257th row, whatever set it has
    pub row_257 : length rows ≡ 256 → load_row r rows ≡ stop 6
    unfolding load_row
    row_257 e = rw (not_so (stands_decides r rows) new, not_so (ltb_decides (length rows) 256) (λ i. omega arith))

    -- a 65th set
    pub set_65 : length rows < 256 → length (standing_sets rows) ≡ 64 → (P : ℕ) → P among sets_of r → ¬ (P among standing_sets rows) → load_row r rows ≡ stop 7
    set_65 h e P i j = (load_stops r rows 7 (omega arith)).1 (sets_full P new h i j (omega arith))

    -- a row that does not stand, withdrawn
    pub row_absent : withdraw_row r rows ≡ stop 8
    row_absent = (withdraw_stops r rows 8).1 (absent new)

-- an input of 65,536 bytes is a batch, and one of 65,537 is too long
module _ (l : List ℕ) where
  pub input_65536 : length l ≡ 65536 → program l ≡ shown (outcome l 6400)
  unfolding program
  input_65536 e = rw (not_so (ltb_decides 65536 (length l)) (λ h. omega arith), program)

  pub input_65537 : length l ≡ 65537 → program l ≡ line (text "too long")
  unfolding program
  input_65537 e = rw (so (ltb_decides 65536 (length l)) (omega arith), program)

-- a call that writes puts its text at the head of the buffer, and keeps the buffer's length and the bytes beyond
module _ (l old : List ℕ) where
  pub buffer_length : length l ≤ length old → length (buffer_after (wrote l) old) ≡ length old
  buffer_length h = simp (length-append, length-drop) (omega arith)

  pub buffer_head : take (length l) (buffer_after (wrote l) old) ≡ l
  buffer_head = take_at l (drop (length l) old) (length l) refl

  pub buffer_beyond : drop (length l) (buffer_after (wrote l) old) ≡ drop (length l) old
  buffer_beyond = drop_at l (drop (length l) old) (length l) refl

-- any other call keeps it whole
pub buffer_kept : (n place : ℕ) (v : Verdict) (old : List ℕ) → (buffer_after (refused n place) old ≡ old) × (buffer_after (decided v) old ≡ old) × (buffer_after done old ≡ old)
buffer_kept n place v old = (refl, refl, refl)

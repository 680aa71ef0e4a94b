-- `Edges::put` meets its contract: some rows are written, and those of the edges left are to come.
use Prim.Native.Nat.{ℕ, ◌<◌}
use Rattle.masks.specs.Mask.{◌∈◌}
use Rattle.rows.specs.Rows.{batch_of}
use Rattle.texts.proofs.Parts.{WroteTo}
use Rattle.buchi_rows.specs.Writing.{edge_rows}
use Rattle.buchi_rows.proofs.EdgesWritten.put.Given as goal

abbrev pub invariant-loop-place : goal.invariant-loop-place
invariant-loop-place l =
    WroteTo (batch_of (edge_rows l.self.0)) l.initial.buf l.buf l.next (batch_of (edge_rows l.place-iterator.rest))
    × ((t : ℕ) → t ∈ l.place-iterator.rest → t < 36)

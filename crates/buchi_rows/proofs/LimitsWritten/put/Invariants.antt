-- `Limits::put` meets its contract: the rows of the sets passed are written.
use Prim.Native.Nat.{◌-◌, ◌^◌}
use Rattle.rows.specs.Rows.{batch_of}
use Rattle.texts.proofs.Parts.{WroteTo}
use Rattle.buchi_rows.specs.Writing.{meet?, limit_row, limit_rows}
use Rattle.buchi_rows.proofs.Kept.{kept_text}
use Rattle.buchi_rows.proofs.LimitsWritten.put.Given as goal

abbrev pub invariant-loop-low : goal.invariant-loop-low
invariant-loop-low l =
    let n = l.self.0.states in
    let m = l.self.0.marked in
    WroteTo (batch_of (limit_rows n m)) l.initial.buf l.buf l.next (kept_text limit_row (λ P. meet? P m) l.low (2 ^ n - l.low))

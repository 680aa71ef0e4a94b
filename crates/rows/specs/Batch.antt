-- Document 01, "Rows and the batch" and "Causes and numbers": a batch, row by row.
use Rattle.std.specs.Prelude.{ℕ, zero, suc, ◌+◌, ◌-◌, ◌<◌, ◌≡◌, ◌⊎◌, List, [], ◌∷◌, ◌++◌, length, Result, Ok, Err}
use Rattle.causes.specs.declared.Cause.{Cause}
use Rattle.causes.specs.Numbers.{number_of}
use Rattle.rows.specs.declared.Row.{Row}
use Rattle.rows.specs.Rows.{row_bytes, batch_of, Fits, AllFit}
use Rattle.rows.specs.Reading.{read_row, Malformed}

-- what a row does: it leads to the next state, or it is refused with a number
pub data Turn (S : Type 0) : Type 0 where
  go : S → Turn S
  stop : ℕ → Turn S

-- what a batch does: all its rows lead to a state, or the first row that fails gives its number and its place
pub data Fed (S : Type 0) : Type 0 where
  fed : S → Fed S
  failed : ℕ → ℕ → Fed S

-- rows one after another, as if they had been read
abbrev pub run_rows : {S : Type 0} → (Row → S → Turn S) → S → List Row → Turn S
run_rows rule s [] = go s
run_rows rule s (r ∷ rows) = elim (rule r s) [ go t ↦ run_rows rule t rows | stop n ↦ stop n ]

unfoldable pub on_turn : {S : Type 0} → Turn S → ℕ → (S → Fed S) → Fed S
on_turn (go s) place f = f s
on_turn (stop n) place f = failed n place

unfoldable pub on_read : {S : Type 0} → Result (Row × ℕ) Cause → ℕ → (Row → ℕ → Fed S) → Fed S
on_read (Err c) place f = failed (number_of c) place
on_read (Ok (r, len)) place f = f r len

-- skip bytes of the row before are left to pass over; place is that of the next byte
unfoldable pub feed_from : {S : Type 0} → (Row → S → Turn S) → ℕ → ℕ → S → List ℕ → Fed S
feed_from rule skip place s [] = fed s
feed_from rule (suc k) place s (x ∷ l) = feed_from rule k (place + 1) s l
feed_from rule zero place s (x ∷ l) =
    on_read (read_row (x ∷ l)) place (λ r len. on_turn (rule r s) place (λ t. feed_from rule (len - 1) (place + 1) t l))

-- rows are tested in batch order, and the first row that fails decides
unfoldable pub feed : {S : Type 0} → (Row → S → Turn S) → S → List ℕ → Fed S
feed rule s l = feed_from rule 0 0 s l

-- the batch is these rows and nothing else, and they lead from s to t
pub record Runs {S : Type 0} (rule : Row → S → Turn S) (s : S) (l : List ℕ) (t : S) : Type 0 where
  pub rows : List Row
  pub fit : AllFit rows
  pub whole : l ≡ batch_of rows
  pub ran : run_rows rule s rows ≡ go t

-- the batch begins with these rows, which lead from s to a state; what follows them has a cause that refuses it
pub record Fails {S : Type 0} (rule : Row → S → Turn S) (s : S) (l : List ℕ) (n place : ℕ) : Type 0 where
  pub rows : List Row
  pub rest : List ℕ
  pub state : S
  pub fit : AllFit rows
  pub split : l ≡ batch_of rows ++ rest
  pub more : 0 < length rest
  pub ran : run_rows rule s rows ≡ go state
  pub first_byte : place ≡ length (batch_of rows)
  pub cause : Malformed rest n ⊎ ((r : Row) × (tail : List ℕ) × Fits r × (rest ≡ row_bytes r ++ tail) × (rule r state ≡ stop n))

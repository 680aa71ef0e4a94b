-- A batch does what its rows do one after another; in the terms of a loop that keeps the place `at` and the state too.
-- Main laws `feed_batch`, `feed_runs`, `feed_fails`, `batch_apart`; for the loop `feed_end`, `feed_bad`, `feed_stop`, `feed_go`.
use Prim.Native.Nat.{ℕ, zero, suc, ◌+◌, ◌-◌, ◌<◌, ◌≤◌}
use mathlib.Core.Path.{◌≡◌, refl, ap, sym, ◌∙◌, subst}
use mathlib.Core.Logic.{◌⊎◌, inl, inr, ⊎_elim, ◌↔◌}
use mathlib.Core.List.Memᴰ
use mathlib.Core.List.{List, [], ◌∷◌, ◌++◌, append_assoc, append-nil}
use native.Mathlib.Omega.{arith}
use native.Mathlib.Nat.{add-zero}
use lib.ListN.{length, take, drop, length-append, length-drop}
use lib.Seq.{take_all, drop-drop, drop-length, drop_at}
use Rattle.std.specs.Prelude.{Result, Ok, Err}
use Rattle.causes.specs.declared.Cause.{Cause}
use Rattle.causes.specs.Numbers.{number_of}
use Rattle.lists.proofs.Deciding.{gather_out}
use Rattle.rows.specs.declared.Row.{Row}
use Rattle.rows.specs.Rows.{row_bytes, batch_of, Fits, AllFit, Bytes}
use Rattle.rows.specs.Reading.{read_row, Malformed}
use Rattle.rows.specs.Batch.{Turn, go, stop, Fed, fed, failed, run_rows, on_turn, on_read, feed_from, feed, Runs, Fails}
use Rattle.rows.proofs.Reading.{some_bytes, read_back, read_fits, read_len, read_split, row_bytes_are_bytes, malformed, bytes_drop}

-- what a call of the reader on the rest says, of the rest itself
pub read_rest : (xs : List ℕ) (at : ℕ) {r q : Result (Row × ℕ) Cause} → r ≡ read_row (take (length xs - at) (drop at xs)) → r ≡ q → read_row (drop at xs) ≡ q
read_rest xs at e f = sym (ap read_row (take_all (length xs - at) (drop at xs) (simp length-drop (omega arith)))) ∙ (sym e ∙ f)

-- the row at the place lies within the rest
pub read_bounds : (xs : List ℕ) (at : ℕ) {r : Row} {n : ℕ} → read_row (drop at xs) ≡ Ok (r, n) → (1 ≤ n) × (n ≤ length xs - at)
read_bounds xs at {r} {n} e = rw length-drop at (read_len (drop at xs) r n e)

pub batch_bytes : (rows : List Row) → AllFit rows → Bytes (batch_of rows)
batch_bytes rows f b m = let g = gather_out row_bytes b rows m in row_bytes_are_bytes g.0 (f g.0 g.1) b g.2

no_rows : AllFit []
no_rows r m = absurd (Memᴰ.not-nil m)

-- one row more that fits
fit_and : {r : Row} {rows : List Row} → Fits r → AllFit rows → AllFit (r ∷ rows)
fit_and g f x m = ⊎_elim (λ e. rw e g) (f x) (Memᴰ.cases_cons m)

-- bytes that begin with a row
has_row : (r : Row) (tail : List ℕ) → 0 < length (row_bytes r ++ tail)
has_row r tail = rw length-append (omega (arith, some_bytes r))

module _ {S : Type 0} (rule : Row → S → Turn S) where
  -- past the bytes of the row before
  skip : (k at : ℕ) (s : S) (l : List ℕ) → k ≤ length l → feed_from rule k at s l ≡ feed_from rule 0 (at + k) s (drop k l)
  unfolding feed_from
  skip zero at s l h = rw add-zero
  skip (suc k) at s [] h = absurd (omega arith)
  skip (suc k) at s (x ∷ l) h = skip k (at + 1) s l (omega arith) ∙ ap (λ (a : ℕ). feed_from rule 0 a s (drop k l)) (omega arith)

  -- one row at the head of the bytes
  head_bad : (at : ℕ) (s : S) (l : List ℕ) (c : Cause) → 0 < length l → read_row l ≡ Err c → feed_from rule 0 at s l ≡ failed (number_of c) at
  unfolding feed_from on_read
  head_bad at s [] c h e = absurd (omega arith)
  head_bad at s (x ∷ l) c h e = rw e

  head_stop : (at : ℕ) (s : S) (l : List ℕ) (r : Row) (len n : ℕ) → 0 < length l → read_row l ≡ Ok (r, len) → rule r s ≡ stop n → feed_from rule 0 at s l ≡ failed n at
  unfolding feed_from on_read on_turn
  head_stop at s [] r len n h e p = absurd (omega arith)
  head_stop at s (x ∷ l) r len n h e p = rw (e, p)

  head_go : (at : ℕ) (s : S) (l : List ℕ) (r : Row) (len : ℕ) (t : S) → 0 < length l → read_row l ≡ Ok (r, len) → rule r s ≡ go t
      → feed_from rule 0 at s l ≡ feed_from rule 0 (at + len) t (drop len l)
  unfolding feed_from on_read on_turn
  head_go at s [] r len t h e p = absurd (omega arith)
  head_go at s (x ∷ l) r zero t h e p = absurd (omega (arith, read_len (x ∷ l) r zero e))
  head_go at s (x ∷ l) r (suc k) t h e p =
      let f : suc k - 1 ≡ k = omega arith in let g : at + 1 + k ≡ at + suc k = omega arith in
      rw (e, p, f) (skip k (at + 1) t l (omega (arith, read_len (x ∷ l) r (suc k) e)) ∙ ap (λ (a : ℕ). feed_from rule 0 a t (drop k l)) g)

  -- what is left to do at the place `at`
  module _ (xs : List ℕ) (at : ℕ) (s : S) where
    pub feed_end : at ≡ length xs → feed_from rule 0 at s (drop at xs) ≡ fed s
    unfolding feed_from
    feed_end h = rw (h, drop-length)

    pub feed_bad : {c : Cause} → at ≤ length xs → (at ≡ length xs → ⊥) → read_row (drop at xs) ≡ Err c → feed_from rule 0 at s (drop at xs) ≡ failed (number_of c) at
    feed_bad {c} h g e = head_bad at s (drop at xs) c (simp length-drop (omega arith)) e

    pub feed_stop : {r : Row} {len n : ℕ} → at ≤ length xs → (at ≡ length xs → ⊥) → read_row (drop at xs) ≡ Ok (r, len) → rule r s ≡ stop n
        → feed_from rule 0 at s (drop at xs) ≡ failed n at
    feed_stop {r} {len} {n} h g e p = head_stop at s (drop at xs) r len n (simp length-drop (omega arith)) e p

    pub feed_go : {r : Row} {len : ℕ} {t : S} → at ≤ length xs → (at ≡ length xs → ⊥) → read_row (drop at xs) ≡ Ok (r, len) → rule r s ≡ go t
        → feed_from rule 0 at s (drop at xs) ≡ feed_from rule 0 (at + len) t (drop (at + len) xs)
    feed_go {r} {len} {t} h g e p = head_go at s (drop at xs) r len t (simp length-drop (omega arith)) e p ∙ ap (feed_from rule 0 (at + len) t) (drop-drop len at xs)

  -- the first of some rows that lead to a state
  run_first : (s t : S) (r : Row) (rows : List Row) → run_rows rule s (r ∷ rows) ≡ go t → (u : S) × (rule r s ≡ go u) × (run_rows rule u rows ≡ go t)
  run_first s t r rows e = first (rule r s) refl e
    where
      first : (x : Turn S) → rule r s ≡ x → elim x as (λ y. Turn S) [ go u ↦ run_rows rule u rows | stop n ↦ stop n ] ≡ go t
          → (u : S) × (rule r s ≡ go u) × (run_rows rule u rows ≡ go t)
      first (go u) p e = (u, p, e)
      first (stop n) p e = let z : ◌≡◌ {A = ℕ} 0 1 = cc in absurd (omega arith)

  -- one row ahead of them
  run_more : (s t u : S) (r : Row) (rows : List Row) → rule r s ≡ go u → run_rows rule u rows ≡ go t → run_rows rule s (r ∷ rows) ≡ go t
  run_more s t u r rows p e = rw (p, run_rows) e

  -- rows that lead to a state lead there, whatever follows them
  feed_rows : (rows : List Row) (rest : List ℕ) (at : ℕ) (s t : S) → AllFit rows → run_rows rule s rows ≡ go t
      → feed_from rule 0 at s (batch_of rows ++ rest) ≡ feed_from rule 0 (at + length (batch_of rows)) t rest
  feed_rows [] rest at s t f e = let i : s ≡ t = cc in rw (add-zero, i)
  feed_rows (r ∷ rows) rest at s t f e = let g = run_first s t r rows e in let l = batch_of rows ++ rest in
      let w : at + length (row_bytes r) + length (batch_of rows) ≡ at + length (row_bytes r ++ batch_of rows) = rw length-append (omega arith) in
      ap (feed_from rule 0 at s) (append_assoc (row_bytes r) (batch_of rows) rest)
      ∙ (head_go at s (row_bytes r ++ l) r (length (row_bytes r)) g.0 (has_row r l) (read_back r l (f r (Memᴰ.head refl))) g.1
      ∙ (ap (feed_from rule 0 (at + length (row_bytes r)) g.0) (drop_at (row_bytes r) l (length (row_bytes r)) refl)
      ∙ (feed_rows rows rest (at + length (row_bytes r)) g.0 t (λ x m. f x (Memᴰ.tail m)) g.2
      ∙ ap (λ (a : ℕ). feed_from rule 0 a t rest) w)))

  -- the batch of rows that lead to a state leads there
  pub feed_batch : (s : S) (rows : List Row) → AllFit rows → (t : S) → run_rows rule s rows ≡ go t → feed rule s (batch_of rows) ≡ fed t
  unfolding feed feed_from
  feed_batch s rows f t e = ap (feed_from rule 0 0 s) (sym (append-nil (batch_of rows))) ∙ feed_rows rows [] 0 s t f e

  -- what refuses the bytes at their head
  abbrev Refuses : S → List ℕ → ℕ → Type 0
  Refuses s l n = Malformed l n ⊎ ((r : Row) × (tail : List ℕ) × Fits r × (l ≡ row_bytes r ++ tail) × (rule r s ≡ stop n))

  feed_cause : (at : ℕ) (s : S) (l : List ℕ) (n : ℕ) → 0 < length l → Refuses s l n → feed_from rule 0 at s l ≡ failed n at
  feed_cause at s l n h (inl m) = let (c, e, i) = (malformed l n h).1 m in rw (← i) (head_bad at s l c h e)
  feed_cause at s l n h (inr c) = head_stop at s l c.0 (length (row_bytes c.0)) n h (ap read_row c.3 ∙ read_back c.0 c.1 c.2) c.4

  -- what the bytes from a place on come to
  abbrev Outcome : ℕ → S → List ℕ → Fed S → Type 0
  Outcome at s l (fed t) = Runs rule s l t
  Outcome at s l (failed n place) = (q : ℕ) × (place ≡ at + q) × Fails rule s l n q

  -- with one row ahead of them
  outcome_more : (at : ℕ) (s t : S) (l rest : List ℕ) (r : Row) (len : ℕ) → Fits r → (len ≡ length (row_bytes r)) × (l ≡ row_bytes r ++ rest) → rule r s ≡ go t
      → (o : Fed S) → Outcome (at + len) t rest o → Outcome at s l o
  outcome_more at s t l rest r len f e p (fed u) o =
      record { rows = r ∷ o.rows; fit = fit_and f o.fit; whole = e.1 ∙ ap (λ (m : List ℕ). row_bytes r ++ m) o.whole; ran = run_more s u t r o.rows p o.ran }
  outcome_more at s t l rest r len f e p (failed n place) (q, i, o) = (
    len + q,
    omega arith,
    record {
      rows = r ∷ o.rows;
      rest = o.rest;
      state = o.state;
      fit = fit_and f o.fit;
      split = e.1 ∙ (ap (λ (m : List ℕ). row_bytes r ++ m) o.split ∙ sym (append_assoc (row_bytes r) (batch_of o.rows) o.rest));
      more = o.more;
      ran = run_more s o.state t r o.rows p o.ran;
      first_byte = rw length-append (omega (arith, o.first_byte, e.0));
      cause = o.cause;
    },
  )

  -- from what all shorter bytes come to
  outcome_step : (at : ℕ) (s : S) (l : List ℕ) → 0 < length l → Bytes l
      → ((m : List ℕ) → length m < length l → Bytes m → (at : ℕ) (s : S) → Outcome at s m (feed_from rule 0 at s m)) → Outcome at s l (feed_from rule 0 at s l)
  outcome_step at s l h b below = on_head (read_row l) refl
    where
      fails : (n : ℕ) → Refuses s l n → Outcome at s l (failed n at)
      fails n c = (0, omega arith, record { rows = []; rest = l; state = s; fit = no_rows; split = refl; more = h; ran = refl; first_byte = refl; cause = c })

      on_rule : (r : Row) (len : ℕ) → read_row l ≡ Ok (r, len) → (x : Turn S) → rule r s ≡ x → Outcome at s l (feed_from rule 0 at s l)
      on_rule r len e (stop n) p = rw (head_stop at s l r len n h e p) (fails n (inr (r, drop len l, read_fits l b r len e, (read_split l b r len e).1, p)))
      on_rule r len e (go t) p = rw (head_go at s l r len t h e p)
          (outcome_more at s t l (drop len l) r len (read_fits l b r len e) (read_split l b r len e) p (feed_from rule 0 (at + len) t (drop len l))
          (below (drop len l) (rw length-drop (omega (arith, read_len l r len e))) (bytes_drop len l b) (at + len) t))

      on_head : (x : Result (Row × ℕ) Cause) → read_row l ≡ x → Outcome at s l (feed_from rule 0 at s l)
      on_head (Err c) e = rw (head_bad at s l c h e) (fails (number_of c) (inl ((malformed l (number_of c) h).0 (c, e, refl))))
      on_head (Ok (r, len)) e = on_rule r len e (rule r s) refl

  outcome_end : (at : ℕ) (s : S) → Outcome at s [] (feed_from rule 0 at s [])
  unfolding feed_from
  outcome_end at s = record { rows = []; fit = no_rows; whole = refl; ran = refl }

  outcome : (k : ℕ) (l : List ℕ) → length l ≤ k → Bytes l → (at : ℕ) (s : S) → Outcome at s l (feed_from rule 0 at s l)
  outcome zero [] h b at s = outcome_end at s
  outcome zero (x ∷ l) h b at s = absurd (omega arith)
  outcome (suc k) [] h b at s = outcome_end at s
  outcome (suc k) (x ∷ l) h b at s = outcome_step at s (x ∷ l) (omega arith) b (λ m w c. outcome k m (omega arith) c)

  -- a batch leads to a state exactly where it is rows that do
  pub feed_runs : (s t : S) (l : List ℕ) → Bytes l → (feed rule s l ≡ fed t) ↔ Runs rule s l t
  unfolding feed
  feed_runs s t l b = ((λ e. subst (Outcome 0 s l) e (outcome (length l) l (omega arith) b 0 s)), λ o. ap (feed rule s) o.whole ∙ feed_batch s o.rows o.fit t o.ran)

  -- a batch fails with the number and at the place of the first row with a cause
  pub feed_fails : (s : S) (l : List ℕ) (n place : ℕ) → Bytes l → (feed rule s l ≡ failed n place) ↔ Fails rule s l n place
  unfolding feed
  feed_fails s l n place b = (
    (λ e. let o = subst (Outcome 0 s l) e (outcome (length l) l (omega arith) b 0 s) in let i : place ≡ o.0 = omega (arith, o.1) in rw i o.2),
    λ o. ap (feed rule s) o.split
        ∙ (feed_rows o.rows o.rest 0 s o.state o.fit o.ran
        ∙ (feed_cause (0 + length (batch_of o.rows)) o.state o.rest n o.more o.cause
        ∙ ap (failed n) (omega (arith, o.first_byte)))),
  )

-- ---- a batch has its rows alone

abbrev collect : Row → List Row → Turn (List Row)
collect r s = go (s ++ (r ∷ []))

collected : (s rows : List Row) → run_rows collect s rows ≡ go (s ++ rows)
collected s [] = ap go (sym (append-nil s))
collected s (r ∷ rows) = collected (s ++ (r ∷ [])) rows ∙ ap go (append_assoc s (r ∷ []) rows)

-- rows that fit have their bytes, and no other rows have them
pub batch_apart : (rows rows' : List Row) → AllFit rows → AllFit rows' → batch_of rows ≡ batch_of rows' → rows ≡ rows'
batch_apart rows rows' f g e =
    let a = feed_batch collect [] rows f rows (collected [] rows) in
    let b = feed_batch collect [] rows' g rows' (collected [] rows') in
    let c : fed rows ≡ fed rows' = sym a ∙ ap (feed collect []) e ∙ b in
    cc c

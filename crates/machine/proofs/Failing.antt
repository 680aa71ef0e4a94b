-- The first row of a batch that fails: by the machine's rule of a row (`Fails`) exactly as by the table of causes (`FirstFailure`), in
-- which no rule computes: `load_fails_iff`, `withdraw_fails_iff`.
use Prim.Native.Nat.{ℕ}
use mathlib.Core.Path.{◌≡◌, refl, ap, sym}
use mathlib.Core.Logic.{◌⊎◌, inl, inr, ⊎_elim, ◌↔◌}
use mathlib.Core.List.Memᴰ
use mathlib.Core.List.{List, [], ◌∷◌, ◌++◌, append_assoc, append-nil}
use lib.ListN.{length, length-append}
use native.Mathlib.Omega.{arith}
use Rattle.lists.specs.Tests.{◌part_of◌, Once}
use Rattle.lists.proofs.Counting.{once_length}
use Rattle.rows.specs.declared.Row.{Row}
use Rattle.rows.specs.Rows.{row_bytes, Fits, AllFit}
use Rattle.rows.specs.Reading.{Malformed}
use Rattle.rows.specs.Batch.{Turn, go, stop, run_rows, Fails}
use Rattle.rows.proofs.Sets.{sets_same}
use Rattle.machine.specs.Machine.{load_row, withdraw_row}
use Rattle.machine.specs.Causes.{AdmitStops, full, sets_full, LoadStops, WithdrawStops, absent, AfterLoading, AfterWithdrawing, FirstFailure}
use Rattle.machine.specs.WellFormed.{Table}
use Rattle.machine.proofs.Tables.{run_over, load_one, withdraw_one, load_adds, withdraw_drops, load_stops, withdraw_stops}

-- what follows the earlier rows: no row, or one with a cause
row_cause : {rest : List ℕ} {n : ℕ} (A B : Row → Type 0) → ((r : Row) → A r → B r)
    → Malformed rest n ⊎ ((r : Row) × (tail : List ℕ) × Fits r × (rest ≡ row_bytes r ++ tail) × A r)
    → Malformed rest n ⊎ ((r : Row) × (tail : List ℕ) × Fits r × (rest ≡ row_bytes r ++ tail) × B r)
row_cause A B f (inl m) = inl m
row_cause A B f (inr p) = inr (p.0, p.1, p.2, p.3, f p.0 p.4)

-- a rule of a row, and the relations that say what it does
module _ (rule : Row → List Row → Turn (List Row)) (Stands : List Row → List Row → Type 0) (Stops : List Row → Row → ℕ → Type 0)
    (goes : (earlier : List Row) (r : Row) (s t : List Row) → Fits r → Table s → Stands earlier s → rule r s ≡ go t → Table t × Stands (earlier ++ (r ∷ [])) t)
    (stops : (r : Row) (s : List Row) (n : ℕ) → Table s → (rule r s ≡ stop n) ↔ Stops s r n)
    (alike : (earlier : List Row) (r : Row) (s t : List Row) (n : ℕ) → Stands earlier s → Stands earlier t → Stops s r n → Stops t r n) where
  -- none of the rows b fails, where a and those of b before it stand
  abbrev NoneFails : List Row → List Row → Type 0
  NoneFails a b = (before later now : List Row) (r : Row) (k : ℕ) → b ≡ before ++ (r ∷ later) → Stands (a ++ before) now → ¬ Stops now r k

  -- rows that lead on from a table lead to one
  record Led (a b t : List Row) : Type 0 where
    table : Table t
    stands : Stands (a ++ b) t
    none_fails : NoneFails a b

  led : (b s t : List Row) → run_rows rule s b ≡ go t → (a : List Row) → AllFit b → Table s → Stands a s → Led a b t
  led = run_over rule (λ s b t. (a : List Row) → AllFit b → Table s → Stands a s → Led a b t)
      (λ s a f t h. record { table = t; stands = rw append-nil h; none_fails = λ before later now r k e. absurd (omega (arith, simp length-append at (ap length e))) })
      (λ r b s u t i below a f ts h. let g = goes a r s u (f r (Memᴰ.head refl)) ts h i in
      let d = below (a ++ (r ∷ [])) (λ x m. f x (Memᴰ.tail m)) g.0 g.1 in
      record { table = d.table; stands = rw append_assoc at d.stands; none_fails = none r b s u i a ts h d.none_fails })
    where
      none : (r : Row) (b s u : List Row) → rule r s ≡ go u → (a : List Row) → Table s → Stands a s → NoneFails (a ++ (r ∷ [])) b → NoneFails a (r ∷ b)
      none r b s u i a ts h later_pass [] later now x k e st p = let j : x ≡ r = cc in let st' = rw append-nil at st in
          let q = (stops x s k ts).1 (alike a x now s k st' h p) in let q' : rule r s ≡ stop k = rw j at q in let z : ◌≡◌ {A = ℕ} 0 1 = cc in omega arith
      none r b s u i a ts h later_pass (y ∷ before) later now x k e st p = let j : y ≡ r = cc in let o : b ≡ before ++ (x ∷ later) = cc in
          later_pass before later now x k o (rw append_assoc (rw j at st)) p

  runs : (b a s : List Row) → AllFit b → Table s → Stands a s → NoneFails a b → (t : List Row) × (run_rows rule s b ≡ go t)
  runs [] a s f ts h none = (s, refl)
  runs (r ∷ b) a s f ts h none = by (rule r s) refl
      (λ u g. runs b (a ++ (r ∷ [])) u (λ x m. f x (Memᴰ.tail m)) g.0 g.1
      (λ before later now x k e st. none (r ∷ before) later now x k (ap (λ (l : List Row). r ∷ l) e) (rw append_assoc at st)))
    where
      by : (x : Turn (List Row)) → rule r s ≡ x → ((u : List Row) → Table u × Stands (a ++ (r ∷ [])) u → (t : List Row) × (run_rows rule u b ≡ go t))
          → (t : List Row) × (run_rows rule s (r ∷ b) ≡ go t)
      by (go u) e below = let d = below u (goes a r s u (f r (Memᴰ.head refl)) ts h e) in (d.0, rw (e, run_rows) d.1)
      by (stop k) e below = absurd (none [] b s r k refl (rw append-nil h) ((stops r s k ts).0 e))

  fails_iff : (s : List Row) → Table s → Stands [] s → (l : List ℕ) (n place : ℕ) → Fails rule s l n place ↔ FirstFailure Stands Stops l n place
  fails_iff s ts h l n place = (
    (λ f. let d = led f.rows s f.state f.ran [] f.fit ts h in
        record {
          earlier = f.rows;
          rest = f.rest;
          fit = f.fit;
          split = f.split;
          more = f.more;
          first_byte = f.first_byte;
          none_fails = d.none_fails;
          now = f.state;
          stands = d.stands;
          cause = row_cause (λ r. rule r f.state ≡ stop n) (λ r. Stops f.state r n) (λ r. (stops r f.state n d.table).0) f.cause;
        }),
    λ f. let g = runs f.earlier [] s f.fit ts h f.none_fails in let d = led f.earlier s g.0 g.1 [] f.fit ts h in
        record {
          rows = f.earlier;
          rest = f.rest;
          state = g.0;
          fit = f.fit;
          split = f.split;
          more = f.more;
          ran = g.1;
          first_byte = f.first_byte;
          cause = row_cause (λ r. Stops f.now r n) (λ r. rule r g.0 ≡ stop n)
              (λ r p. (stops r g.0 n d.table).1 (alike f.earlier r f.now g.0 n f.stands d.stands p)) f.cause;
        },
  )

-- what refuses a row depends on which rows stand, and not on how they are listed
stops_alike : {max_rows max_sets n : ℕ} (s t : List Row) (r : Row) → Once s → Once t → s part_of t → t part_of s → AdmitStops max_rows max_sets s r n → AdmitStops max_rows max_sets t r n
stops_alike s t r a b p q (full k l) = full (λ m. k (q r m)) (omega (arith, once_length s t a p))
stops_alike s t r a b p q (sets_full P k l i j o) = let e = sets_same s t p q in
    sets_full P (λ m. k (q r m)) (omega (arith, once_length t s b q)) i (λ m. j (rw e m)) (omega (arith, ap length e))

module _ (rows : List Row) (t : Table rows) (l : List ℕ) (n place : ℕ) where
  pub load_fails_iff : Fails load_row rows l n place ↔ FirstFailure (AfterLoading rows) LoadStops l n place
  load_fails_iff = fails_iff load_row (AfterLoading rows) LoadStops
      (λ a r s u f ts h i. let k = load_one r s u f ts i in let g = load_adds r s u i in (
        k,
        (
          k.once,
          λ x. (
            (λ m. ⊎_elim (λ e. inr (Memᴰ.append_right a (Memᴰ.head e))) (λ j. ⊎_elim inl (λ o. inr (Memᴰ.append_left (r ∷ []) o)) ((h.1 x).0 j)) ((g x).0 m)),
            λ m. (g x).1 (⊎_elim (λ j. inr ((h.1 x).1 (inl j))) (λ j. ⊎_elim (λ o. inr ((h.1 x).1 (inr o))) (λ o. inl (Memᴰ.eq_of_singleton o)) (Memᴰ.append_cases a j)) m),
          ),
        ),
      ))
      (λ r s k ts. load_stops r s k ts.few_sets)
      (λ a r s u k h g. stops_alike s u r h.0 g.0 (λ x m. (g.1 x).1 ((h.1 x).0 m)) (λ x m. (h.1 x).1 ((g.1 x).0 m)))
      rows t (t.once, λ x. (inl, ⊎_elim (λ m. m) (λ m. absurd (Memᴰ.not-nil m)))) l n place

  pub withdraw_fails_iff : Fails withdraw_row rows l n place ↔ FirstFailure (AfterWithdrawing rows) WithdrawStops l n place
  withdraw_fails_iff = fails_iff withdraw_row (AfterWithdrawing rows) WithdrawStops
      (λ a r s u f ts h i. let k = withdraw_one r s u f ts i in let g = withdraw_drops r s u i in (
        k,
        (
          k.once,
          λ x. (
            (λ m. let p = (g x).0 m in let q = (h.1 x).0 p.0 in (q.0, λ j. ⊎_elim q.1 (λ o. p.1 (sym (Memᴰ.eq_of_singleton o))) (Memᴰ.append_cases a j))),
            λ p. (g x).1 ((h.1 x).1 (p.0, λ j. p.1 (Memᴰ.append_left (r ∷ []) j)), λ e. p.1 (Memᴰ.append_right a (Memᴰ.head (sym e)))),
          ),
        ),
      ))
      (λ r s k ts. withdraw_stops r s k)
      (λ a r s u k h g. absent_alike s u r (λ x m. (h.1 x).1 ((g.1 x).0 m)))
      rows t (t.once, λ x. ((λ m. (m, λ j. Memᴰ.not-nil j)), λ p. p.0)) l n place
    where
      absent_alike : {k : ℕ} (s u : List Row) (r : Row) → u part_of s → WithdrawStops s r k → WithdrawStops u r k
      absent_alike s u r p (absent q) = absent (λ m. q (p r m))

-- Rounds end (request C-14): every round but the last opens something, so no calls lead to a 130th (`rounds_end`, `never_the_130th`); the most
-- that a machine in a phase has done (`rounds_done`).
use Prim.Native.Nat.{ℕ, zero, suc, ◌≤◌, ◌<◌, ◌*◌}
use mathlib.Core.Path.{◌≡◌, refl, ap, sym, ◌∙◌, subst}
use mathlib.Core.Logic.{inl, inr, ⊎_elim}
use mathlib.Core.List.{map}
use lib.ListN.{length, length-map}
use native.Mathlib.Omega.{arith}
use native.Mathlib.Nat.{eq-or-lt_of_le}
use Rattle.lists.specs.Tests.{◌among◌}
use Rattle.lists.proofs.Deciding.{map_in}
use Rattle.lists.proofs.Counting.{numbers_length}
use Rattle.rows.specs.Rows.{standing_sets}
use Rattle.orderings.specs.Timelines.{timelines}
use Rattle.orderings.proofs.Verdicts.{Opened}
use Rattle.machine.specs.declared.Phase.{Phase}
use Rattle.machine.specs.declared.Phase.TheVariants.{Open, Running, Settled}
use Rattle.machine.specs.Machine.{Opening, Machine, open_with}
use Rattle.machine.specs.Calls.{round, done}
use Rattle.machine.specs.WellFormed.{after, Worked, Made, most_done, WellFormed}
use Rattle.machine.specs.Statements.{after_calls, RoundsEnd, NeverThe130th}
use Rattle.machine.proofs.Settling.{after_after, running_opened}
use Rattle.machine.proofs.Openings.{openings_few}
use Rattle.machine.proofs.Outcomes.{Done, round_done, comes}
use Rattle.machine.proofs.Marks.{calls_formed}

-- a round is done where the machine runs
pub rounds_from : (m : Machine) {m' : Machine} → Done m round m' → m.phase ≡ Running
rounds_from m (round_done e) = e

-- the machine has an opening of round k
abbrev OpenedIn : Machine → ℕ → Type 0
OpenedIn m k = (o : Opening) × (o.round ≡ k) × o among m.openings

module _ (m : Machine) (w : WellFormed m) where
  open_is : m.phase ≡ Open → m ≡ open_with m.rows
  open_is e = subst (Made m) e w.made

  count_is : (x : Worked m) → m.rounds ≡ x.0
  count_is x = ap (λ (y : Machine). y.rounds) x.1 ∙ (after_after m.rows x.0).count

  -- running after k rounds, the k-th opened something
  ran : (x : Worked m) (k : ℕ) → 1 ≤ k → k ≤ m.rounds → (after m.rows k).phase ≡ Running → OpenedIn m k
  ran x k l h e = by (running_opened m.rows k e)
    where
      by : Opened (timelines m.rows) k → OpenedIn m k
      by (inl z) = absurd (omega arith)
      by (inr p) = let o : Opening = record { round = k; claim = p.0 } in
          (o, refl, subst (λ (y : Machine). o among y.openings) (sym x.1) (((after_after m.rows x.0).numbers o).1 (omega (arith, count_is x), p.1)))

  -- every round but the last opened something
  opened : (k : ℕ) → 1 ≤ k → k < m.rounds → OpenedIn m k
  opened k l h = by m.phase refl w.made
    where
      worked : Worked m → OpenedIn m k
      worked x = ran x k l (omega arith) (x.2 k (omega (arith, count_is x)))

      by : (p : Phase) → m.phase ≡ p → Made m p → OpenedIn m k
      by Open e x = absurd (omega (arith, ap (λ (y : Machine). y.rounds) (open_is e)))
      by Running e x = worked x
      by (Settled v) e x = worked x

  -- and while it runs, the last one too
  opened_running : m.phase ≡ Running → (k : ℕ) → 1 ≤ k → k ≤ m.rounds → OpenedIn m k
  opened_running e k l h = let x : Worked m = subst (Made m) e w.made in
      ⊎_elim (λ i. ran x k l h (subst (λ (j : ℕ). (after m.rows j).phase ≡ Running) (sym (i ∙ count_is x)) (sym (ap (λ (y : Machine). y.phase) x.1) ∙ e))) (opened k l) (eq-or-lt_of_le h)

  -- one opening to each round at least
  enough : (n : ℕ) → ((k : ℕ) → 1 ≤ k → k ≤ n → OpenedIn m k) → n ≤ length m.openings
  enough n f = omega (
    arith,
    numbers_length n (map (λ (o : Opening). o.round) m.openings)
        (λ k a b. let p = f k a b in subst (λ (j : ℕ). j among map (λ (o : Opening). o.round) m.openings) p.1 (map_in (λ (o : Opening). o.round) p.2)),
    length-map m.openings (λ (o : Opening). o.round),
  )

  counted : m.rounds ≤ suc (length m.openings)
  counted = by m.rounds refl
    where
      by : (n : ℕ) → m.rounds ≡ n → n ≤ suc (length m.openings)
      by zero e = omega arith
      by (suc n) e = omega (arith, enough n (λ k a b. opened k a (omega arith)))

  -- at most two openings for each set
  two_each : length m.openings ≤ 2 * length (standing_sets m.rows)
  two_each = by m.phase refl w.made
    where
      worked : Worked m → length m.openings ≤ 2 * length (standing_sets m.rows)
      worked x = omega (arith, openings_few m.rows x.0, ap (λ (y : Machine). length y.openings) x.1)

      by : (p : Phase) → m.phase ≡ p → Made m p → length m.openings ≤ 2 * length (standing_sets m.rows)
      by Open e x = omega (arith, ap (λ (y : Machine). length y.openings) (open_is e))
      by Running e x = worked x
      by (Settled v) e x = worked x

  -- the most rounds, by the phase
  pub rounds_done : m.rounds ≤ most_done m.phase
  rounds_done = by m.phase refl
    where
      by : (p : Phase) → m.phase ≡ p → m.rounds ≤ most_done p
      by Open e = omega (arith, ap (λ (y : Machine). y.rounds) (open_is e))
      by Running e = omega (arith, enough m.rounds (opened_running e), two_each, w.table.few_sets)
      by (Settled v) e = omega (arith, counted, two_each, w.table.few_sets)

  pub rounds_end : RoundsEnd m
  rounds_end = record {
    opened = opened;
    counted = counted;
    two_each = two_each;
    few_sets = w.table.few_sets;
    so_far = omega (arith, counted, two_each, w.table.few_sets);
    next = λ d. let e = rounds_from m (comes m round done d) in omega (arith, rw e at rounds_done);
  }

-- request C-14
pub never_the_130th : NeverThe130th
never_the_130th cs b = rounds_end (after_calls cs) (calls_formed cs b)

-- The second machine of demand 3 comes from the open machine with its rows by close and rounds until settled, and
-- no other machine does (`second_works`, `works_once`).
use Prim.Native.Nat.{ℕ, zero, suc, ◌+◌}
use mathlib.Core.Path.{◌≡◌, refl, ap, sym, ◌∙◌, subst}
use mathlib.Core.List.{List, [], ◌∷◌, map}
use native.Mathlib.Omega.{arith}
use Rattle.lists.specs.Tests.{◌part_of◌, Once}
use Rattle.lists.proofs.Deciding.{map_in}
use Rattle.lists.proofs.Sorting.{sorted_same}
use Rattle.rows.specs.declared.Row.{Row}
use Rattle.orderings.specs.Steps.{Claim, loops, mixes, set_of}
use Rattle.orderings.specs.Timelines.{timelines}
use Rattle.orderings.proofs.Verdicts.{least_accepted_unique, greatest_least_unique}
use Rattle.machine.specs.declared.Verdict.{Verdict}
use Rattle.machine.specs.declared.Verdict.TheVariants.{NonEmpty, Empty}
use Rattle.machine.specs.declared.Phase.TheVariants.{Settled}
use Rattle.machine.specs.Machine.{Opening, Machine, open_with}
use Rattle.machine.specs.Calls.{second}
use Rattle.machine.specs.WellFormed.{Table, after}
use Rattle.machine.specs.Statements.{loop_first, opening_key, Listed, Number, ByRounds, no_round, one_round, Works, SecondWorks}
use Rattle.machine.proofs.Rounding.{close_closed, round_rounded}
use Rattle.machine.proofs.Settling.{after_after, Settles, settles, few_rounds}
use Rattle.machine.proofs.Openings.{after_listed}
use Rattle.machine.proofs.Loading.{loads_back}
use Rattle.machine.proofs.History.{settle_runs}
use Rattle.machine.proofs.Statements.{second_settles}

-- one verdict and one round number
pub number_unique : (rows : List Row) (v w : Verdict) (j k : ℕ) → Number rows v j → Number rows w k → (v ≡ w) × (j ≡ k)
number_unique rows NonEmpty NonEmpty j k a b = (refl, least_accepted_unique (timelines rows) j k a.1 b.1)
number_unique rows NonEmpty Empty j k a b = absurd (b.0 a.0)
number_unique rows Empty NonEmpty j k a b = absurd (a.0 b.0)
number_unique rows Empty Empty j k a b = (refl, omega (arith, greatest_least_unique (timelines rows) a.1.0 b.1.0 a.1.2 b.1.2, a.1.1, b.1.1))

-- an opening is its key
pub opening_apart : (x y : Opening) → opening_key x ≡ opening_key y → x ≡ y
opening_apart x y e = let i : x.round ≡ y.round = cc in let j : set_of x.claim ≡ set_of y.claim = cc in let k : loop_first x.claim ≡ loop_first y.claim = cc in
    by x.claim y.claim i j k
  where
    by : (c d : Claim) → x.round ≡ y.round → set_of c ≡ set_of d → loop_first c ≡ loop_first d → ◌≡◌ {A = Opening} (record { round = x.round; claim = c }) (record { round = y.round; claim = d })
    by (loops P) (loops Q) i j k = cc
    by (mixes P) (mixes Q) i j k = cc
    by (loops P) (mixes Q) i j k = absurd (omega arith)
    by (mixes P) (loops Q) i j k = absurd (omega arith)

-- no opening is listed twice where no claim is
pub openings_once : (l : List Opening) → Once (map (λ (o : Opening). o.claim) l) → Once l
openings_once [] h = tt
openings_once (o ∷ l) h = ((λ m. h.0 (map_in (λ (x : Opening). x.claim) m)), openings_once l h.1)

-- the openings listed of the same rows after as many rounds are the same
same_listed : (m m' : Machine) → m.rows ≡ m'.rows → m.rounds ≡ m'.rounds → Listed m → Listed m' → m.openings ≡ m'.openings
same_listed m m' e i a b = sorted_same opening_key m.openings m'.openings (λ x y p q. opening_apart x y) a.order b.order
    (openings_once m.openings a.once) (openings_once m'.openings b.once) (part m m' e i a b) (part m' m (sym e) (sym i) b a)
  where
    part : (m m' : Machine) → m.rows ≡ m'.rows → m.rounds ≡ m'.rounds → Listed m → Listed m' → m.openings part_of m'.openings
    part m m' e i a b o k = let d = (a.depths o).0 k in (b.depths o).1 (omega (arith, d.0), rw e at d.1)

-- a machine is its four parts
pub same_machine : (m m' : Machine) → m.rows ≡ m'.rows → m.phase ≡ m'.phase → m.openings ≡ m'.openings → m.rounds ≡ m'.rounds → m ≡ m'
same_machine m m' a b c d = let f : ◌≡◌ {A = Machine} (record { rows = m.rows; phase = m.phase; openings = m.openings; rounds = m.rounds })
    (record { rows = m'.rows; phase = m'.phase; openings = m'.openings; rounds = m'.rounds }) = rw (a, b, c, d) in f

module _ (rows : List Row) where
  rounds_rows : {m m' : Machine} → ByRounds m m' → m'.rows ≡ m.rows
  rounds_rows no_round = refl
  rounds_rows (one_round e r b) = rounds_rows b ∙ r.rows

  works_rows : (m : Machine) → Works rows m → m.rows ≡ rows
  works_rows m w = rounds_rows w.rounds ∙ w.closed.rows

  pub works_once : (m m' : Machine) → Works rows m → Works rows m' → m ≡ m'
  works_once m m' w u = let n = number_unique rows w.verdict u.verdict m.rounds m'.rounds w.number u.number in
      let e : m.rows ≡ m'.rows = works_rows m w ∙ sym (works_rows m' u) in
      same_machine m m' e (w.settled ∙ (ap Settled n.0 ∙ sym u.settled)) (same_listed m m' e n.1 w.listed u.listed) n.1

  module _ (t : Table rows) where
    abbrev s : Settles rows
    s = settles rows

    by_rounds : (n k : ℕ) → k + n ≡ s.rounds → ByRounds (after rows k) (after rows s.rounds)
    by_rounds zero k e = let i : k ≡ s.rounds = omega arith in subst (λ j. ByRounds (after rows k) (after rows j)) i no_round
    by_rounds (suc n) k e = one_round (s.before k (omega arith)) (round_rounded (after rows k)) (by_rounds n (suc k) (omega arith))

    settled_works : Works rows (after rows s.rounds)
    settled_works = let c = (after_after rows s.rounds).count in record {
      start = after rows 0;
      closed = close_closed (open_with rows);
      rounds = by_rounds s.rounds 0 (omega arith);
      verdict = s.verdict;
      settled = s.phase;
      listed = after_listed rows s.rounds;
      number = rw c s.number;
      most = rw c (few_rounds rows t.few_sets);
    }

    second_after : second rows ≡ after rows s.rounds
    second_after = second_settles rows t ∙ settle_runs rows t

    pub second_works : SecondWorks rows
    second_works = let w : Works rows (second rows) = rw second_after settled_works in
        record { loads = loads_back (open_with rows) t; works = w; only = λ m u. works_once m (second rows) u w }

-- The machine's rounds are the rounds of the definitions (`after_after`), so its numbers are depths. Every round but the last opens something
-- (`running_opened`), so it settles after at most one round more than there are claims, with the verdict and the number that the demands name
-- (`settles`); with at most 64 sets these are 129 (`few_rounds`).
use Prim.Native.Nat.{ℕ, zero, suc, ◌≤◌, ◌<◌, ◌+◌}
use mathlib.Core.Path.{◌≡◌, refl, ap, sym, ◌∙◌, subst}
use mathlib.Core.Logic.{◌⊎◌, inl, inr, ⊎_elim, ◌↔◌}
use mathlib.Core.List.Memᴰ
use mathlib.Core.List.{List, [], map}
use lib.ListN.{length}
use native.Mathlib.Omega.{arith}
use native.Mathlib.Decide.{dec_lt}
use native.Mathlib.Nat.{eq-or-lt_of_le, le_of_suc-le-suc}
use Rattle.lists.specs.Tests.{◌among◌}
use Rattle.lists.proofs.Deciding.{dec_decides, map_in, map_out}
use Rattle.rows.specs.declared.Row.{Row}
use Rattle.rows.specs.Rows.{standing_sets}
use Rattle.orderings.specs.Steps.{Claim}
use Rattle.orderings.specs.Systems.{System, Holds}
use Rattle.orderings.specs.Rounds.{OpenBy, Opens}
use Rattle.orderings.specs.Timelines.{timelines}
use Rattle.orderings.specs.Decide.{claims}
use Rattle.orderings.proofs.Walks.{allowed_more}
use Rattle.orderings.proofs.Depths.{holds_more, open_le}
use Rattle.orderings.proofs.Verdicts.{Reached, Vain, Opened, opens_open, reached_later, reached_stop, nonempty_iff, least_accepted, greatest_least_depth}
use Rattle.orderings.proofs.Timelines.{lawful}
use Rattle.orderings.proofs.Deciding.{accepts_decides}
use Rattle.orderings.proofs.Claims.{claims_length, open_dec, at_most}
use Rattle.machine.specs.declared.Verdict.{Verdict}
use Rattle.machine.specs.declared.Verdict.TheVariants.{NonEmpty, Empty}
use Rattle.machine.specs.declared.Phase.{Phase}
use Rattle.machine.specs.declared.Phase.TheVariants.{Open, Running, Settled}
use Rattle.machine.specs.Machine.{most_sets, most_rounds, Opening, Machine, open_with, open_claims, opened_next}
use Rattle.machine.specs.WellFormed.{after}
use Rattle.machine.specs.Statements.{SomeWalk, Closed, Rounded, Number}
use Rattle.machine.proofs.Rounding.{close_closed, opened_next_iff, round_news, round_rounded}

-- what holds of the numbers below k, and of k
pub below_next : {P : ℕ → Type 0} (k : ℕ) → ((j : ℕ) → j < k → P j) → P k → (j : ℕ) → j < suc k → P j
below_next {P} k f p j l = ⊎_elim (λ x. subst P (sym x) p) (f j) (eq-or-lt_of_le (le_of_suc-le-suc l))

module _ (rows : List Row) where
  abbrev S : System
  S = timelines rows

  -- what a machine with these rows has after k rounds
  pub record After (k : ℕ) (m : Machine) : Type 0 where
    pub same_rows : m.rows ≡ rows
    pub count : m.rounds ≡ k
    pub numbers : (o : Opening) → o among m.openings ↔ ((o.round ≤ k) × Opens S o.round o.claim)
    pub claims : (c : Claim) → c among open_claims m ↔ OpenBy S k c

  -- a claim that is open was opened in some round
  pub opened_in : (k : ℕ) (c : Claim) → OpenBy S k c → (j : ℕ) × (j ≤ k) × Opens S j c
  unfolding OpenBy
  opened_in zero c o = absurd o
  opened_in (suc k) c o = go (open_dec rows k c) o (opened_in k c)
    where
      go : Dec (OpenBy S k c) → OpenBy S (suc k) c → (OpenBy S k c → (j : ℕ) × (j ≤ k) × Opens S j c) → (j : ℕ) × (j ≤ suc k) × Opens S j c
      go (yes p) o below = let r = below p in (r.0, omega (arith, r.1), r.2)
      go (no n) (inl p) below = absurd (n p)
      go (no n) (inr h) below = (suc k, omega arith, (h, n))

  -- the claims follow from the openings
  claims_of : (k : ℕ) (m : Machine) → ((o : Opening) → o among m.openings ↔ ((o.round ≤ k) × Opens S o.round o.claim)) → (c : Claim) → c among open_claims m ↔ OpenBy S k c
  claims_of k m h c = (
    (λ i. let r = map_out (λ (o : Opening). o.claim) c m.openings i in let p = (h r.0).0 r.1 in rw r.2 (opens_open S (lawful rows) r.0.round k r.0.claim p.0 p.1)),
    λ o. let r = opened_in k c o in map_in (λ (x : Opening). x.claim) ((h (record { round = r.0; claim = c })).1 (r.1, r.2)),
  )

  round_after : (k : ℕ) (m m' : Machine) → After k m → Rounded m m' → After (suc k) m'
  round_after k m m' a r = record { same_rows = r.rows ∙ a.same_rows; count = r.count ∙ ap suc a.count; numbers = numbers; claims = claims_of (suc k) m' numbers }
    where
      there : (c : Claim) → Holds (timelines m.rows) (λ x. x among open_claims m) c → Holds S (OpenBy S k) c
      there c h = holds_more S (lawful rows) (λ x. (a.claims x).0) c (subst (λ l. Holds (timelines l) (λ x. x among open_claims m) c) a.same_rows h)

      again : (c : Claim) → Holds S (OpenBy S k) c → Holds (timelines m.rows) (λ x. x among open_claims m) c
      again c h = subst (λ l. Holds (timelines l) (λ x. x among open_claims m) c) (sym a.same_rows) (holds_more S (lawful rows) (λ x. (a.claims x).1) c h)

      numbers : (o : Opening) → o among m'.openings ↔ ((o.round ≤ suc k) × Opens S o.round o.claim)
      numbers o = (
        (λ i. ⊎_elim (λ j. let p = (a.numbers o).0 j in (omega (arith, p.0), p.1))
            (λ p. let e : o.round ≡ suc k = p.0 ∙ ap suc a.count in (omega arith, subst (λ n. Opens S n o.claim) (sym e) (there o.claim p.1, λ x. p.2 ((a.claims o.claim).1 x))))
            ((r.opens o).0 i)),
        λ p. (r.opens o).1 (⊎_elim
            (λ e. let h = subst (λ n. Opens S n o.claim) e p.1 in inr (e ∙ sym (ap suc a.count), again o.claim h.0, λ x. h.1 ((a.claims o.claim).0 x)))
            (λ l. inl ((a.numbers o).1 (omega arith, p.1))) (eq-or-lt_of_le p.0)),
      )

  rows_after : (k : ℕ) → (after rows k).rows ≡ rows
  rows_after zero = (close_closed (open_with rows)).rows
  rows_after (suc k) = (round_rounded (after rows k)).rows ∙ rows_after k

  pub after_after : (k : ℕ) → After k (after rows k)
  unfolding OpenBy
  after_after zero = let c = close_closed (open_with rows) in record {
    same_rows = c.rows;
    count = c.count;
    numbers = none c;
    claims = claims_of 0 (after rows 0) (none c);
  }
    where
      never : {B : Type 0} (c : Claim) (j : ℕ) → j ≤ 0 → Opens S j c → B
      never c zero le o = absurd o
      never c (suc j) le o = absurd (omega arith)

      none : Closed (open_with rows) (after rows 0) → (o : Opening) → o among (after rows 0).openings ↔ ((o.round ≤ 0) × Opens S o.round o.claim)
      none c o = ((λ i. absurd (Memᴰ.not-nil (subst (λ l. o among l) c.none i))), λ p. never o.claim o.round p.0 p.1)
  after_after (suc k) = round_after k (after rows k) (after rows (suc k)) (after_after k) (round_rounded (after rows k))

  -- after k rounds some walk leads from an initial to a final state
  reached_iff : (k : ℕ) → SomeWalk rows (open_claims (after rows k)) ↔ Reached S k
  reached_iff k = (
    (λ p. (p.0, (p.1, allowed_more S (λ c. ((after_after k).claims c).0) p.0 p.2))),
    λ p. (p.0, p.1.0, allowed_more S (λ c. ((after_after k).claims c).1) p.0 p.1.1),
  )

  -- a round that leaves the openings as they are opens nothing
  vain_when : (k : ℕ) → (after rows (suc k)).openings ≡ (after rows k).openings → Vain S k
  vain_when k e c o = ((after_after k).claims c).0 (subst (λ l. c among map (λ (x : Opening). x.claim) l) e (((after_after (suc k)).claims c).1 o))

  -- what the phase after k rounds says
  data Told (k : ℕ) : Phase → Type 0 where
    walks : Reached S k → Told k (Settled NonEmpty)
    ends : ¬ Reached S k → (g : ℕ) → k ≡ suc g → Vain S g → Told k (Settled Empty)
    goes_on : ¬ Reached S k → Opened S k → Told k Running

  no_walk : (k : ℕ) → ¬ SomeWalk rows (open_claims (after rows k)) → ¬ Reached S k
  no_walk k n r = n ((reached_iff k).1 r)

  told : (k : ℕ) → Told k (after rows k).phase
  unfolding OpenBy
  told zero = go (dec_decides (accepts_decides rows []))
    where
      c : Closed (open_with rows) (after rows 0)
      c = close_closed (open_with rows)

      start : SomeWalk rows (open_claims (after rows 0)) ↔ SomeWalk rows []
      start = subst (λ l. SomeWalk rows (map (λ (o : Opening). o.claim) l) ↔ SomeWalk rows []) (sym c.none) ((λ p. p), λ p. p)

      go : Dec (SomeWalk rows []) → Told 0 (after rows 0).phase
      go (yes w) = subst (Told 0) (sym (c.non_empty.1 w)) (walks ((reached_iff 0).0 (start.1 w)))
      go (no n) = subst (Told 0) (sym (c.running.1 n)) (goes_on (no_walk 0 (λ w. n (start.0 w))) (inl refl))
  told (suc k) = go (dec_decides (accepts_decides rows (open_claims (after rows (suc k))))) (round_news (after rows k))
    where
      r : Rounded (after rows k) (after rows (suc k))
      r = round_rounded (after rows k)

      here : SomeWalk (after rows k).rows (open_claims (after rows (suc k))) ↔ SomeWalk rows (open_claims (after rows (suc k)))
      here = subst (λ l. SomeWalk l (open_claims (after rows (suc k))) ↔ SomeWalk rows (open_claims (after rows (suc k)))) (sym (rows_after k)) ((λ p. p), λ p. p)

      opens : (c : Claim) → c among opened_next (after rows k) → Opens S (suc k) c
      opens c m = let p = (opened_next_iff (after rows k) c).0 m in
          (holds_more S (lawful rows) (λ x. ((after_after k).claims x).0) c (subst (λ l. Holds (timelines l) (λ x. x among open_claims (after rows k)) c) (rows_after k) p.0), λ o. p.1 (((after_after k).claims c).1 o))

      go : Dec (SomeWalk rows (open_claims (after rows (suc k)))) → ((after rows (suc k)).openings ≡ (after rows k).openings) ⊎ ((c : Claim) × c among opened_next (after rows k))
          → Told (suc k) (after rows (suc k)).phase
      go (yes w) x = subst (Told (suc k)) (sym (r.non_empty.1 (here.1 w))) (walks ((reached_iff (suc k)).0 w))
      go (no n) (inl e) = subst (Told (suc k)) (sym (r.empty.1 ((λ w. n (here.0 w)), e))) (ends (no_walk (suc k) n) k refl (vain_when k e))
      go (no n) (inr p) = let o = opens p.0 p.1 in
          subst (Told (suc k)) (sym (r.running.1 ((λ w. n (here.0 w)), λ e. o.1 (vain_when k e p.0 (inr o.0)))))
          (goes_on (no_walk (suc k) n) (inr (p.0, o)))

  -- settled as non-empty, some walk leads from an initial to a final state
  pub settled_walk : (k : ℕ) → (after rows k).phase ≡ Settled NonEmpty → SomeWalk rows (open_claims (after rows k))
  settled_walk k e = go (after rows k).phase e (told k)
    where
      go : (p : Phase) → p ≡ Settled NonEmpty → Told k p → SomeWalk rows (open_claims (after rows k))
      go (Settled NonEmpty) e (walks r) = (reached_iff k).1 r
      go (Settled Empty) e (ends n g i v) = let z : ◌≡◌ {A = ℕ} 0 1 = cc in absurd (omega arith)
      go Open e w = elim w [ ]
      go Running e (goes_on n o) = let z : ◌≡◌ {A = ℕ} 0 1 = cc in absurd (omega arith)

  -- where it still runs, the last round opened something
  pub running_opened : (k : ℕ) → (after rows k).phase ≡ Running → Opened S k
  running_opened k e = go (after rows k).phase e (told k)
    where
      go : (p : Phase) → p ≡ Running → Told k p → Opened S k
      go (Settled NonEmpty) e (walks r) = let z : ◌≡◌ {A = ℕ} 0 1 = cc in absurd (omega arith)
      go (Settled Empty) e (ends n g i v) = let z : ◌≡◌ {A = ℕ} 0 1 = cc in absurd (omega arith)
      go Open e w = elim w [ ]
      go Running e (goes_on n o) = o

  -- settled after K rounds, running before, and K is the number that the verdict asks for
  pub record Settles : Type 0 where
    pub rounds : ℕ
    pub verdict : Verdict
    pub most : rounds ≤ suc (length (claims rows))
    pub phase : (after rows rounds).phase ≡ Settled verdict
    pub before : (j : ℕ) → j < rounds → (after rows j).phase ≡ Running
    pub number : Number rows verdict rounds

  abbrev n_claims : ℕ
  n_claims = length (claims rows)

  -- at most as many rounds open something as there are claims
  opened_few : (k : ℕ) → Opened S k → k ≤ n_claims
  unfolding OpenBy
  opened_few k (inl e) = omega arith
  opened_few zero (inr p) = omega arith
  opened_few (suc k) (inr p) = elim (dec_lt k n_claims) [
    | yes l ↦ l
    | no n ↦ absurd (p.1.1 (open_le S (lawful rows) n_claims k p.0 (omega arith) (at_most rows n_claims (suc k) p.0 (omega arith) (inr p.1.0))))
  ]

  -- running before round k, with no walk, and each of these rounds but the first opened something
  record Running_to (k : ℕ) : Type 0 where
    most : k ≤ suc n_claims
    before : (j : ℕ) → j < k → (after rows j).phase ≡ Running
    unreached : (j : ℕ) → j < k → ¬ Reached S j
    prior : (g : ℕ) → k ≡ suc g → Opened S g

  one_more : (k : ℕ) → Running_to k → Settles ⊎ Running_to (suc k)
  one_more k t = go (after rows k).phase refl (told k)
    where
      go : (p : Phase) → (after rows k).phase ≡ p → Told k p → Settles ⊎ Running_to (suc k)
      go (Settled NonEmpty) f (walks r) = inl (record {
        rounds = k;
        verdict = NonEmpty;
        most = t.most;
        phase = f;
        before = t.before;
        number = ((nonempty_iff S (lawful rows)).1 (k, r), least_accepted S (lawful rows) k r t.unreached);
      })
      go (Settled Empty) f (ends m g i v) = inl (record {
        rounds = k;
        verdict = Empty;
        most = t.most;
        phase = f;
        before = t.before;
        number = (
          (λ x. let r = (nonempty_iff S (lawful rows)).0 x in m (reached_later S (lawful rows) g k (omega arith) (reached_stop S (lawful rows) g v r.0 r.1))),
          (g, i, greatest_least_depth S (lawful rows) g v (t.prior g i)),
        );
      })
      go Open f w = elim w [ ]
      go Running f (goes_on m o) = inr (record {
        most = omega (arith, opened_few k o);
        before = below_next k t.before f;
        unreached = below_next k t.unreached m;
        prior = λ g i. let j : k ≡ g = omega arith in subst (Opened S) j o;
      })

  within : (n k : ℕ) → k + n ≡ suc (suc n_claims) → Running_to k → Settles
  within zero k e t = absurd (omega (arith, t.most))
  within (suc n) k e t = ⊎_elim (λ s. s) (within n (suc k) (omega arith)) (one_more k t)

  pub settles : Settles
  settles = within (suc (suc n_claims)) 0 (omega arith) (record { most = omega arith; before = λ j l. absurd (omega arith); unreached = λ j l. absurd (omega arith); prior = λ g i. absurd (omega arith) })

  -- with at most 64 sets, two claims each, at most 129
  pub few_rounds : length (standing_sets rows) ≤ most_sets → settles.rounds ≤ most_rounds
  few_rounds few = omega (arith, settles.most, claims_length rows)

-- A round of the machine does what document 01's paragraph on rounds says (`round_rounded`), and fresh, close and reopen what their lines say
-- (`fresh_fresh`, `close_closed`, `reopen_reopened`).
use Prim.Native.Nat.{ℕ, suc}
use mathlib.Core.Path.{◌≡◌, refl, ap, subst}
use mathlib.Core.Bool.{Bool, true, false}
use mathlib.Core.Logic.Iff
use mathlib.Core.Logic.{◌⊎◌, inl, inr, ⊎_elim, ◌↔◌, ◌≢◌}
use mathlib.Core.List.Memᴰ
use mathlib.Core.List.{List, [], ◌∷◌, ◌++◌, append-nil}
use lib.ListN.{length, length-append}
use native.Mathlib.Omega.{arith}
use Rattle.lists.specs.Tests.{Decides, ◌among◌}
use Rattle.lists.proofs.Deciding.{and_decides, not_decides, keep_decides, no_decides, not_so, map_in, map_out}
use Rattle.rows.specs.declared.Row.{Row}
use Rattle.orderings.specs.Steps.{Claim}
use Rattle.orderings.specs.Systems.{Holds}
use Rattle.orderings.specs.Timelines.{timelines}
use Rattle.orderings.specs.Decide.{claims, accepts?}
use Rattle.orderings.proofs.Deciding.{claim_in_decides, holds_decides, accepts_decides}
use Rattle.orderings.proofs.Claims.{claims_iff}
use Rattle.machine.specs.declared.Verdict.TheVariants.{NonEmpty, Empty}
use Rattle.machine.specs.declared.Phase.TheVariants.{Running, Settled}
use Rattle.machine.specs.Machine.{Opening, Machine, fresh, judged, closed, open_claims, opened_next, nothing?, openings_of, next_round, reopened}
use Rattle.machine.specs.Statements.{SomeWalk, FreshMachine, Reopened, Closed, Rounded}

-- which phase a judgement gives
non_empty_when : (b v : Bool) → (judged b v ≡ Settled NonEmpty) ↔ (b ≡ true)
non_empty_when true v = ((λ e. refl), λ e. refl)
non_empty_when false true = ((λ e. cc), λ e. cc)
non_empty_when false false = ((λ e. cc), λ e. cc)

empty_when : (b v : Bool) → (judged b v ≡ Settled Empty) ↔ ((b ≡ false) × (v ≡ true))
empty_when true v = ((λ e. (cc, cc)), λ p. let q = p.0 in cc)
empty_when false true = ((λ e. (refl, refl)), λ p. refl)
empty_when false false = ((λ e. (refl, cc)), λ p. let q = p.1 in cc)

running_when : (b v : Bool) → (judged b v ≡ Running) ↔ ((b ≡ false) × (v ≡ false))
running_when true v = ((λ e. (cc, cc)), λ p. let q = p.0 in cc)
running_when false true = ((λ e. (refl, cc)), λ p. let q = p.1 in cc)
running_when false false = ((λ e. (refl, refl)), λ p. refl)

-- a test that fails
fails_iff : (b : Bool) {A : Type 0} → Decides b A → (b ≡ false) ↔ (¬ A)
fails_iff b {A} d = ((λ e a. no_decides (subst (λ x. Decides x A) e d) a), not_so d)

walk_iff : (rows : List Row) (l : List Claim) → (accepts? rows l ≡ true) ↔ SomeWalk rows l
walk_iff rows l = ((accepts_decides rows l).to, (accepts_decides rows l).of)

no_walk_iff : (rows : List Row) (l : List Claim) → (accepts? rows l ≡ false) ↔ (¬ SomeWalk rows l)
no_walk_iff rows l = fails_iff (accepts? rows l) (accepts_decides rows l)

pub fresh_fresh : FreshMachine fresh
fresh_fresh = record { rows = refl; phase = refl; none = refl; count = refl }

pub reopen_reopened : (m : Machine) → Reopened m (reopened m)
reopen_reopened m = record { rows = refl; phase = refl; none = refl; count = refl }

pub close_closed : (m : Machine) → Closed m (closed m)
unfolding closed
close_closed m = record {
  rows = refl;
  count = refl;
  none = refl;
  non_empty = Iff.trans (non_empty_when (accepts? m.rows []) false) (walk_iff m.rows []);
  running = Iff.trans (running_when (accepts? m.rows []) false) (Iff.trans ((λ p. p.0), λ e. (e, refl)) (no_walk_iff m.rows []));
}

-- the claims that the next round opens
pub opened_next_iff : (m : Machine) (c : Claim) → c among opened_next m ↔ (Holds (timelines m.rows) (λ x. x among open_claims m) c × ¬ (c among open_claims m))
unfolding opened_next
opened_next_iff m c = let k = keep_decides (λ c. and_decides (not_decides (claim_in_decides (open_claims m) c)) (holds_decides m.rows (open_claims m) c)) (claims m.rows) c in
    ((λ i. let r = k.0 i in (r.1.1, r.1.0)), λ p. k.1 ((claims_iff m.rows c).1 p.0.0, (p.1, p.0)))

-- nothing more where there is nothing new
same_when : (l : List Opening) (k : ℕ) (new : List Claim) → (nothing? new ≡ true) ↔ (l ++ openings_of k new ≡ l)
same_when l k [] = ((λ e. append-nil l), λ e. refl)
same_when l k (c ∷ new) = ((λ e. cc), λ e. absurd (omega (arith, ap length e, length-append l (openings_of k (c ∷ new)))))

more_when : (l : List Opening) (k : ℕ) (new : List Claim) → (nothing? new ≡ false) ↔ (l ++ openings_of k new ≢ l)
more_when l k [] = ((λ e. let z : ◌≡◌ {A = ℕ} 0 1 = cc in absurd (omega arith)), λ n. absurd (n (append-nil l)))
more_when l k (c ∷ new) = ((λ e f. let z = (same_when l k (c ∷ new)).1 f in let o : ◌≡◌ {A = ℕ} 0 1 = cc in omega arith), λ n. refl)

-- a round opens nothing, or something
pub round_news : (m : Machine) → ((next_round m).openings ≡ m.openings) ⊎ ((c : Claim) × c among opened_next m)
unfolding next_round
round_news m = go (opened_next m)
  where
    go : (l : List Claim) → (m.openings ++ openings_of (suc m.rounds) l ≡ m.openings) ⊎ ((c : Claim) × c among l)
    go [] = inl (append-nil m.openings)
    go (c ∷ l) = inr (c, Memᴰ.head refl)

pub round_rounded : (m : Machine) → Rounded m (next_round m)
unfolding next_round
round_rounded m = record {
  rows = refl;
  count = refl;
  opens = opens;
  non_empty = Iff.trans (non_empty_when (accepts? m.rows now) (nothing? new)) (walk_iff m.rows now);
  empty = Iff.trans (empty_when (accepts? m.rows now) (nothing? new)) (Iff.and (no_walk_iff m.rows now) (same_when m.openings (suc m.rounds) new));
  running = Iff.trans (running_when (accepts? m.rows now) (nothing? new)) (Iff.and (no_walk_iff m.rows now) (more_when m.openings (suc m.rounds) new));
}
  where
    new : List Claim
    new = opened_next m

    now : List Claim
    now = open_claims (next_round m)

    opens : (o : Opening) → o among (m.openings ++ openings_of (suc m.rounds) new)
        ↔ (o among m.openings ⊎ ((o.round ≡ suc m.rounds) × Holds (timelines m.rows) (λ c. c among open_claims m) o.claim × ¬ (o.claim among open_claims m)))
    opens o = (
      (λ i. ⊎_elim inl (λ j. let r = map_out _ o new j in let p = (opened_next_iff m r.0).0 r.1 in
          let e : o.claim ≡ r.0 = ap (λ (x : Opening). x.claim) r.2 in inr (ap (λ (x : Opening). x.round) r.2, rw e p.0, rw e p.1))
          (Memᴰ.append_cases m.openings i)),
      ⊎_elim (Memᴰ.append_left _) (λ p. let n : Opening = record { round = suc m.rounds; claim = o.claim } in
          let same : o ≡ n = ap {B = Opening} (λ i. record { round = i; claim = o.claim }) p.0 in
          Memᴰ.cast same (Memᴰ.append_right m.openings (map_in _ ((opened_next_iff m o.claim).1 (p.1, p.2))))),
    )

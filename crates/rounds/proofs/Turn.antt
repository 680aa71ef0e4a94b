-- One round on masks and arrays: what they come to is what the machine comes to. Main laws `walk_test` (the walks), `turn_forced` (the claims
-- in force), `turn_kept` (the rounds of the claims, the phase and the count).
use Prim.Native.Nat.{ℕ, suc, ◌+◌, ◌<◌}
use mathlib.Core.Path.{◌≡◌, refl, ap, sym, ◌∙◌, subst}
use mathlib.Core.Bool.{Bool, ◌||◌}
use mathlib.Core.Logic.{⊎_elim, ◌↔◌}
use mathlib.Core.List.Memᴰ
use mathlib.Core.List.{List, [], ◌∷◌, ◌++◌, map}
use lib.ListN.{length, get_or}
use native.Mathlib.Omega.{arith}
use Rattle.lists.specs.Tests.{Decides, ◌among◌}
use Rattle.lists.proofs.Deciding.{alike}
use Rattle.masks.specs.Mask.{member, ◌∈◌}
use Rattle.masks.proofs.Member.{in_none, union_left, union_right, union_cases}
use Rattle.rows.specs.declared.Row.{Row}
use Rattle.rows.specs.Rows.{standing_sets}
use Rattle.rows.proofs.Sets.{set_place}
use Rattle.orderings.specs.Steps.{Claim, loops, mixes}
use Rattle.orderings.specs.Decide.{accepts?}
use Rattle.orderings.proofs.Deciding.{accepts_decides}
use Rattle.machine.specs.Machine.{Opening, Machine, judged, open_claims, opened_next, nothing?, openings_of, next_round}
use Rattle.machine.proofs.Rounding.{opened_next_iff}
use Rattle.machine.proofs.Openings.{claims_append}
use Rattle.search.specs.declared.Claims.{Claims}
use Rattle.search.specs.Graph.{Graph}
use Rattle.search.specs.Hops.{WithNew, no_claims}
use Rattle.search.specs.Masked.{Forced}
use Rattle.search.specs.Promises.{AcceptsRight, NewlyHolds, Opened}
use Rattle.rounds.specs.Arrays.{rounds_of, Notes}
use Rattle.rounds.specs.Promises.{Given, Mirrors}
use Rattle.rounds.proofs.OpenClaims.{set_at}
use Rattle.rounds.proofs.Noting.{noted}

none_decides : {A : Type 0} (l : List A) → Decides (nothing? l) ((x : A) → ¬ (x among l))
none_decides [] = record { to = λ e x. Memᴰ.not-nil; of = λ h. refl }
none_decides (x ∷ l) = record { to = λ e. let z : ◌≡◌ {A = ℕ} 0 1 = cc in absurd (omega arith); of = λ h. absurd (h x (Memᴰ.head refl)) }

-- ---- claims in force

-- no claims
pub none_forced : (g : Graph) (n : ℕ) → Forced (λ c. c among []) g n no_claims
none_forced g n = record { loop_iff = λ i. nowhere i; mix_iff = λ i. nowhere i }
  where
    nowhere : {c : Claim} (i : ℕ) → (i ∈ 0) ↔ ((i < n) × c among [])
    nowhere i = ((λ h. absurd (in_none i h)), λ p. absurd (Memᴰ.not-nil p.1))

-- the places of old claims and of new ones
union_iff : (old new : List Claim) (n a b r : ℕ) → ((t : ℕ) → member t r ≡ (member t a || member t b)) → (i : ℕ) (c : Claim)
    → (i ∈ a) ↔ ((i < n) × c among old) → (i ∈ b) ↔ ((i < n) × c among new) → (i ∈ r) ↔ ((i < n) × c among (old ++ new))
union_iff old new n a b r is i c p q = (
  (λ h. ⊎_elim (λ k. let x = p.0 k in (x.0, Memᴰ.append_left new x.1)) (λ k. let x = q.0 k in (x.0, Memᴰ.append_right old x.1)) (union_cases a b r is i h)),
  λ x. ⊎_elim (λ k. union_left a b r is i (p.1 (x.0, k))) (λ k. union_right a b r is i (q.1 (x.0, k))) (Memᴰ.append_cases old x.1),
)

-- whether a walk leads from an initial to a final state is what the machine's test says
pub walk_test : (rows : List Row) {g : Graph} {initials finals n : ℕ} → Given rows g initials finals n
    → (claims : List Claim) {force : Claims} (b : Bool) → Forced (λ c. c among claims) g n force → AcceptsRight g force initials finals b → b ≡ accepts? rows claims
walk_test rows {n = n} given claims b f r = alike
    (r rows claims n (record { masked = given.masked; forced = f }) given.table.fit given.initial_iff given.final_iff) (accepts_decides rows claims) (λ x. x) (λ x. x)

-- ---- a round

-- what a round does with the claims in force, and with the rounds of the claims
pub record Turn (m : Machine) (g : Graph) (initials finals n : ℕ) (force new all : Claims) (accepted vain : Bool) (loop_notes mix_notes : List ℕ) : Type 0 where
  pub given : Given m.rows g initials finals n
  pub forced : Forced (λ c. c among open_claims m) g n force
  pub opened : Opened g m.rows (open_claims m) n new
  pub with_new : WithNew force new all
  pub tested : AcceptsRight g all initials finals accepted
  pub vain_iff : Decides vain ((t : ℕ) → (¬ (t ∈ new.loops)) × (¬ (t ∈ new.mixes)))
  pub loop_noted : Notes (rounds_of m loops) new.loops (m.rounds + 1) loop_notes
  pub mix_noted : Notes (rounds_of m mixes) new.mixes (m.rounds + 1) mix_notes

-- what it comes to: the rounds of the claims, the phase and the claims in force of the machine after the round
module _ {m : Machine} {g : Graph} {initials finals n : ℕ} {force new all : Claims} {accepted vain : Bool} {loop_notes mix_notes : List ℕ}
    (d : Turn m g initials finals n force new all accepted vain loop_notes mix_notes) where
  -- the set at a place
  abbrev P : ℕ → ℕ
  P i = get_or g.sets i 0

  -- the new places are those of the claims that the machine opens next
  new_iff : (claim : ℕ → Claim) (mask : ℕ) → ((i : ℕ) → (i ∈ mask) ↔ ((i < n) × NewlyHolds m.rows (open_claims m) (claim (P i))))
      → (i : ℕ) → (i ∈ mask) ↔ ((i < n) × claim (P i) among opened_next m)
  new_iff claim mask h i = let q = opened_next_iff m (claim (P i)) in ((λ k. let x = (h i).0 k in (x.0, q.1 x.1)), λ x. (h i).1 (x.0, q.0 x.1))

  new_loops : (i : ℕ) → (i ∈ new.loops) ↔ ((i < n) × loops (P i) among opened_next m)
  new_loops = new_iff loops new.loops d.opened.loop_iff

  new_mixes : (i : ℕ) → (i ∈ new.mixes) ↔ ((i < n) × mixes (P i) among opened_next m)
  new_mixes = new_iff mixes new.mixes d.opened.mix_iff

  -- the round is vain just where the machine opens nothing
  vain_test : vain ≡ nothing? (opened_next m)
  vain_test = alike d.vain_iff (none_decides (opened_next m)) vainly (λ h t. ((λ k. h _ ((new_loops t).0 k).1), λ k. h _ ((new_mixes t).0 k).1))
    where
      vainly : ((t : ℕ) → (¬ (t ∈ new.loops)) × (¬ (t ∈ new.mixes))) → (c : Claim) → ¬ (c among opened_next m)
      vainly h (loops Q) k = let r = set_place m.rows g.sets n d.given.masked.sets_are Q ((opened_next_iff m (loops Q)).0 k).0.0 in
          (h r.0).0 ((new_loops r.0).1 (r.1, subst (λ (x : ℕ). loops x among opened_next m) r.2 k))
      vainly h (mixes Q) k = let r = set_place m.rows g.sets n d.given.masked.sets_are Q ((opened_next_iff m (mixes Q)).0 k).0.0 in
          (h r.0).1 ((new_mixes r.0).1 (r.1, subst (λ (x : ℕ). mixes x among opened_next m) r.2 k))

  abbrev now : List Claim
  now = open_claims m ++ opened_next m

  forced_now : Forced (λ c. c among now) g n all
  forced_now = record {
    loop_iff = λ i. union_iff (open_claims m) (opened_next m) n force.loops new.loops all.loops d.with_new.loops_are i (loops (P i)) (d.forced.loop_iff i) (new_loops i);
    mix_iff = λ i. union_iff (open_claims m) (opened_next m) n force.mixes new.mixes all.mixes d.with_new.mixes_are i (mixes (P i)) (d.forced.mix_iff i) (new_mixes i);
  }

  now_open : open_claims (next_round m) ≡ now
  unfolding next_round
  now_open = claims_append m.openings (suc m.rounds) (opened_next m)

  -- the claims in force then
  pub turn_forced : Forced (λ c. c among open_claims (next_round m)) g n all
  turn_forced = subst (λ (l : List Claim). Forced (λ c. c among l) g n all) (sym now_open) forced_now

  -- the walks are judged with the claims open before and those that the round opens
  phase_next : judged accepted vain ≡ (next_round m).phase
  unfolding next_round
  phase_next =
      ap (λ (x : Bool). judged x vain) (walk_test m.rows d.given now accepted forced_now d.tested
      ∙ ap (accepts? m.rows) (sym (claims_append m.openings (suc m.rounds) (opened_next m))))
      ∙ ap (judged (accepts? m.rows (map (λ (o : Opening). o.claim) (m.openings ++ openings_of (suc m.rounds) (opened_next m))))) vain_test

  apart : (c : Claim) → c among opened_next m → ¬ (c among open_claims m)
  apart c k = ((opened_next_iff m c).0 k).1

  -- the notes of the round are those of the machine
  notes_next : (claim : ℕ → Claim) (mask : ℕ) (notes : List ℕ) → ((i : ℕ) → (i ∈ mask) ↔ ((i < n) × claim (P i) among opened_next m))
      → Notes (rounds_of m claim) mask (m.rounds + 1) notes → notes ≡ rounds_of (next_round m) claim
  unfolding next_round
  notes_next claim mask notes h is =
      let e : m.rounds + 1 ≡ suc m.rounds = omega arith in
      noted m d.given.table.few_sets claim (suc m.rounds) mask (opened_next m) (nothing? (opened_next m)) (λ i. place i (h i)) apart notes
      (subst (λ (k : ℕ). Notes (rounds_of m claim) mask k notes) e is)
    where
      place : (i : ℕ) → (i ∈ mask) ↔ ((i < n) × claim (P i) among opened_next m) → (i ∈ mask) ↔ ((i < length (standing_sets m.rows)) × claim (set_at m i) among opened_next m)
      place i f = rw (d.given.sets_in.count, ap (λ (l : List ℕ). get_or l i 0) d.given.sets_in.sets_are) at f

  pub turn_kept : Mirrors (next_round m) loop_notes mix_notes (judged accepted vain) (m.rounds + 1)
  unfolding next_round
  turn_kept = record {
    loops_are = notes_next loops new.loops loop_notes new_loops d.loop_noted;
    mixes_are = notes_next mixes new.mixes mix_notes new_mixes d.mix_noted;
    phase_is = phase_next;
    count_is = omega arith;
  }

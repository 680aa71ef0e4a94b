-- What holds by the masks holds of the rows that they stand for (`loops_holds`, `mixes_holds`), so what opens by the masks is what a round
-- opens (`opens_below`), and the claims that rounds leave are paired (`paired_by`).
use Prim.Native.Nat.{ℕ, ◌<◌}
use mathlib.Core.Path.{◌≡◌}
use mathlib.Core.Bool.{◌&&◌}
use mathlib.Core.Logic.{◌↔◌}
use mathlib.Core.List.{List}
use lib.Bits.{bit_and}
use lib.ListN.{length, get_or}
use native.Mathlib.Omega.{arith}
use Rattle.lists.specs.Tests.{◌among◌}
use Rattle.lists.proofs.Deciding.{iff_decides, test_decides, all_decides, dec_decides}
use Rattle.masks.specs.Mask.{member, ◌∈◌, ◌⊆◌}
use Rattle.masks.proofs.Member.{member_lt, member_and}
use Rattle.masks.proofs.Marking.{some_mask}
use Rattle.rows.specs.declared.Row.{Row}
use Rattle.rows.specs.Rows.{standing_sets}
use Rattle.orderings.specs.Steps.{Claim, loops, mixes, members}
use Rattle.orderings.specs.Systems.{Holds}
use Rattle.orderings.specs.Timelines.{timelines}
use Rattle.orderings.specs.Rounds.{OpenBy}
use Rattle.orderings.proofs.Depths.{holds_more}
use Rattle.orderings.proofs.Rising.{mix_due, loop_paired}
use Rattle.orderings.proofs.Timelines.{members_iff, lawful}
use Rattle.search.specs.declared.Claims.{Claims}
use Rattle.search.specs.Graph.{Graph}
use Rattle.search.specs.Hops.{Inner, InnerClaims}
use Rattle.search.specs.Promises.{Stands, NewlyHolds, OpensBelow}
use Rattle.search.proofs.Opening.{set_here}
use Rattle.search.proofs.Saying.{entrance_iff, exit_iff, loops_iff, mixes_iff}
use Rattle.candidates.specs.Promises.{LoopsAt, MixesAt, OpensOn, Paired}

-- ---- the claims about parts of a set have their masks

part? : (Q p : ℕ) → Dec (Q ⊆ p)
part? Q p = dec_decides (iff_decides {B = Q ⊆ p} (λ f s h. f s ((members_iff Q s).1 h)) (λ f s h. f s ((members_iff Q s).0 h)) (all_decides (λ s. test_decides (member s p)) (members Q)))

pub in? : (i m : ℕ) → Dec (i ∈ m)
in? i m = dec_decides (test_decides (member i m))

both? : {A B : Type 0} → Dec A → Dec B → Dec (A × B)
both? (yes a) (yes b) = yes (a, b)
both? (yes a) (no b) = no (λ h. b h.1)
both? (no a) b = no (λ h. a h.0)

some_part : (sets : List ℕ) (places p : ℕ) → (r : ℕ) × Inner sets places p r
some_part sets places p =
    let x = some_mask (λ i. (i ∈ places) × (get_or sets i 0 ⊆ p)) (λ i. both? (in? i places) (part? (get_or sets i 0) p)) 64 (omega arith) in
    (x.0, λ i. ((λ h. ((x.1 i).0 h).1), λ h. (x.1 i).1 (member_lt i places h.0, h)))

pub some_inner : (g : Graph) (force : Claims) (p : ℕ) → (inner : Claims) × InnerClaims g force p inner
some_inner g force p = let l = some_part g.sets force.loops p in let m = some_part g.sets force.mixes p in
    (record { loops = l.0; mixes = m.0 }, record { loops_are = l.1; mixes_are = m.1 })

-- ---- masks and rows

module _ {g : Graph} {force : Claims} {rows : List Row} {claims : List Claim} {n : ℕ} (is : Stands g force rows claims n) (count : length (standing_sets rows) ≡ n) (i : ℕ) (l : i < n) where
  abbrev P : ℕ
  P = get_or g.sets i 0

  pub loops_holds : LoopsAt g force i ↔ Holds (timelines rows) (λ c. c among claims) (loops P)
  loops_holds = (
    (λ h. (set_here is.masked count i l, (loops_iff is.masked is.forced P h.is_inner).0 h.joined)),
    λ h. let x = some_inner g force P in
        record { inner = x.0; is_inner = x.1; joined = (loops_iff is.masked is.forced P x.1).1 h.1 },
  )

  pub mixes_holds : MixesAt g force i ↔ Holds (timelines rows) (λ c. c among claims) (mixes P)
  mixes_holds = (
    (λ h. (
      set_here is.masked count i l,
      (mixes_iff is.masked is.forced P h.is_inner h.entrances h.exits
          (entrance_iff is.masked i h.entrances l h.are_entrances) (exit_iff is.masked i h.exits l h.are_exits)).0 h.covered,
    )),
    λ h. let x = some_inner g force P in
        let m = bit_and (get_or g.lefts i 0) P in
        let k = bit_and (get_or g.rights i 0) P in
        let is_m : (t : ℕ) → member t m ≡ (member t (get_or g.lefts i 0) && member t P) = λ t. member_and t (get_or g.lefts i 0) P in
        let is_k : (t : ℕ) → member t k ≡ (member t (get_or g.rights i 0) && member t P) = λ t. member_and t (get_or g.rights i 0) P in
        record {
          inner = x.0;
          is_inner = x.1;
          entrances = m;
          are_entrances = is_m;
          exits = k;
          are_exits = is_k;
          covered = (mixes_iff is.masked is.forced P x.1 m k (entrance_iff is.masked i m l is_m) (exit_iff is.masked i k l is_k)).1 h.1;
        },
  )

-- the places of one kind of claims
opened_iff : (g : Graph) {rows : List Row} {claims : List Claim} (claim : ℕ → Claim) (n force new : ℕ) (At : ℕ → Type 0)
    → ((i : ℕ) → (i ∈ force) ↔ ((i < n) × claim (get_or g.sets i 0) among claims))
    → ((i : ℕ) → i < n → At i ↔ Holds (timelines rows) (λ c. c among claims) (claim (get_or g.sets i 0)))
    → ((i : ℕ) → (i ∈ new) ↔ ((i < n) × At i × ¬ (i ∈ force)))
    → (i : ℕ) → (i ∈ new) ↔ ((i < n) × NewlyHolds rows claims (claim (get_or g.sets i 0)))
opened_iff g claim n force new At forced holds opens i = (
  (λ h. let x = (opens i).0 h in (x.0, ((holds i x.0).0 x.1, λ k. x.2 ((forced i).1 (x.0, k))))),
  λ h. (opens i).1 (h.0, (holds i h.0).1 h.1.0, λ k. h.1.1 ((forced i).0 k).1),
)

pub opens_below : {g : Graph} {force : Claims} {n : ℕ} {new : Claims} → OpensOn g force n new → OpensBelow g force n n new
opens_below {g} {force} {n} {new} o rows claims is count = record {
  loop_iff = opened_iff g loops n force.loops new.loops (LoopsAt g force) is.forced.loop_iff (loops_holds is count) o.loop_iff;
  mix_iff = opened_iff g mixes n force.mixes new.mixes (MixesAt g force) is.forced.mix_iff (mixes_holds is count) o.mix_iff;
}

-- the claims in force are those open after k rounds
pub paired_by : {g : Graph} {force : Claims} {rows : List Row} {claims : List Claim} {n : ℕ} → Stands g force rows claims n → length (standing_sets rows) ≡ n
    → (k : ℕ) → ((c : Claim) → c among claims ↔ OpenBy (timelines rows) k c) → Paired g force n
paired_by {g} {force} {rows} {claims} {n} is count k iff = record {
  low = λ i h. ((is.forced.mix_iff i).0 h).0;
  due = λ i h. let x = (is.forced.mix_iff i).0 h in let P = get_or g.sets i 0 in
      (loops_holds is count i x.0).1 (holds_more (timelines rows) (lawful rows) (λ c. (iff c).1) (loops P) (mix_due rows k P ((iff (mixes P)).0 x.1)));
  both = λ i h x. let y = (is.forced.loop_iff i).0 h in let m = ((mixes_holds is count i y.0).0 x).1.stepped in let P = get_or g.sets i 0 in
      (is.forced.mix_iff i).1 (y.0, (iff (mixes P)).1 (loop_paired rows k P m.0 m.1 m.2 m.3 ((iff (loops P)).0 y.1)));
}

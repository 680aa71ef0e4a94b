-- The openings of a machine: in the sheet's order, none twice, with their least depths (`after_listed`); at most two to a set (`openings_few`).
use Prim.Native.Nat.{ℕ, zero, suc, ◌≤◌, ◌<◌, ◌+◌}
use mathlib.Core.Path.{◌≡◌, refl, ap, subst}
use mathlib.Core.Logic.{inl, ⊎_elim, ◌↔◌}
use mathlib.Core.List.Memᴰ
use mathlib.Core.List.{List, [], ◌∷◌, ◌++◌, map}
use lib.ListN.{length, length-map}
use native.Mathlib.Omega.{arith}
use Rattle.lists.specs.Tests.{◌among◌, Once}
use Rattle.lists.specs.Order.{◌≺◌, Sorted}
use Rattle.lists.proofs.Deciding.{map_out}
use Rattle.lists.proofs.Counting.{once_length, once_append, keep_once}
use Rattle.lists.proofs.Sorting.{before_decides, sorted_append, keep_sorted}
use Rattle.rows.specs.declared.Row.{Row}
use Rattle.rows.specs.Rows.{SetOf, standing_sets}
use Rattle.rows.proofs.Sets.{sets_sorted, sets_once}
use Rattle.orderings.specs.Steps.{Claim, set_of}
use Rattle.orderings.specs.Systems.{LeastDepth}
use Rattle.orderings.specs.Rounds.{OpenBy}
use Rattle.orderings.specs.Decide.{both, claims}
use Rattle.orderings.specs.Timelines.{timelines}
use Rattle.orderings.proofs.Depths.{opens_iff_least}
use Rattle.orderings.proofs.Timelines.{lawful}
use Rattle.orderings.proofs.Claims.{both_out, claims_iff, claims_once, claims_length}
use Rattle.machine.specs.Machine.{Opening, Machine, open_with, open_claims, opened_next, openings_of, next_round}
use Rattle.machine.specs.WellFormed.{after}
use Rattle.machine.specs.Statements.{loop_first, opening_key, Listed}
use Rattle.machine.proofs.Rounding.{close_closed, opened_next_iff}
use Rattle.machine.proofs.Settling.{after_after}

abbrev claim_key : Claim → List ℕ
claim_key c = set_of c ∷ loop_first c ∷ []

-- not before: the first number is no less, and where it is the same the rest is not before
not_before : (x y : ℕ) (l m : List ℕ) → ¬ (x < y) → (x ≡ y → ¬ (l ≺ m)) → ¬ ((x ∷ l) ≺ (y ∷ m))
not_before x y l m n f h = ⊎_elim n (λ p. f p.0 p.1) ((before_decides x y l m).to h)

-- the claims of rising sets are in order
both_sorted : (l : List ℕ) → Sorted (λ (P : ℕ). P ∷ []) l → Once l → Sorted claim_key (both l)
both_sorted [] s o = tt
both_sorted (P ∷ l) s o = (
  (λ c m. ⊎_elim (λ e. rw e (not_before P P (1 ∷ []) (0 ∷ []) (λ i. omega arith) (λ e. not_before 1 0 [] [] (λ i. omega arith) (λ e. absurd (omega arith))))) (later c 0) (Memᴰ.cases_cons m)),
  ((λ c m. later c 1 m), both_sorted l s.1 o.1),
)
  where
    later : (c : Claim) (k : ℕ) → c among both l → ¬ (claim_key c ≺ (P ∷ k ∷ []))
    later c k m = let i = both_out c l m in
        not_before (set_of c) P (loop_first c ∷ []) (k ∷ []) (λ j. s.0 (set_of c) i ((before_decides (set_of c) P [] []).of (inl j))) (λ e. absurd (o.0 (subst (λ x. x among l) e i)))

-- openings of one round are in the order of their claims
openings_sorted : (k : ℕ) (l : List Claim) → Sorted claim_key l → Sorted opening_key (openings_of k l)
openings_sorted k [] s = tt
openings_sorted k (c ∷ l) s = (
  (λ o m. let r = map_out _ o l m in rw r.2 (not_before k k (claim_key r.0) (claim_key c) (λ i. omega arith) (λ e. s.0 r.0 r.1))),
  openings_sorted k l s.1,
)

claims_sorted : (rows : List Row) → Sorted claim_key (claims rows)
claims_sorted rows = both_sorted (standing_sets rows) (sets_sorted rows) (sets_once rows)

next_sorted : (m : Machine) → Sorted claim_key (opened_next m)
unfolding opened_next
next_sorted m = keep_sorted claim_key _ (claims m.rows) (claims_sorted m.rows)

next_once : (m : Machine) → Once (opened_next m)
unfolding opened_next
next_once m = keep_once _ (claims m.rows) (claims_once m.rows)

-- the claims of the openings, old and new
pub claims_append : (l : List Opening) (k : ℕ) (new : List Claim) → map (λ (o : Opening). o.claim) (l ++ openings_of k new) ≡ map (λ (o : Opening). o.claim) l ++ new
claims_append [] k [] = refl
claims_append [] k (c ∷ new) = ap (λ (m : List Claim). c ∷ m) (claims_append [] k new)
claims_append (o ∷ l) k new = ap (λ (m : List Claim). o.claim ∷ m) (claims_append l k new)

round_openings : (m : Machine) → (next_round m).openings ≡ m.openings ++ openings_of (suc m.rounds) (opened_next m)
unfolding next_round
round_openings m = refl

-- a claim that is open is about a set of a standing row
open_subject : (rows : List Row) (k : ℕ) (c : Claim) → OpenBy (timelines rows) k c → SetOf rows (set_of c)
unfolding OpenBy
open_subject rows zero c o = absurd o
open_subject rows (suc k) c o = ⊎_elim (open_subject rows k c) (λ h. h.0) o

-- openings of the next round come after those of rounds before
later : {k : ℕ} (m : Machine) (x : Opening) → x.round ≤ k → m.rounds ≡ k → (y : Opening) → y among openings_of (suc m.rounds) (opened_next m) → ¬ (opening_key y ≺ opening_key x)
later m x le e y j = let p = map_out _ y (opened_next m) j in
    rw p.2 (not_before (suc m.rounds) x.round (claim_key p.0) (claim_key x.claim) (λ h. omega arith) (λ f. absurd (omega arith)))

module _ (rows : List Row) where
  ordered : (k : ℕ) → Sorted opening_key (after rows k).openings × Once (open_claims (after rows k))
  ordered zero = let e = (close_closed (open_with rows)).none in (rw e tt, rw e tt)
  ordered (suc k) = let m = after rows k in let r = ordered k in let a = after_after rows k in (
    rw (round_openings m) (sorted_append opening_key m.openings (openings_of (suc m.rounds) (opened_next m)) r.0 (openings_sorted (suc m.rounds) (opened_next m) (next_sorted m))
        (λ x y i j. later m x ((a.numbers x).0 i).0 a.count y j)),
    rw (round_openings m, claims_append m.openings (suc m.rounds) (opened_next m)) (once_append (open_claims m) (opened_next m) r.1 (next_once m) (λ c i j. ((opened_next_iff m c).0 j).1 i)),
  )

  depths : (k : ℕ) (o : Opening) → o among (after rows k).openings ↔ ((o.round ≤ k) × LeastDepth (timelines rows) o.claim o.round)
  depths k o = let n = (after_after rows k).numbers o in let d = opens_iff_least (timelines rows) (lawful rows) o.round o.claim in
      ((λ m. let r = n.0 m in (r.0, d.0 r.1)), λ p. n.1 (p.0, d.1 p.1))

  pub after_listed : (k : ℕ) → Listed (after rows k)
  after_listed k = let a = after_after rows k in
      record { order = (ordered k).0; once = (ordered k).1; depths = λ o. rw (a.same_rows, a.count) (depths k o) }

  -- at most two for each set
  pub openings_few : (k : ℕ) → length (after rows k).openings ≤ length (standing_sets rows) + length (standing_sets rows)
  openings_few k = let a = after_after rows k in
      omega (
        arith,
        length-map (after rows k).openings (λ (o : Opening). o.claim),
        claims_length rows,
        once_length (open_claims (after rows k)) (claims rows) (ordered k).1 (λ c m. (claims_iff rows c).1 (open_subject rows k c ((a.claims c).0 m))),
      )

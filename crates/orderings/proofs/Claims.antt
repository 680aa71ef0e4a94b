-- The claims about the sets of a table, counted (`claims_length`): what is open is computed (`open_dec`), and comes to rest within as many rounds
-- as there are claims (`at_most`).
use Prim.Native.Nat.{ℕ, zero, suc, ◌≤◌, ◌+◌}
use mathlib.Core.Path.{◌≡◌, refl, ap}
use mathlib.Core.Logic.{inl, inr, ⊎_elim, ◌↔◌}
use mathlib.Core.List.Memᴰ
use mathlib.Core.List.{List, [], ◌∷◌}
use lib.ListN.{length}
use native.Mathlib.Omega.{arith}
use Rattle.lists.specs.Tests.{◌among◌, Once}
use Rattle.lists.specs.Growing.{grown}
use Rattle.lists.proofs.Deciding.{iff_decides, has_decides, dec_decides}
use Rattle.lists.proofs.Growing.{grow_iff, grown_of, at_rest}
use Rattle.rows.specs.declared.Row.{Row}
use Rattle.rows.specs.Rows.{SetOf, standing_sets}
use Rattle.rows.proofs.Sets.{sets_iff, sets_once}
use Rattle.orderings.specs.Steps.{Claim, loops, mixes, set_of}
use Rattle.orderings.specs.Systems.{Derivable}
use Rattle.orderings.specs.Rounds.{OpenBy}
use Rattle.orderings.specs.Timelines.{timelines}
use Rattle.orderings.specs.Decide.{same_claim, holds?, both, claims}
use Rattle.orderings.proofs.Depths.{holds_more, open_le, fixpoint, derivable_iff_open}
use Rattle.orderings.proofs.Timelines.{lawful}
use Rattle.orderings.proofs.Deciding.{same_claim_decides, holds_decides}

both_in : (c : Claim) {l : List ℕ} → set_of c among l → c among both l
both_in (loops P) (Memᴰ.head e) = Memᴰ.head (ap loops e)
both_in (mixes P) (Memᴰ.head e) = Memᴰ.tail (Memᴰ.head (ap mixes e))
both_in (loops P) (Memᴰ.tail m) = Memᴰ.tail (Memᴰ.tail (both_in (loops P) m))
both_in (mixes P) (Memᴰ.tail m) = Memᴰ.tail (Memᴰ.tail (both_in (mixes P) m))

pub both_out : (c : Claim) (l : List ℕ) → c among both l → set_of c among l
both_out c [] m = absurd (Memᴰ.not-nil m)
both_out c (P ∷ l) m = ⊎_elim (λ e. Memᴰ.head (ap set_of e)) (λ i. ⊎_elim (λ e. Memᴰ.head (ap set_of e)) (λ j. Memᴰ.tail (both_out c l j)) (Memᴰ.cases_cons i)) (Memᴰ.cases_cons m)

both_once : (l : List ℕ) → Once l → Once (both l)
both_once [] o = tt
both_once (P ∷ l) o = (
  (λ m. ⊎_elim (λ e. let z : ◌≡◌ {A = ℕ} 0 1 = cc in absurd (omega arith)) (λ i. o.0 (both_out (loops P) l i)) (Memᴰ.cases_cons m)),
  ((λ i. o.0 (both_out (mixes P) l i)), both_once l o.1),
)

both_length : (l : List ℕ) → length (both l) ≡ length l + length l
both_length [] = refl
both_length (P ∷ l) = omega (arith, both_length l)

module _ (rows : List Row) where
  -- the claims that a derivation may hold
  pub claims_iff : (c : Claim) → c among claims rows ↔ SetOf rows (set_of c)
  claims_iff c = ((λ m. (sets_iff rows (set_of c)).0 (both_out c (standing_sets rows) m)), λ s. both_in c ((sets_iff rows (set_of c)).1 s))

  pub claims_once : Once (claims rows)
  claims_once = both_once (standing_sets rows) (sets_once rows)

  pub claims_length : length (claims rows) ≡ length (standing_sets rows) + length (standing_sets rows)
  claims_length = both_length (standing_sets rows)

  -- the claims that are open after k rounds
  abbrev opened : ℕ → List Claim
  opened k = grown same_claim (claims rows) (holds? rows) k

  pub opened_iff : (k : ℕ) (c : Claim) → c among opened k ↔ OpenBy (timelines rows) k c
  unfolding OpenBy
  opened_iff zero c = (Memᴰ.not-nil, λ o. absurd o)
  opened_iff (suc k) c = let new = grow_iff same_claim_decides (claims rows) (holds? rows) (opened k) c in let now = holds_decides rows (opened k) c in (
    (λ m. ⊎_elim (λ i. inl ((opened_iff k c).0 i)) (λ t. inr (holds_more (timelines rows) (lawful rows) (λ x i. (opened_iff k x).0 i) c (now.to t))) (new.0 m).1),
    ⊎_elim (λ o. let i = (opened_iff k c).1 o in new.1 (grown_of same_claim_decides (claims rows) (holds? rows) k c i, inl i))
        (λ h. new.1 ((claims_iff c).1 h.0, inr (now.of (holds_more (timelines rows) (lawful rows) (λ x o. (opened_iff k x).1 o) c h)))),
  )

  pub open_dec : (k : ℕ) (c : Claim) → Dec (OpenBy (timelines rows) k c)
  open_dec k c = dec_decides (iff_decides (opened_iff k c).0 (opened_iff k c).1 (has_decides same_claim_decides c (opened k)))

  -- after as many rounds as there are claims a round opens nothing
  vain : (c : Claim) → OpenBy (timelines rows) (suc (length (claims rows))) c → OpenBy (timelines rows) (length (claims rows)) c
  vain c o = (opened_iff (length (claims rows)) c).0 (rw (at_rest same_claim_decides (claims rows) (holds? rows)) ((opened_iff (suc (length (claims rows))) c).1 o))

  -- nor does any later one
  pub at_most : (n k : ℕ) (c : Claim) → length (claims rows) ≤ n → OpenBy (timelines rows) k c → OpenBy (timelines rows) n c
  at_most n k c le o = open_le (timelines rows) (lawful rows) (length (claims rows)) n c le (fixpoint (timelines rows) (lawful rows) (length (claims rows)) vain k c o)

  -- a claim is derivable exactly where it is open then
  pub rest_derivable : (c : Claim) → Derivable (timelines rows) c ↔ OpenBy (timelines rows) (length (claims rows)) c
  rest_derivable c = derivable_iff_open (timelines rows) (lawful rows) (length (claims rows)) vain c

  -- it can be decided whether a claim is derivable
  pub derivable_dec : (c : Claim) → Dec (Derivable (timelines rows) c)
  derivable_dec c = elim (open_dec (length (claims rows)) c) [ yes o ↦ yes ((rest_derivable c).1 o) | no m ↦ no (λ x. m ((rest_derivable c).0 x)) ]

-- Loops over the places of a mask that store into an array at each.
use Prim.Native.Nat.{ℕ}
use mathlib.Core.Path.{◌≡◌, refl, subst, sym, ◌∙◌}
use mathlib.Core.Bool.{false}
use mathlib.Core.Logic.{◌≢◌}
use mathlib.Core.List.{List}
use native.Mathlib.Omega.{arith}
use lib.ListN.{get_or, length, set, length-set}
use lib.Seq.{get_or-set_same, get_or-set_other}
use Rattle.masks.specs.Mask.{member, ◌∈◌, TakesLowest}
use Rattle.masks.proofs.Member.{not_both}
use Rattle.masks.proofs.Gathering.{Passed, passed_start, passed_end, passed_more}

-- P j x: x is what the place j should hold; `old` is the array as it was, `rest` are the places left, `new` is the array now
pub record Storing (P : ℕ → ℕ → Type 0) (old : List ℕ) (places rest : ℕ) (new : List ℕ) : Type 0 where
  pub length_is : length new ≡ length old
  pub stored : Passed (λ j. length old ≡ 64 → P j (get_or new j 0)) places rest
  pub waits : (j : ℕ) → j ∈ rest → get_or new j 0 ≡ get_or old j 0
  pub beyond : (j : ℕ) → member j places ≡ false → get_or new j 0 ≡ get_or old j 0

module _ {P : ℕ → ℕ → Type 0} {old : List ℕ} {places : ℕ} where
  pub storing_start : Storing P old places places old
  storing_start = record { length_is = refl; stored = passed_start; waits = λ j h. refl; beyond = λ j h. refl }

  pub storing_from : {rest : ℕ} → rest ≡ places → Storing P old places rest old
  storing_from all = subst (λ (n : ℕ). Storing P old places n old) (sym all) storing_start

  -- v is stored at the lowest place
  pub storing_more : {rest low rest' : ℕ} (new : List ℕ) (v : ℕ) → TakesLowest rest low rest' → Storing P old places rest new
      → P low v → Storing P old places rest' (set new low v)
  storing_more {low = low} new v taken now right = record {
    length_is = length-set new low v ∙ now.length_is;
    stored = passed_more taken now.stored (λ j n p e. subst (P j) (sym (other j n)) (p e))
        (λ e. subst (P low) (sym (get_or-set_same new low v 0 (omega (arith, taken.small, now.length_is)))) right);
    waits = λ j h. let x = (taken.others j).0 h in other j x.1 ∙ now.waits j x.0;
    beyond = λ j h. other j (λ e. not_both (now.stored.left low taken.is) (subst (λ (n : ℕ). member n places ≡ false) e h)) ∙ now.beyond j h;
  }
    where
      other : (j : ℕ) → j ≢ low → get_or (set new low v) j 0 ≡ get_or new j 0
      other j n = get_or-set_other new low j v 0 n

  pub storing_end : {rest : ℕ} {new : List ℕ} → Storing P old places rest new → rest ≡ 0 → length old ≡ 64
      → (j : ℕ) → j ∈ places → P j (get_or new j 0)
  storing_end now none e j h = passed_end now.stored none j h e

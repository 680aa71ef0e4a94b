-- What is marked place by place (`marks_iff`, `marks_none`, `below_next`), and the set that stands at a place (`set_here`).
use Prim.Native.Nat.{ℕ, ◌+◌, ◌<◌}
use mathlib.Core.Path.{◌≡◌, sym, subst}
use mathlib.Core.Bool.{Bool, true, ◌||◌}
use mathlib.Core.Logic.{⊎_elim, ◌↔◌}
use mathlib.Core.List.{List}
use native.Mathlib.Omega.{arith}
use lib.ListN.{length, get_or}
use Rattle.lists.specs.Tests.{Decides}
use Rattle.lists.proofs.Places.{get_or_among, held_at}
use Rattle.masks.specs.Mask.{member, ◌∈◌}
use Rattle.masks.proofs.Member.{in_none, lt_or_le, union_left, union_right, union_cases}
use Rattle.rows.specs.declared.Row.{Row}
use Rattle.rows.specs.Rows.{SetOf, standing_sets}
use Rattle.rows.proofs.Sets.{sets_iff}
use Rattle.search.specs.Graph.{Graph}
use Rattle.search.specs.Masked.{Masked}

-- at each place below n is a set of the rows
pub set_here : {rows : List Row} {g : Graph} {n : ℕ} → Masked rows g n → length (standing_sets rows) ≡ n → (i : ℕ) → i < n → SetOf rows (get_or g.sets i 0)
set_here {rows} {g} {n} is count i l =
    (sets_iff rows (get_or g.sets i 0)).0 (rw (held_at n g.sets (standing_sets rows) is.sets_are i 0 l) (get_or_among (standing_sets rows) i 0 (omega arith)))

-- the place i alone, where a test passes that asks for A, which is B
pub marks_iff : {found : Bool} {A B : Type 0} (i r : ℕ) → A ↔ B → Decides found A → ((t : ℕ) → (t ∈ r) ↔ ((t ≡ i) × (found ≡ true))) → (t : ℕ) → (t ∈ r) ↔ ((t ≡ i) × B)
marks_iff i r says d is t = ((λ h. let x = (is t).0 h in (x.0, says.0 (d.to x.1))), λ h. (is t).1 (h.0, d.of (says.1 h.1)))

-- nothing, where B is not so
pub marks_none : {B : Type 0} (i : ℕ) → ¬ B → (t : ℕ) → (t ∈ 0) ↔ ((t ≡ i) × B)
marks_none i n t = ((λ h. absurd (in_none t h)), λ h. absurd (n h.1))

-- the places below k, and k
pub below_next : {Q : ℕ → Type 0} (k r g r' : ℕ) → ((t : ℕ) → (t ∈ r) ↔ ((t < k) × Q t)) → ((t : ℕ) → (t ∈ g) ↔ ((t ≡ k) × Q k))
    → ((t : ℕ) → member t r' ≡ (member t r || member t g)) → (t : ℕ) → (t ∈ r') ↔ ((t < k + 1) × Q t)
below_next {Q} k r g r' below at is t = (
  (λ h. ⊎_elim (λ x. let y = (below t).0 x in (omega (arith, y.0), y.1)) (λ x. let y = (at t).0 x in (omega (arith, y.0), subst Q (sym y.0) y.1))
      (union_cases r g r' is t h)),
  λ h. ⊎_elim (λ l. union_left r g r' is t ((below t).1 (l, h.1)))
      (λ l. let e : t ≡ k = omega (arith, h.0, l) in union_right r g r' is t ((at t).1 (e, subst Q e h.1))) (lt_or_le t k),
)

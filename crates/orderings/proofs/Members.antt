-- The states of a set, rising: `members_are` (a rising list of its states is theirs), and so of the empty set, of a set whose lowest state is
-- taken, of the states above one and of the others.
use Prim.Native.Nat.{ℕ, zero, suc, ◌≤◌, ◌<◌}
use mathlib.Core.Path.{◌≡◌, refl, sym}
use mathlib.Core.Bool.{Bool, true, false}
use mathlib.Core.Logic.{⊎_elim, ◌↔◌}
use mathlib.Core.List.Memᴰ
use mathlib.Core.List.{List, [], ◌∷◌, ◌++◌}
use lib.Dec.{ltb}
use native.Mathlib.Nat.{eq-or-lt_of_le}
use native.Mathlib.Omega.{arith}
use Rattle.lists.specs.Tests.{◌among◌, ◌part_of◌, put, keep, range}
use Rattle.lists.proofs.Deciding.{ltb_decides, keep_decides, kept}
use Rattle.masks.specs.Mask.{member, ◌∈◌, TakesLowest}
use Rattle.masks.proofs.Member.{in_none}
use Rattle.orderings.specs.Steps.{members}
use Rattle.orderings.proofs.Timelines.{members_iff}

-- rising numbers
abbrev pub Up : List ℕ → Type 0
Up [] = Unit {0}
Up (x ∷ l) = ((y : ℕ) → y among l → x < y) × Up l

keep_up : (f : ℕ → Bool) (l : List ℕ) → Up l → Up (keep f l)
keep_up f [] u = tt
keep_up f (x ∷ l) u = go (f x) (keep_up f l u.1)
  where
    go : (b : Bool) → Up (keep f l) → Up (put b x (keep f l))
    go true i = ((λ y m. u.0 y (kept f l y m)), i)
    go false i = i

range_low : (n k y : ℕ) → y among range n k → n ≤ y
range_low n zero y m = absurd (Memᴰ.not-nil m)
range_low n (suc k) y m = ⊎_elim (λ e. omega arith) (λ i. omega (arith, range_low (suc n) k y i)) (Memᴰ.cases_cons m)

range_up : (n k : ℕ) → Up (range n k)
range_up n zero = tt
range_up n (suc k) = ((λ y m. range_low (suc n) k y m), range_up (suc n) k)

pub members_up : (P : ℕ) → Up (members P)
unfolding members
members_up P = keep_up (λ s. member s P) (range 0 64) (range_up 0 64)

-- rising numbers, and one above them
end_up : (l : List ℕ) (q : ℕ) → Up l → ((y : ℕ) → y among l → y < q) → Up (l ++ (q ∷ []))
end_up [] q u f = ((λ y m. absurd (Memᴰ.not-nil m)), tt)
end_up (x ∷ l) q u f = (
  (λ y m. ⊎_elim (u.0 y) (λ i. omega (arith, Memᴰ.eq_of_singleton i, f x (Memᴰ.head refl))) (Memᴰ.append_cases l m)),
  end_up l q u.1 (λ y m. f y (Memᴰ.tail m)),
)

-- two rising lists of the same numbers are one
up_same : (l m : List ℕ) → Up l → Up m → l part_of m → m part_of l → l ≡ m
up_same [] [] u v f g = refl
up_same [] (y ∷ m) u v f g = absurd (Memᴰ.not-nil (g y (Memᴰ.head refl)))
up_same (x ∷ l) [] u v f g = absurd (Memᴰ.not-nil (f x (Memᴰ.head refl)))
up_same (x ∷ l) (y ∷ m) u v f g =
    let r = up_same l m u.1 v.1 (λ z i. ⊎_elim (λ e. absurd (omega (arith, u.0 z i, heads))) (λ j. j) (Memᴰ.cases_cons (f z (Memᴰ.tail i))))
    (λ z i. ⊎_elim (λ e. absurd (omega (arith, v.0 z i, heads))) (λ j. j) (Memᴰ.cases_cons (g z (Memᴰ.tail i)))) in
    cc heads
  where
    heads : x ≡ y
    heads = ⊎_elim (λ e. e) (λ i. ⊎_elim sym (λ j. absurd (omega (arith, v.0 x i, u.0 y j))) (Memᴰ.cases_cons (g y (Memᴰ.head refl))))
        (Memᴰ.cases_cons (f x (Memᴰ.head refl)))

-- a rising list of the states of a set
members_are : (P : ℕ) (l : List ℕ) → Up l → ((s : ℕ) → s among l ↔ (s ∈ P)) → members P ≡ l
members_are P l u f = up_same (members P) l (members_up P) u (λ s m. (f s).1 ((members_iff P s).0 m)) (λ s m. (members_iff P s).1 ((f s).0 m))

pub members_none : members 0 ≡ []
members_none = members_are 0 [] tt (λ s. ((λ m. absurd (Memᴰ.not-nil m)), λ h. absurd (in_none s h)))

-- the lowest state, and the others
pub members_take : (m low rest : ℕ) → TakesLowest m low rest → members m ≡ low ∷ members rest
members_take m low rest t = members_are m (low ∷ members rest) ((λ y i. above y ((members_iff rest y).0 i)), members_up rest) (λ s. (
  (λ i. ⊎_elim (λ e. rw e t.is) (λ j. ((t.others s).0 ((members_iff rest s).0 j)).0) (Memᴰ.cases_cons i)),
  λ h. ⊎_elim (λ e. Memᴰ.head (sym e)) (λ l. Memᴰ.tail ((members_iff rest s).1 ((t.others s).1 (h, λ e. omega arith)))) (eq-or-lt_of_le (t.least s h)),
))
  where
    above : (y : ℕ) → y ∈ rest → low < y
    above y h = let o = (t.others y).0 h in ⊎_elim (λ e. absurd (o.1 (sym e))) (λ l. l) (eq-or-lt_of_le (t.least y o.0))

-- the states above q
pub members_above : (P q h : ℕ) → ((t : ℕ) → (t ∈ h) ↔ ((t ∈ P) × (q < t))) → members h ≡ keep (ltb q) (members P)
members_above P q h is = members_are h (keep (ltb q) (members P)) (keep_up (ltb q) (members P) (members_up P)) (λ s. let k = keep_decides (ltb_decides q) (members P) s in (
  (λ m. let r = k.0 m in (is s).1 ((members_iff P s).0 r.0, r.1)),
  λ m. let r = (is s).0 m in k.1 ((members_iff P s).1 r.0, r.1),
))

-- the states up to q, which is one
pub members_upto : (P q l : ℕ) → q ∈ P → ((t : ℕ) → (t ∈ l) ↔ ((t ∈ P) × (t ≤ q))) → members l ≡ keep (λ s. ltb s q) (members P) ++ (q ∷ [])
members_upto P q l h is =
    members_are l (keep (λ s. ltb s q) (members P) ++ (q ∷ [])) (end_up (keep (λ s. ltb s q) (members P)) q (keep_up (λ s. ltb s q) (members P) (members_up P)) (λ y m. ((below y).0 m).1))
    (λ s. (
      (λ m. ⊎_elim (λ i. let r = (below s).0 i in (is s).1 ((members_iff P s).0 r.0, omega (arith, r.1))) (λ i. let e = Memᴰ.eq_of_singleton i in (is s).1 (rw e h, omega arith))
          (Memᴰ.append_cases (keep (λ s. ltb s q) (members P)) m)),
      λ m. let r = (is s).0 m in ⊎_elim (λ e. Memᴰ.append_right (keep (λ s. ltb s q) (members P)) (Memᴰ.head e))
          (λ i. Memᴰ.append_left (q ∷ []) ((below s).1 ((members_iff P s).1 r.0, i))) (eq-or-lt_of_le r.1),
    ))
  where
    below : (s : ℕ) → s among keep (λ s. ltb s q) (members P) ↔ (s among members P × (s < q))
    below s = keep_decides (λ s. ltb_decides s q) (members P) s

-- The rows of edges, the lowest place first: those of all (`edges_start`), the first of them (`first_edge`), and of none (`no_rows`).
use Prim.Native.Nat.{ℕ, zero, suc, ◌+◌, ◌-◌, ◌^◌, ◌≤◌, ◌<◌}
use mathlib.Core.Path.{◌≡◌, refl, ap, sym, ◌∙◌}
use mathlib.Core.Bool.{Bool, true, false, not, ◌&&◌, and-eq-true_iff}
use mathlib.Core.Logic.{⊎_elim, ◌≢◌}
use mathlib.Core.List.{List, [], ◌∷◌, ◌++◌, map}
use lib.Dec.{lit<}
use native.Mathlib.Nat.{eq-or-lt_of_le}
use native.Mathlib.Omega.{arith}
use Rattle.lists.specs.Tests.{keep, range}
use Rattle.lists.proofs.Deciding.{alike, test_decides, says_no}
use Rattle.masks.specs.Mask.{member, ◌∈◌, TakesLowest}
use Rattle.masks.proofs.Digit.{digit_none, digit_not}
use Rattle.masks.proofs.Member.{member_digit, member_none, member_small}
use Rattle.rows.specs.Rows.{row_bytes, batch_of}
use Rattle.buchi_rows.specs.Writing.{edge_row, edge_rows}

-- tests that are alike keep the same numbers
keep_alike : (f g : ℕ → Bool) (a n : ℕ) → ((i : ℕ) → a ≤ i → i < a + n → f i ≡ g i) → keep f (range a n) ≡ keep g (range a n)
keep_alike f g a zero h = refl
keep_alike f g a (suc n) h =
    rw (h a (omega arith) (omega arith), keep_alike f g (suc a) n (λ i p q. h i (omega arith) (omega arith)))

-- the lowest number that passes comes first
keep_lowest : (f g : ℕ → Bool) (low a n : ℕ) → a ≤ low → low < a + n → f low ≡ true → g low ≡ false → ((i : ℕ) → i < low → f i ≡ false)
    → ((i : ℕ) → i ≢ low → f i ≡ g i) → keep f (range a n) ≡ low ∷ keep g (range a n)
keep_lowest f g low a zero h k t n below same = absurd (omega arith)
keep_lowest f g low a (suc n) h k t o below same =
    ⊎_elim
    (λ e.
    let fa : f a ≡ true = ap f e ∙ t in
    let ga : g a ≡ false = ap g e ∙ o in
    rw (fa, ga) (ap (λ (i : ℕ). i ∷ keep f (range (suc a) n)) e ∙ ap (λ (l : List ℕ). low ∷ l) (keep_alike f g (suc a) n (λ i p q. same i (λ z. omega arith)))))
    (λ l.
    let fa : f a ≡ false = below a l in
    let ga : g a ≡ false = sym (same a (λ z. omega arith)) ∙ fa in
    rw (fa, ga) (keep_lowest f g low (suc a) n l (omega arith) t o below same))
    (eq-or-lt_of_le h)

-- the row of the lowest edge comes first
lowest_row : (left low rest : ℕ) → TakesLowest left low rest → low < 36 → edge_rows left ≡ edge_row low ∷ edge_rows rest
unfolding edge_rows
lowest_row left low rest t h =
    ap (map edge_row) (keep_lowest (λ k. member k left) (λ k. member k rest) low 0 36 (omega arith) h t.is gone below same)
  where
    gone : member low rest ≡ false
    gone = alike (test_decides (member low rest)) (says_no (λ x. ((t.others low).0 x).1 refl)) (λ x. x) (λ x. x)

    below : (i : ℕ) → i < low → member i left ≡ false
    below i l = alike (test_decides (member i left)) (says_no (λ x. omega (arith, t.least i x))) (λ x. x) (λ x. x)

    same : (i : ℕ) → i ≢ low → member i left ≡ member i rest
    same i n = alike (test_decides (member i left)) (test_decides (member i rest)) (λ x. (t.others i).1 (x, n)) (λ x. ((t.others i).0 x).0)

pub first_edge : {left low rest : ℕ} → TakesLowest left low rest → low < 36 → batch_of (edge_rows left) ≡ row_bytes (edge_row low) ++ batch_of (edge_rows rest)
first_edge {left} {low} {rest} t h = ap batch_of (lowest_row left low rest t h)

pub no_rows : edge_rows 0 ≡ []
unfolding edge_rows
no_rows = ap (map edge_row) (keep_alike (λ k. member k 0) (λ k. false) 0 36 (λ i p q. member_none i))

-- the 36 places that edges have
place_of_edge : (t : ℕ) → t < 36 → member t (2 ^ 36 - 1) ≡ true
place_of_edge t h = member_digit t (2 ^ 36 - 1) (omega arith) ∙ digit_not t 36 0 h (lit< tt) ∙ ap not (digit_none t)

-- a mask with the edges and no other place has their rows
pub edges_start : (edges left : ℕ) → ((t : ℕ) → member t left ≡ (member t edges && member t (2 ^ 36 - 1))) → edge_rows left ≡ edge_rows edges
unfolding edge_rows
edges_start edges left is =
    ap (map edge_row) (keep_alike (λ k. member k left) (λ k. member k edges) 0 36 (λ i p q. is i ∙ rw (place_of_edge i q) (and_true (member i edges))))
  where
    and_true : (b : Bool) → (b && true) ≡ b
    and_true true = refl
    and_true false = refl

-- and its places are below 36
pub edges_few : (edges left : ℕ) → ((t : ℕ) → member t left ≡ (member t edges && member t (2 ^ 36 - 1))) → (t : ℕ) → t ∈ left → t < 36
edges_few edges left is t h = member_small 36 t (2 ^ 36 - 1) (lit< tt) ((and-eq-true_iff (member t edges) (member t (2 ^ 36 - 1))).0 (sym (is t) ∙ h)).1

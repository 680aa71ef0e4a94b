-- What stands at a place of a list (`get_or_map`, `held_at`), the place of what stands in it (`place_of`, `held_place`), and the order of places in
-- a sorted list (`sorted_at`, `rising`, `rising_sorted`).
use Prim.Native.Nat.{ℕ, zero, suc, ◌+◌, ◌≤◌, ◌<◌}
use mathlib.Core.Path.{◌≡◌, refl, ap, sym, ◌∙◌, subst}
use mathlib.Core.Bool.{Bool, true, false, false≢true}
use mathlib.Core.Logic.{⊎_elim}
use mathlib.Core.List.Memᴰ
use mathlib.Core.List.{List, [], ◌∷◌, ◌++◌, map, append_assoc, append-nil}
use lib.ListN.{length, take, drop, get_or, set, length-take, get_or-eq_default}
use lib.Seq.{get_or-take, get_or-drop, get_or-set_same, get_or-set_other}
use borrow.Author.Count.{below_more}
use native.Mathlib.Omega.{arith}
use Rattle.lists.specs.Tests.{◌among◌, Once, gather}
use Rattle.lists.specs.Order.{before, ◌≺◌, Sorted}
use Rattle.lists.proofs.Sorting.{before_decides, ≺_connex}

pub get_or_among : {A : Type 0} (l : List A) (i : ℕ) (d : A) → i < length l → get_or l i d among l
get_or_among [] i d h = absurd (omega arith)
get_or_among (x ∷ l) zero d h = Memᴰ.head refl
get_or_among (x ∷ l) (suc i) d h = Memᴰ.tail (get_or_among l i d (omega arith))

pub get_or_map : {A B : Type 0} (f : A → B) (l : List A) (i : ℕ) (d : A) (e : B) → i < length l → get_or (map f l) i e ≡ f (get_or l i d)
get_or_map f [] i d e h = absurd (omega arith)
get_or_map f (x ∷ l) zero d e h = refl
get_or_map f (x ∷ l) (suc i) d e h = get_or_map f l i d e (omega arith)

-- what stands at a place of a part of a list, and behind its first places
pub part_at : {A : Type 0} (n k : ℕ) (l : List A) (i : ℕ) (d : A) → i < n → get_or (take n (drop k l)) i d ≡ get_or l (k + i) d
part_at n k l i d h = get_or-take n (drop k l) i d h ∙ get_or-drop k l i d

pub take_past : {A : Type 0} (n : ℕ) (l : List A) (i : ℕ) (d : A) → n ≤ i → get_or (take n l) i d ≡ d
take_past n l i d h = get_or-eq_default (take n l) d (omega (arith, length-take n l))

-- what holds at each place below i holds below i + 1 once the place i is written
pub set_below : (P : ℕ → ℕ → Type 0) (l : List ℕ) (i v : ℕ) → i < length l → ((j : ℕ) → j < i → P j (get_or l j 0)) → P i v
    → (j : ℕ) → j < i + 1 → P j (get_or (set l i v) j 0)
set_below P l i v h below here = below_more _ i
    (λ j g. subst (P j) (sym (get_or-set_other l i j v 0 (λ e. omega arith))) (below j g))
    (subst (P i) (sym (get_or-set_same l i v 0 h)) here)

pub place_of : (l : List ℕ) (x : ℕ) → x among l → (i : ℕ) × (i < length l) × (get_or l i 0 ≡ x)
place_of [] x m = absurd (Memᴰ.not-nil m)
place_of (y ∷ l) x m = ⊎_elim (λ e. (0, omega arith, sym e)) (λ i. let r = place_of l x i in (suc r.0, omega (arith, r.1), r.2)) (Memᴰ.cases_cons m)

-- where a mark that neither has ends the first parts of two equal lists, the parts are equal
pub split_once : {A : Type 0} (x : A) (l m r s : List A) → ¬ (x among l) → ¬ (x among m) → l ++ (x ∷ r) ≡ m ++ (x ∷ s) → (l ≡ m) × (r ≡ s)
split_once x [] [] r s h k e = (refl, cc)
split_once x [] (y ∷ m) r s h k e = absurd (k (Memᴰ.head cc))
split_once x (y ∷ l) [] r s h k e = absurd (h (Memᴰ.head cc))
split_once x (y ∷ l) (z ∷ m) r s h k e = let p = split_once x l m r s (λ i. h (Memᴰ.tail i)) (λ i. k (Memᴰ.tail i)) cc in let i = p.0 in (cc, p.1)

-- a list that is not empty has a last element
pub last_of : {A : Type 0} (l : List A) → 0 < length l → (k : List A) × (x : A) × (l ≡ k ++ (x ∷ []))
last_of [] h = absurd (omega arith)
last_of (x ∷ []) h = ([], x, refl)
last_of {A} (x ∷ y ∷ l) h = let (k, s, e) = last_of (y ∷ l) (omega arith) in (x ∷ k, s, ap (λ (m : List A). x ∷ m) e)

pub gather_append : {A B : Type 0} (f : A → List B) (l m : List A) → gather f (l ++ m) ≡ gather f l ++ gather f m
gather_append f [] m = refl
gather_append {A} {B} f (x ∷ l) m = ap (λ (k : List B). f x ++ k) (gather_append f l m) ∙ sym (append_assoc (f x) (gather f l) (gather f m))

pub gather_last : {A B : Type 0} (f : A → List B) (l : List A) (x : A) → gather f (l ++ (x ∷ [])) ≡ gather f l ++ f x
gather_last {B = B} f l x = gather_append f l (x ∷ []) ∙ ap (λ (k : List B). gather f l ++ k) (append-nil (f x))

-- what the first n places of an array hold, and the place of what they hold
pub held_at : {A : Type 0} (n : ℕ) (l m : List A) → take n l ≡ m → (i : ℕ) (d : A) → i < n → get_or l i d ≡ get_or m i d
held_at {A} n l m e i d h = sym (get_or-take n l i d h) ∙ ap (λ (t : List A). get_or t i d) e

pub held_place : (n : ℕ) (l : List ℕ) (x : ℕ) → x among take n l → (i : ℕ) × (i < n) × (x ≡ get_or l i 0)
held_place n l x m =
    let r = place_of (take n l) x m in
    let h : r.0 < n = omega (arith, r.1, length-take n l) in
    (r.0, h, sym r.2 ∙ get_or-take n l r.0 0 h)

pub map_drop : {A B : Type 0} (f : A → B) (l : List A) (i : ℕ) → drop i (map f l) ≡ map f (drop i l)
map_drop f l zero = refl
map_drop f [] (suc i) = refl
map_drop f (x ∷ l) (suc i) = map_drop f l i

-- some elements behind the first of a list
pub map_take : {A B : Type 0} (f : A → B) (l : List A) (i : ℕ) (m : List A) → take i (map f l) ++ map f m ≡ map f (take i l ++ m)
map_take f l zero m = refl
map_take f [] (suc i) m = refl
map_take {B = B} f (x ∷ l) (suc i) m = ap (λ (t : List B). f x ∷ t) (map_take f l i m)

-- of two lists the first comes before the other, where it is another and does not come behind
comes_first : (a b : List ℕ) → ¬ (b ≺ a) → ¬ (a ≡ b) → a ≺ b
comes_first a b n m = go (before a b) refl
  where
    go : (t : Bool) → before a b ≡ t → t ≡ true
    go true e = refl
    go false e = absurd (m (≺_connex a b (λ t. false≢true (sym e ∙ t)) n))

-- in a sorted list without repeats each element comes before all behind it
pub sorted_at : {A : Type 0} (key : A → List ℕ) (d : A) (l : List A) → ((x y : A) → x among l → y among l → key x ≡ key y → x ≡ y)
    → Sorted key l → Once l → (i j : ℕ) → i < j → j < length l → key (get_or l i d) ≺ key (get_or l j d)
sorted_at key d [] apart s o i j g h = absurd (omega arith)
sorted_at key d (x ∷ l) apart s o i zero g h = absurd (omega arith)
sorted_at {A} key d (x ∷ l) apart s o zero (suc j) g h =
    let y = get_or l j d in
    let m : y among l = get_or_among l j d (omega arith) in
    comes_first (key x) (key y) (s.0 y m)
    (λ e. o.0 (subst (λ (z : A). z among l) (sym (apart x y (Memᴰ.head refl) (Memᴰ.tail m) e)) m))
sorted_at key d (x ∷ l) apart s o (suc i) (suc j) g h =
    sorted_at key d l (λ a b p q. apart a b (Memᴰ.tail p) (Memᴰ.tail q)) s.1 o.1 i j (omega arith) (omega arith)

-- numbers in order, none twice, rise
pub rising : (l : List ℕ) → Sorted (λ (P : ℕ). P ∷ []) l → Once l → (i j : ℕ) → i < j → j < length l → get_or l i 0 < get_or l j 0
rising l s o i j h k =
    ⊎_elim (λ g. g) (λ p. absurd (false≢true p.1))
    ((before_decides (get_or l i 0) (get_or l j 0) [] []).to (sorted_at (λ (P : ℕ). P ∷ []) 0 l (λ x y p q e. cc) s o i j h k))

-- and numbers that rise are in order, none twice
pub rising_sorted : (l : List ℕ) → ((i j : ℕ) → i < j → j < length l → get_or l i 0 < get_or l j 0) → Sorted (λ (P : ℕ). P ∷ []) l × Once l
rising_sorted [] r = (tt, tt)
rising_sorted (x ∷ l) r = let s = rising_sorted l (λ i j h k. r (suc i) (suc j) (omega arith) (omega arith)) in (
  ((λ y m g. let (j, h, e) = place_of l y m in ⊎_elim (λ z. omega (arith, r 0 (suc j) (omega arith) (omega arith), e)) (λ z. false≢true z.1) ((before_decides y x [] []).to g)), s.0),
  ((λ m. let (j, h, e) = place_of l x m in omega (arith, r 0 (suc j) (omega arith) (omega arith), e)), s.1),
)

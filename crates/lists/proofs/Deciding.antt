-- What tests say: of numbers (`eqb_decides`, `ltb_decides`, `leb_decides`), joined (`and_decides`, `or_decides`, `not_decides`), over lists (`any_decides`, `all_decides`, `keep_decides`, `has_decides`); two tests of one
-- statement are alike (`alike`); what is true or not gives a test its answer (`says_yes`, `says_no`); and what is in a list made of another (`gather_in`,
-- `gather_out`, `map_in`, `map_out`, `map_same`) or of numbers (`range_in`, `range_out`).
use Prim.Native.Nat.{ℕ, zero, suc, ◌≤◌, ◌<◌, ◌+◌}
use mathlib.Core.Path.{◌≡◌, refl, ap, sym, subst}
use mathlib.Core.Bool.{Bool, true, false, ◌&&◌, ◌||◌, not, false≢true}
use mathlib.Core.Logic.{◌⊎◌, inl, inr, ⊎_elim, ◌↔◌}
use mathlib.Core.List.Memᴰ
use mathlib.Core.List.{List, [], ◌∷◌, map}
use lib.Dec.{T, eqb, eqb→eq, eqb_refl, ltb, ltb→lt, lt→ltb, leb, leb→le, le→leb}
use native.Mathlib.Omega.{arith}
use native.Mathlib.Nat.{eq-or-lt_of_le}
use borrow.Author.Tests.{not-false}
use Rattle.lists.specs.Tests.{Decides, ◌among◌, any, all, put, keep, gather, range}

-- a test that passes, and one that fails
pub so : {b : Bool} {A : Type 0} → Decides b A → A → b ≡ true
so d a = d.of a

pub not_so : {b : Bool} {A : Type 0} → Decides b A → ¬ A → b ≡ false
not_so {b} d n = go b (λ t. n (d.to t))
  where
    go : (b : Bool) → ¬ (b ≡ true) → b ≡ false
    go true t = absurd (t refl)
    go false t = refl

pub yes_decides : {A : Type 0} → Decides true A → A
yes_decides d = d.to refl

pub no_decides : {A : Type 0} → Decides false A → ¬ A
no_decides d a = false≢true (d.of a)

-- the answer of a test, from what is true or not
pub says_yes : {A : Type 0} → A → Decides true A
says_yes a = record { to = λ t. a; of = λ b. refl }

pub says_no : {A : Type 0} → ¬ A → Decides false A
says_no n = record { to = λ t. absurd (false≢true t); of = λ a. absurd (n a) }

pub dec_decides : {b : Bool} {A : Type 0} → Decides b A → Dec A
dec_decides {b} d = go b d
  where
    go : {A : Type 0} (b : Bool) → Decides b A → Dec A
    go true d = yes (yes_decides d)
    go false d = no (no_decides d)

-- tests of two statements that imply each other are one
pub alike : {a b : Bool} {A B : Type 0} → Decides a A → Decides b B → (A → B) → (B → A) → a ≡ b
alike {a} {b} {A} {B} d e f g = go a d
  where
    go : (a : Bool) → Decides a A → a ≡ b
    go true d = sym (so e (f (yes_decides d)))
    go false d = sym (not_so e (λ y. no_decides d (g y)))

pub T→true : (b : Bool) → T b → b ≡ true
T→true true t = refl
T→true false t = absurd t

pub true→T : (b : Bool) → b ≡ true → T b
true→T b e = subst T (sym e) tt

pub iff_decides : {b : Bool} {A B : Type 0} → (A → B) → (B → A) → Decides b A → Decides b B
iff_decides f g d = record { to = λ t. f (d.to t); of = λ x. d.of (g x) }

pub test_decides : (b : Bool) → Decides b (b ≡ true)
test_decides b = record { to = λ t. t; of = λ t. t }

pub eqb_decides : (m n : ℕ) → Decides (eqb m n) (m ≡ n)
eqb_decides m n = record { to = λ t. eqb→eq m n (true→T _ t); of = λ e. rw e (T→true (eqb n n) (eqb_refl n)) }

pub ltb_decides : (m n : ℕ) → Decides (ltb m n) (m < n)
ltb_decides m n = record { to = λ t. ltb→lt m n (true→T _ t); of = λ l. T→true _ (lt→ltb m n l) }

pub leb_decides : (m n : ℕ) → Decides (leb m n) (m ≤ n)
leb_decides m n = record { to = λ t. leb→le m n (true→T _ t); of = λ l. T→true _ (le→leb m n l) }

pub and_decides : {a b : Bool} {A B : Type 0} → Decides a A → Decides b B → Decides (a && b) (A × B)
and_decides {a} {b} {A} {B} d e = go a b d e
  where
    go : (a b : Bool) → Decides a A → Decides b B → Decides (a && b) (A × B)
    go true b d e = record { to = λ t. (yes_decides d, e.to t); of = λ p. e.of p.1 }
    go false b d e = record { to = λ t. absurd (false≢true t); of = λ p. d.of p.0 }

pub or_decides : {a b : Bool} {A B : Type 0} → Decides a A → Decides b B → Decides (a || b) (A ⊎ B)
or_decides {a} {b} {A} {B} d e = go a b d e
  where
    go : (a b : Bool) → Decides a A → Decides b B → Decides (a || b) (A ⊎ B)
    go true b d e = record { to = λ t. inl (yes_decides d); of = λ p. refl }
    go false b d e = record { to = λ t. inr (e.to t); of = ⊎_elim (λ x. absurd (no_decides d x)) e.of }

pub not_decides : {b : Bool} {A : Type 0} → Decides b A → Decides (not b) (¬ A)
not_decides {b} {A} d = go b d
  where
    go : (b : Bool) → Decides b A → Decides (not b) (¬ A)
    go true d = record { to = λ t. absurd (false≢true t); of = λ n. absurd (n (yes_decides d)) }
    go false d = record { to = λ t. no_decides d; of = λ n. refl }

-- what a test that is turned round says, as in `if !is_digit(b)`
pub denied : {b : Bool} {A : Type 0} → Decides b A → not b ≡ true → ¬ A
denied d e = (not_decides d).to e

pub granted : {b : Bool} {A : Type 0} → Decides b A → not b ≡ false → A
granted {b} d e = d.to (not-false b e)

module _ {A : Type 0} {f : A → Bool} {P : A → Type 0} (d : (x : A) → Decides (f x) (P x)) where
  pub any_decides : (l : List A) → Decides (any f l) ((x : A) × x among l × P x)
  any_decides [] = record { to = λ t. absurd (false≢true t); of = λ p. absurd (Memᴰ.not-nil p.1) }
  any_decides (x ∷ l) = iff_decides
      (⊎_elim (λ p. (x, Memᴰ.head refl, p)) (λ r. (r.0, Memᴰ.tail r.1, r.2)))
      (λ r. ⊎_elim (λ e. inl (subst P e r.2)) (λ m. inr (r.0, m, r.2)) (Memᴰ.cases_cons r.1)) (or_decides (d x) (any_decides l))

  pub all_decides : (l : List A) → Decides (all f l) ((x : A) → x among l → P x)
  all_decides [] = record { to = λ t x m. absurd (Memᴰ.not-nil m); of = λ h. refl }
  all_decides (x ∷ l) = iff_decides
      (λ p y m. ⊎_elim (λ e. subst P (sym e) p.0) (p.1 y) (Memᴰ.cases_cons m))
      (λ h. (h x (Memᴰ.head refl), λ y m. h y (Memᴰ.tail m))) (and_decides (d x) (all_decides l))

  pub keep_decides : (l : List A) (x : A) → x among keep f l ↔ (x among l × P x)
  keep_decides [] x = ((λ m. absurd (Memᴰ.not-nil m)), λ p. p.0)
  keep_decides (y ∷ l) x = go (f y) (d y) (keep_decides l x)
    where
      go : (b : Bool) → Decides b (P y) → x among keep f l ↔ (x among l × P x) → x among put b y (keep f l) ↔ (x among (y ∷ l) × P x)
      go true e i = (
        (λ m. ⊎_elim (λ q. (Memᴰ.head q, subst P (sym q) (yes_decides e))) (λ n. let r = i.0 n in (Memᴰ.tail r.0, r.1)) (Memᴰ.cases_cons m)),
        λ p. ⊎_elim Memᴰ.head (λ n. Memᴰ.tail (i.1 (n, p.1))) (Memᴰ.cases_cons p.0),
      )
      go false e i = (
        (λ m. let r = i.0 m in (Memᴰ.tail r.0, r.1)),
        λ p. ⊎_elim (λ q. absurd (no_decides e (subst P q p.1))) (λ n. i.1 (n, p.1)) (Memᴰ.cases_cons p.0),
      )

-- membership
pub has_decides : {A : Type 0} {eq : A → A → Bool} → ((x y : A) → Decides (eq x y) (x ≡ y)) → (x : A) (l : List A) → Decides (any (eq x) l) (x among l)
has_decides d x l = iff_decides (λ p. rw p.2 p.1) (λ m. (x, m, refl)) (any_decides (d x) l)

-- the elements that pass a test are no more than all
pub kept : {A : Type 0} (f : A → Bool) (l : List A) (x : A) → x among keep f l → x among l
kept f l x m = ((keep_decides (λ y. test_decides (f y)) l x).0 m).0

pub gather_in : {A B : Type 0} (f : A → List B) {x : A} {y : B} {l : List A} → x among l → y among f x → y among gather f l
gather_in f {y = y} (Memᴰ.head {x} {xs} e) m = Memᴰ.append_left _ (subst (λ z. y among f z) e m)
gather_in f (Memᴰ.tail {x} {xs} i) m = Memᴰ.append_right (f x) (gather_in f i m)

pub gather_out : {A B : Type 0} (f : A → List B) (y : B) (l : List A) → y among gather f l → (x : A) × x among l × y among f x
gather_out f y [] m = absurd (Memᴰ.not-nil m)
gather_out f y (x ∷ l) m = ⊎_elim (λ i. (x, Memᴰ.head refl, i)) (λ i. let r = gather_out f y l i in (r.0, Memᴰ.tail r.1, r.2)) (Memᴰ.append_cases (f x) m)

pub map_in : {A B : Type 0} (f : A → B) {x : A} {l : List A} → x among l → f x among map f l
map_in f (Memᴰ.head e) = Memᴰ.head (ap f e)
map_in f (Memᴰ.tail m) = Memᴰ.tail (map_in f m)

pub map_out : {A B : Type 0} (f : A → B) (y : B) (l : List A) → y among map f l → (x : A) × x among l × (y ≡ f x)
map_out f y [] m = absurd (Memᴰ.not-nil m)
map_out f y (x ∷ l) m = ⊎_elim (λ e. (x, Memᴰ.head refl, e)) (λ i. let r = map_out f y l i in (r.0, Memᴰ.tail r.1, r.2)) (Memᴰ.cases_cons m)

-- two functions that agree on the elements of a list
pub map_same : {A B : Type 0} (f g : A → B) (l : List A) → ((x : A) → x among l → f x ≡ g x) → map f l ≡ map g l
map_same f g [] h = refl
map_same f g (x ∷ l) h = let e = h x (Memᴰ.head refl) in let r = map_same f g l (λ y m. h y (Memᴰ.tail m)) in cc

pub range_in : (a n s : ℕ) → a ≤ s → s < a + n → s among range a n
range_in a zero s h k = absurd (omega arith)
range_in a (suc n) s h k = ⊎_elim (λ e. Memᴰ.head (sym e)) (λ l. Memᴰ.tail (range_in (suc a) n s l (omega arith))) (eq-or-lt_of_le h)

pub range_out : (a n s : ℕ) → s among range a n → (a ≤ s) × (s < a + n)
range_out a zero s m = absurd (Memᴰ.not-nil m)
range_out a (suc n) s m = ⊎_elim (λ e. (omega arith, omega arith)) (λ i. let r = range_out (suc a) n s i in (omega (arith, r.0), omega (arith, r.1))) (Memᴰ.cases_cons m)

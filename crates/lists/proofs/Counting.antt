-- Lists without repeats, and how long lists are.
use Prim.Native.Nat.{ℕ, zero, suc, ◌≤◌, ◌<◌, ◌*◌}
use mathlib.Core.Path.{◌≡◌, refl, ap, sym, ◌∙◌}
use mathlib.Core.Bool.{Bool, true, false}
use mathlib.Core.Logic.{◌⊎◌, inl, inr, ⊎_elim}
use mathlib.Core.List.Memᴰ
use mathlib.Core.List.{List, [], ◌∷◌, ◌++◌, map}
use lib.ListN.{length, length-append}
use native.Mathlib.Nat.{suc-mul}
use native.Mathlib.Omega.{arith}
use Rattle.lists.specs.Tests.{◌among◌, ◌part_of◌, Once, put, keep, gather, range}
use Rattle.lists.proofs.Deciding.{kept, map_out, range_out}

-- without an element that it has, a list is one shorter
cut_out : {A : Type 0} {x : A} {m : List A} → x among m → (n : List A) × (length m ≡ suc (length n)) × ((y : A) → y among m → (y ≡ x) ⊎ y among n)
cut_out (Memᴰ.head {x} {xs} e) = (xs, refl, λ y i. ⊎_elim (λ f. inl (f ∙ sym e)) inr (Memᴰ.cases_cons i))
cut_out (Memᴰ.tail {x} {xs} m) = let r = cut_out m in
    (x ∷ r.0, ap suc r.1, λ y i. ⊎_elim (λ f. inr (Memᴰ.head f)) (λ j. ⊎_elim inl (λ k. inr (Memᴰ.tail k)) (r.2 y j)) (Memᴰ.cases_cons i))

-- a list without repeats is no longer than a list that has all of it
pub once_length : {A : Type 0} (l m : List A) → Once l → l part_of m → length l ≤ length m
once_length [] m o h = omega arith
once_length (x ∷ l) m o h = let r = cut_out (h x (Memᴰ.head refl)) in
    omega (arith, r.1, once_length l r.0 o.1 (λ y i. ⊎_elim (λ e. absurd (o.0 (Memᴰ.cast (sym e) i))) (λ j. j) (r.2 y (h y (Memᴰ.tail i)))))

-- a list that has each number from 1 to n is as long at least
pub numbers_length : (n : ℕ) (l : List ℕ) → ((k : ℕ) → 1 ≤ k → k ≤ n → k among l) → n ≤ length l
numbers_length zero l h = omega arith
numbers_length (suc n) l h = let r = cut_out (h (suc n) (omega arith) (omega arith)) in
    omega (arith, r.1, numbers_length n r.0 (λ k a b. ⊎_elim (λ e. absurd (omega arith)) (λ j. j) (r.2 k (h k a (omega arith)))))

pub keep_once : {A : Type 0} (f : A → Bool) (l : List A) → Once l → Once (keep f l)
keep_once f [] s = tt
keep_once {A} f (x ∷ l) s = go (f x) (keep_once f l s.1)
  where
    go : (b : Bool) → Once (keep f l) → Once (put b x (keep f l))
    go true i = ((λ m. s.0 (kept f l x m)), i)
    go false i = i

put_length : {A : Type 0} (b : Bool) (x : A) (l : List A) → length (put b x l) ≤ suc (length l)
put_length true x l = omega arith
put_length false x l = omega arith

pub keep_length : {A : Type 0} (f : A → Bool) (l : List A) → length (keep f l) ≤ length l
keep_length f [] = omega arith
keep_length f (x ∷ l) = omega (arith, put_length (f x) x (keep f l), keep_length f l)

-- where g passes all that f passes, the two keep the same, or g keeps more
pub keep_grows : {A : Type 0} (f g : A → Bool) (l : List A) → ((x : A) → x among l → f x ≡ true → g x ≡ true) → (keep f l ≡ keep g l) ⊎ (length (keep f l) < length (keep g l))
keep_grows f g [] h = inl refl
keep_grows {A} f g (x ∷ l) h = go (f x) (g x) (h x (Memᴰ.head refl)) (keep_grows f g l (λ y m. h y (Memᴰ.tail m)))
  where
    go : (a b : Bool) → (a ≡ true → b ≡ true) → (keep f l ≡ keep g l) ⊎ (length (keep f l) < length (keep g l))
        → (put a x (keep f l) ≡ put b x (keep g l)) ⊎ (length (put a x (keep f l)) < length (put b x (keep g l)))
    go true true i (inl e) = inl (ap (λ (m : List A). x ∷ m) e)
    go true true i (inr n) = inr (omega arith)
    go false false i r = r
    go true false i r = let z : ◌≡◌ {A = ℕ} 0 1 = cc (i refl) in absurd (omega arith)
    go false true i (inl e) = inr (omega (arith, ap length e))
    go false true i (inr n) = inr (omega arith)

pub range_length : (a n : ℕ) → length (range a n) ≡ n
range_length a zero = refl
range_length a (suc n) = ap suc (range_length (suc a) n)

-- numbers that rise by one, and what a function that keeps apart makes of a list
pub range_once : (a n : ℕ) → Once (range a n)
range_once a zero = tt
range_once a (suc n) = ((λ m. omega (arith, (range_out (suc a) n a m).0)), range_once (suc a) n)

pub map_once : {A B : Type 0} (f : A → B) (l : List A) → ((x y : A) → f x ≡ f y → x ≡ y) → Once l → Once (map f l)
map_once f [] h o = tt
map_once f (x ∷ l) h o = ((λ m. let r = map_out f (f x) l m in o.0 (rw (h x r.0 r.2) r.1)), map_once f l h o.1)

-- two lists without repeats that share nothing
pub once_append : {A : Type 0} (l m : List A) → Once l → Once m → ((x : A) → x among l → ¬ (x among m)) → Once (l ++ m)
once_append [] m o p f = p
once_append (x ∷ l) m o p f = ((λ i. ⊎_elim o.0 (f x (Memᴰ.head refl)) (Memᴰ.append_cases l i)), once_append l m o.1 p (λ y i. f y (Memᴰ.tail i)))

-- lists of at most n each, one after another
pub gather_length : {A B : Type 0} (f : A → List B) (n : ℕ) (l : List A) → ((x : A) → x among l → length (f x) ≤ n) → length (gather f l) ≤ length l * n
gather_length f n [] h = omega arith
gather_length f n (x ∷ l) h = rw (length-append, suc-mul) (omega (arith, h x (Memᴰ.head refl), gather_length f n l (λ y m. h y (Memᴰ.tail m))))

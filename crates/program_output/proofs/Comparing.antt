-- Lists compared place by place.
use Prim.Native.Nat.{ℕ, zero, suc, ◌<◌}
use mathlib.Core.Path.{◌≡◌, refl, ap, sym, ◌∙◌}
use mathlib.Core.Bool.{true, false}
use mathlib.Core.List.{List, [], ◌∷◌}
use lib.ListN.{length, get_or, take}
use native.Mathlib.Omega.{arith}
use Rattle.lists.specs.Tests.{Decides}

-- what differs in a number taken of both is not the same
pub differ : (f : List ℕ → ℕ) (a b : List ℕ) → ¬ (f a ≡ f b) → Decides false (a ≡ b)
differ f a b h = record { to = λ e. let z : ◌≡◌ {A = ℕ} 0 1 = cc in absurd (omega arith); of = λ e. absurd (h (ap f e)) }

-- the same up to a place, and there
pub same_more : (a b : List ℕ) (i : ℕ) → i < length a → i < length b → take i a ≡ take i b → get_or a i 0 ≡ get_or b i 0 → take (suc i) a ≡ take (suc i) b
same_more [] b i h g e f = absurd (omega arith)
same_more (x ∷ a) [] i h g e f = absurd (omega arith)
same_more (x ∷ a) (y ∷ b) zero h g e f = ap (λ n. n ∷ []) f
same_more (x ∷ a) (y ∷ b) (suc i) h g e f =
    let i1 : x ≡ y = ap (λ (l : List ℕ). get_or l 0 0) e in
    let i2 : take i a ≡ take i b = ap (λ (l : List ℕ). rest l) e in
    let i3 : take (suc i) a ≡ take (suc i) b = same_more a b i (omega arith) (omega arith) i2 f in
    ap (λ n. n ∷ take (suc i) a) i1 ∙ ap (λ (l : List ℕ). y ∷ l) i3
  where
    rest : List ℕ → List ℕ
    rest [] = []
    rest (n ∷ l) = l

-- the same to the end of both
pub same_all : (a b : List ℕ) (i : ℕ) → i ≡ length a → i ≡ length b → take i a ≡ take i b → Decides true (a ≡ b)
same_all a b i h g e = record { to = λ k. whole a ∙ ap (λ n. take n a) (sym h) ∙ e ∙ ap (λ n. take n b) g ∙ sym (whole b); of = λ k. refl }
  where
    whole : (l : List ℕ) → l ≡ take (length l) l
    whole [] = refl
    whole (x ∷ l) = ap (λ (m : List ℕ). x ∷ m) (whole l)

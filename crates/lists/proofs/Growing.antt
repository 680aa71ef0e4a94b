-- A list that grows by the candidates that pass a test comes to rest within as many rounds as there are candidates.
use Prim.Native.Nat.{ℕ, zero, suc, ◌≤◌, ◌<◌}
use mathlib.Core.Path.{◌≡◌, refl, ap}
use mathlib.Core.Bool.{Bool, true, ◌||◌}
use mathlib.Core.Logic.{◌⊎◌, inl, inr, ⊎_elim, ◌↔◌}
use mathlib.Core.List.Memᴰ
use mathlib.Core.List.{List, [], ◌∷◌}
use lib.ListN.{length}
use native.Mathlib.Omega.{arith}
use Rattle.lists.specs.Tests.{Decides, ◌among◌, any}
use Rattle.lists.specs.Growing.{grow, grown}
use Rattle.lists.proofs.Deciding.{or_decides, has_decides, test_decides, keep_decides}
use Rattle.lists.proofs.Counting.{keep_length, keep_grows}

module _ {A : Type 0} {eq : A → A → Bool} (eq_decides : (x y : A) → Decides (eq x y) (x ≡ y)) (all : List A) (test : List A → A → Bool) where
  in_decides : (l : List A) (x : A) → Decides (any (eq x) l || test l x) (x among l ⊎ (test l x ≡ true))
  in_decides l x = or_decides (has_decides eq_decides x l) (test_decides (test l x))

  pub grow_iff : (l : List A) (x : A) → x among grow eq all test l ↔ (x among all × (x among l ⊎ (test l x ≡ true)))
  grow_iff l x = keep_decides (in_decides l) all x

  abbrev at : ℕ → List A
  at n = grown eq all test n

  pub grown_of : (n : ℕ) (x : A) → x among at n → x among all
  grown_of zero x m = absurd (Memᴰ.not-nil m)
  grown_of (suc n) x m = ((grow_iff (at n) x).0 m).0

  grows : (n : ℕ) → (at n ≡ at (suc n)) ⊎ (n < length (at (suc n)))
  grows zero = elim (at 1) as (λ (l : List A). ([] ≡ l) ⊎ (0 < length l)) [ [] ↦ inl refl | x ∷ l ↦ inr (omega arith) ]
  grows (suc n) = ⊎_elim (λ e. inl (ap (grow eq all test) e))
      (λ le. ⊎_elim inl (λ m. inr (omega arith)) (keep_grows _ _ all (λ x i t. (in_decides (at (suc n)) x).of (inl ((keep_decides (λ y. test_decides _) all x).1 (i, t))))))
      (grows n)

  size : (n : ℕ) → length (at n) ≤ length all
  size zero = omega arith
  size (suc n) = keep_length _ all

  -- at rest
  pub at_rest : at (length all) ≡ at (suc (length all))
  at_rest = ⊎_elim (λ e. e) (λ n. absurd (omega (arith, size (suc (length all))))) (grows (length all))

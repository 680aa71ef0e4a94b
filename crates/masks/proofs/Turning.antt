-- Edges turned round, one source at a time.
use Prim.Native.Nat.{ℕ, ◌+◌, ◌<◌, ◌≤◌}
use mathlib.Core.Path.{◌≡◌, refl, ap, sym, ◌∙◌}
use mathlib.Core.Bool.{Bool, false, ◌&&◌, ◌||◌, or-false, and-false, and-true}
use mathlib.Core.Logic.{⊎_elim}
use mathlib.Core.List.{List}
use native.Mathlib.Omega.{arith}
use native.Mathlib.Decide.{dec_lt}
use borrow.Author.Tests.{eq-eqb, ne_eqb, lt-ltb, le-ltb}
use lib.Dec.{eqb, ltb}
use lib.ListN.{get_or, replicate, get_or-replicate}
use Rattle.masks.specs.Mask.{member, ◌∈◌}
use Rattle.masks.specs.Graph.{Turned}
use Rattle.masks.proofs.Member.{member_none, true_or_false}

-- what a place of m holds once i is added, and that it then holds so at every place
module _ (old : List ℕ) (m i : ℕ) where
  abbrev pub WithSource : ℕ → ℕ → Type 0
  WithSource j x = (a : ℕ) → member a x ≡ (member a (get_or old j 0) || eqb a i)

  pub source_added : (new : List ℕ) → ((j : ℕ) → j ∈ m → WithSource j (get_or new j 0)) → ((j : ℕ) → member j m ≡ false → get_or new j 0 ≡ get_or old j 0)
      → (j a : ℕ) → member a (get_or new j 0) ≡ (member a (get_or old j 0) || (member j m && eqb a i))
  source_added new inside outside j a =
      ⊎_elim (λ h. inside j h a ∙ rw h) (λ h. ap (member a) (outside j h) ∙ rw (h, or-false)) (true_or_false (member j m))

pub turned_back : (succ back : List ℕ) → Turned succ back → Turned back succ
turned_back succ back f i j hi hj = sym (f j i hj hi)

module _ (succ : List ℕ) where
  -- the edges from the states below i are turned round
  abbrev pub Sources : List ℕ → ℕ → Type 0
  Sources back i = (j a : ℕ) → j < 64 → member a (get_or back j 0) ≡ (ltb a i && member j (get_or succ a 0))

  pub sources_none : (back : List ℕ) → ((j : ℕ) → j < 64 → get_or back j 0 ≡ 0) → Sources back 0
  sources_none back none j a h = ap (member a) (none j h) ∙ member_none a ∙ sym (ap (λ (b : Bool). b && member j (get_or succ a 0)) (le-ltb a 0 (omega arith)))

  pub sources_start : Sources (replicate 64 0) 0
  sources_start = sources_none (replicate 64 0) (λ j h. get_or-replicate 64 j 0 0 h)

  pub sources_more : (back new : List ℕ) (i : ℕ) → Sources back i → ((j a : ℕ) → j < 64 → member a (get_or new j 0) ≡ (member a (get_or back j 0) || (member j (get_or succ i 0) && eqb a i)))
      → Sources new (i + 1)
  sources_more back new i h g j a l = g j a l ∙ ap (λ (b : Bool). b || (member j (get_or succ i 0) && eqb a i)) (h j a l) ∙ by (dec_lt a i) (dec_lt i a)
    where
      by : Dec (a < i) → Dec (i < a) → ((ltb a i && member j (get_or succ a 0)) || (member j (get_or succ i 0) && eqb a i)) ≡ (ltb a (i + 1) && member j (get_or succ a 0))
      by (yes q) r = rw (lt-ltb a i q, ne_eqb a i (λ e. omega arith), lt-ltb a (i + 1) (omega arith), and-false, or-false)
      by (no q) (yes r) = rw (le-ltb a i (omega arith), ne_eqb a i (λ e. omega arith), le-ltb a (i + 1) (omega arith), and-false)
      by (no q) (no r) = let e : a ≡ i = omega arith in rw (e, le-ltb i i (omega arith), eq-eqb i i refl, lt-ltb i (i + 1) (omega arith), and-true)

  pub sources_end : (back : List ℕ) (i : ℕ) → Sources back i → 64 ≤ i → Turned succ back
  sources_end back i h g a j k l = h j a l ∙ ap (λ (b : Bool). b && member j (get_or succ a 0)) (lt-ltb a i (omega arith))

  -- the states from i on have no targets
  pub sources_some : (back : List ℕ) (i : ℕ) → Sources back i → ((a : ℕ) → i ≤ a → a < 64 → get_or succ a 0 ≡ 0) → Turned succ back
  sources_some back i h none a j k l = h j a l ∙ by (dec_lt a i)
    where
      by : Dec (a < i) → (ltb a i && member j (get_or succ a 0)) ≡ member j (get_or succ a 0)
      by (yes q) = ap (λ (b : Bool). b && member j (get_or succ a 0)) (lt-ltb a i q)
      by (no q) = ap (λ (b : Bool). b && member j (get_or succ a 0)) (le-ltb a i (omega arith)) ∙ sym (ap (member j) (none a (omega arith) k) ∙ member_none j)

-- The place of a set, found by halves among the sets of a graph (`finds_at`, `finds_none`).
use Prim.Native.Nat.{ℕ, ◌<◌}
use mathlib.Core.Path.{◌≡◌, ap}
use mathlib.Core.List.{List}
use mathlib.Core.Logic.{⊎_elim}
use native.Mathlib.Decide.{dec_lt}
use lib.ListN.{get_or}
use native.Mathlib.Omega.{arith}
use Rattle.std.specs.Prelude.{None, Some, Ok, Err}
use Rattle.masks.proofs.Member.{lt_or_le}
use Rattle.sorted_keys.specs.Keys.{SearchesWord}
use Rattle.expression.specs.Frames.{FindsSet}

module _ (sets : List ℕ) (n P : ℕ) where
  pub finds_at : (r : ℕ) → SearchesWord sets n P (Ok r) → FindsSet sets n P (Some r)
  finds_at r s up i h e = let f = s.finds up in ap Some (go f (dec_lt r i) (dec_lt i r))
    where
      go : (r < n) × (get_or sets r 0 ≡ P) → Dec (r < i) → Dec (i < r) → r ≡ i
      go f (yes g) d = absurd (omega (arith, up r i g h, f.1, e))
      go f (no g) (yes d) = absurd (omega (arith, up i r d f.0, f.1, e))
      go f (no g) (no d) = omega arith

  -- in a gap there is none
  pub finds_none : (j : ℕ) → SearchesWord sets n P (Err j) → FindsSet sets n P None
  finds_none j s up i h e = let f = s.finds up in
      absurd (⊎_elim (λ g. omega (arith, f.1 i g, e)) (λ g. omega (arith, f.2 i g h, e)) (lt_or_le i j))

-- Every graph has its turned one.
use Prim.Native.Nat.{ℕ, ◌<◌}
use mathlib.Core.Path.{refl, ◌∙◌, ap}
use mathlib.Core.Logic.{◌↔◌}
use mathlib.Core.List.{map}
use native.Mathlib.Omega.{arith}
use lib.ListN.{get_or}
use Rattle.std.specs.List.{range_with_len}
use Rattle.std.proofs.lemmas.List.FromFn.{get_or-map-range_with_len}
use Rattle.lists.proofs.Deciding.{alike, test_decides}
use Rattle.masks.specs.Mask.{member, ◌∈◌}
use Rattle.masks.proofs.Marking.{some_mask}
use Rattle.search.specs.Graph.{Graph, TurnedGraph}
use Rattle.candidates.proofs.Holding.{in?}

module _ (g : Graph) where
  -- the sources of the letter steps to a state
  sources : ℕ → ℕ
  sources j = (some_mask (λ i. j ∈ get_or g.letters i 0) (λ i. in? j (get_or g.letters i 0)) 64 (omega arith)).0

  is : (j i : ℕ) → (i ∈ sources j) ↔ ((i < 64) × (j ∈ get_or g.letters i 0))
  unfolding sources
  is j = (some_mask (λ i. j ∈ get_or g.letters i 0) (λ i. in? j (get_or g.letters i 0)) 64 (omega arith)).1

  pub turned_round : (back : Graph) × TurnedGraph g back
  turned_round = (
    record { letters = map sources (range_with_len 0 64); sets = g.sets; lefts = g.rights; rights = g.lefts },
    record {
      turned = λ i j small low. ap (member i) (get_or-map-range_with_len sources 0 64 j j 0 low (omega arith)) ∙ alike (test_decides _) (test_decides _) (λ h. ((is j i).0 h).1) (λ h. (is j i).1 (small, h));
      sets_are = λ i. refl;
      lefts_are = λ i. refl;
      rights_are = λ i. refl;
    },
  )

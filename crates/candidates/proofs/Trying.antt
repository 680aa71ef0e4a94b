-- What is found at the places that are tried, with the loops that are due, is what a round opens (`opens_tried`).
use Prim.Native.Nat.{ℕ, ◌<◌}
use mathlib.Core.Path.{◌≡◌}
use mathlib.Core.Bool.{not, ◌&&◌, ◌||◌}
use mathlib.Core.Logic.{⊎_elim, ◌↔◌}
use lib.ListN.{get_or}
use Rattle.masks.specs.Mask.{member, ◌∈◌}
use Rattle.masks.proofs.Member.{union_left, union_right, union_cases, difference_left, difference_not, difference_cases, intersection_left}
use Rattle.search.specs.declared.Claims.{Claims}
use Rattle.search.specs.Graph.{Graph, TurnedGraph}
use Rattle.lacks.specs.declared.Lacks.{Lacks}
use Rattle.lacks.specs.Lacks.{PiecedBelow}
use Rattle.lacks.proofs.Lacking.{lacking_joined, lacking_covered, lacking_joined_back, lacking_covered_back}
use Rattle.candidates.specs.Promises.{LoopsAt, MixesAt, PiecedAmong, FoundAmong, Awaited, OpensAwaited, InNone, Unstuck, Handed}
use Rattle.candidates.specs.declared.Trial.{Trial}
use Rattle.candidates.proofs.Finding.{mixes_pieced}
use Rattle.candidates.proofs.Turned.{turned_round}

-- the places below n with an entrance and an exit, among places below n
pub pieced_among : {g : Graph} {n : ℕ} (pieces places : ℕ) → PiecedBelow g n pieces → ((i : ℕ) → i ∈ places → i < n) → PiecedAmong g pieces places
pieced_among pieces places is low i h = ((λ k. ((is i).0 k).1), λ k. (is i).1 (low i h, k))

module _ {g : Graph} {t : Trial} {lacks : Lacks} (h : Handed g t lacks) (i : ℕ) (here : i ∈ t.places) where
  abbrev back : Graph
  back = (turned_round g).0

  turned : TurnedGraph g back
  turned = (turned_round g).1

  -- a set that loops has no state lacking
  loops_unstuck : LoopsAt g t.force i → InNone lacks.to i × InNone lacks.from i
  loops_unstuck x = (
    (λ q small k. lacking_joined (h.to_lacks i q here k) x.is_inner x.joined),
    λ q small k. lacking_joined_back turned (h.from_lacks back turned i q here k) x.is_inner x.joined,
  )

  -- nor has one that mixes
  mixes_unstuck : MixesAt g t.force i → i ∈ t.pieces → InNone lacks.to i × InNone lacks.from i
  mixes_unstuck x p = (
    (λ q small k. lacking_covered (h.to_lacks i q here k) x.is_inner p x.entrances x.exits
        (intersection_left (get_or g.lefts i 0) (get_or g.sets i 0) x.entrances x.are_entrances) x.covered),
    λ q small k. lacking_covered_back turned (h.from_lacks back turned i q here k) x.is_inner p x.entrances x.exits
        (intersection_left (get_or g.rights i 0) (get_or g.sets i 0) x.exits x.are_exits) x.covered,
  )

module _ {g : Graph} {t : Trial} {lacks : Lacks} (h : Handed g t lacks) {n : ℕ} (pieced : PiecedBelow g n t.pieces)
    (tried : ℕ) (is_tried : Unstuck t.places lacks tried) {found : Claims} (is_found : FoundAmong g t.force tried found)
    (due : ℕ) (is_due : (s : ℕ) → member s due ≡ (member s t.force.mixes && not (member s t.force.loops)))
    (r : ℕ) (is_r : (s : ℕ) → member s r ≡ (member s due || member s found.loops)) where
  loop_opens : Awaited g t.force n t.places → (i : ℕ) → (i ∈ r) ↔ ((i < n) × LoopsAt g t.force i × ¬ (i ∈ t.force.loops))
  loop_opens await i = (
    (λ k. ⊎_elim (λ x. let m = difference_left t.force.mixes t.force.loops due is_due i x in
        (await.paired.low i m, await.paired.due i m, difference_not t.force.mixes t.force.loops due is_due i x))
        (λ x. let y = (is_found.loop_iff i).0 x in let z = await.live i ((is_tried i).0 y.0).0 in (z.0, y.1, z.1)) (union_cases due found.loops r is_r i k)),
    λ (low, x, out). ⊎_elim (λ k. let u = loops_unstuck h i k x in union_right due found.loops r is_r i ((is_found.loop_iff i).1 ((is_tried i).1 (k, u.0, u.1), x)))
        (λ k. union_left due found.loops r is_r i (⊎_elim (λ o. absurd (out o)) (λ o. o) (difference_cases t.force.mixes t.force.loops due is_due i k)))
        (await.loop_at i low x out),
  )

  mix_opens : Awaited g t.force n t.places → (i : ℕ) → (i ∈ found.mixes) ↔ ((i < n) × MixesAt g t.force i × ¬ (i ∈ t.force.mixes))
  mix_opens await i = (
    (λ k. let y = (is_found.mix_iff i).0 k in let z = await.live i ((is_tried i).0 y.0).0 in (z.0, y.1, z.2)),
    λ (low, x, out). let k = await.mix_at i low x out in let u = mixes_unstuck h i k x ((pieced i).1 (low, mixes_pieced x)) in
        (is_found.mix_iff i).1 ((is_tried i).1 (k, u.0, u.1), x),
  )

  pub opens_tried : OpensAwaited g t.force n t.places (record { loops = r; mixes = found.mixes })
  opens_tried = record {
    opens = λ await. record { loop_iff = loop_opens await; mix_iff = mix_opens await };
    tested = λ i k out. ⊎_elim (λ x. absurd (out (difference_left t.force.mixes t.force.loops due is_due i x))) (λ x. ((is_found.loop_iff i).0 x).1) (union_cases due found.loops r is_r i k);
  }

-- What holds at places, gathered one after another (`found_from`, `found_more`, `found_end`).
use Prim.Native.Nat.{ℕ}
use mathlib.Core.Path.{◌≡◌}
use mathlib.Core.Bool.{◌||◌}
use Rattle.masks.specs.Mask.{member, TakesLowest}
use Rattle.masks.proofs.Gathering.{Gathered, Here, gather_from, gather_more, here_end}
use Rattle.search.specs.declared.Claims.{Claims}
use Rattle.search.specs.Graph.{Graph}
use Rattle.candidates.specs.Promises.{LoopsAt, MixesAt, FindsAt, PiecedAmong, FoundAmong}

-- of all places but the rest
pub record FoundSoFar (g : Graph) (force : Claims) (places rest loop mix : ℕ) : Type 0 where
  pub looping : Gathered (Here (LoopsAt g force)) places rest loop
  pub mixing : Gathered (Here (MixesAt g force)) places rest mix

module _ {g : Graph} {force : Claims} {places : ℕ} where
  pub found_from : {rest : ℕ} → rest ≡ places → FoundSoFar g force places rest 0 0
  found_from all = record { looping = gather_from all; mixing = gather_from all }

  pub found_more : {rest low rest' : ℕ} (pieces loop mix : ℕ) (new : Claims) (loop' mix' : ℕ) → TakesLowest rest low rest' → FoundSoFar g force places rest loop mix
      → PiecedAmong g pieces places → FindsAt g force (member low pieces) low new
      → ((t : ℕ) → member t loop' ≡ (member t loop || member t new.loops)) → ((t : ℕ) → member t mix' ≡ (member t mix || member t new.mixes))
      → FoundSoFar g force places rest' loop' mix'
  found_more {low = low} pieces loop mix new loop' mix' taken now pieced finds is_l is_m =
      let p = pieced low (now.looping.through.left low taken.is) in
      let here = finds (record { to = p.0; of = p.1 }) in
      record { looping = gather_more loop new.loops loop' taken now.looping here.0 is_l; mixing = gather_more mix new.mixes mix' taken now.mixing here.1 is_m }

  pub found_end : {rest loop mix : ℕ} → FoundSoFar g force places rest loop mix → rest ≡ 0 → FoundAmong g force places (record { loops = loop; mixes = mix })
  found_end now none = record { loop_iff = here_end (LoopsAt g force) now.looping none; mix_iff = here_end (MixesAt g force) now.mixing none }

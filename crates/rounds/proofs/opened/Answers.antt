-- `opened` meets its contract: what is lacking by letters alone, with the claims in force supplied; and all sets with no claim in force are tried.
use mathlib.Core.Path.{refl}
use Rattle.masks.proofs.Member.{member_none, in_none}
use Rattle.search.specs.Hops.{no_claims, WithNew}
use Rattle.search.specs.declared.Claims.{Claims}
use Rattle.candidates.proofs.Awaiting.{awaited_all}
use Rattle.candidates.proofs.Holding.{opens_below}
use Rattle.rounds.proofs.opened.Goals as goal

all_new : (force : Claims) → WithNew no_claims force force
all_new force = record { loops_are = λ t. rw (member_none t) refl; mixes_are = λ t. rw (member_none t) refl }

pub open_next-requires : goal.open_next-requires
open_next-requires c =
    let both = c.new-both.ensures in
    let force = c.args.force in
    let pieces = c.pieced-pieces.result in
    let places = c.live-places.result in
    let supplied = c.supply.ensures in
    let forward = rw both at (c.fill.ensures.forward.lacks c.none-lacks.ensures.to) in
    let filled = rw both at c.fill.ensures.backward in
    rw both (record {
      looping = λ i h. absurd (in_none i h);
      to_lacks = supplied.forward no_claims force pieces places (all_new force) (λ i h. h) (λ j h. absurd (in_none j h)) (forward places);
      from_lacks = λ back turned.
          supplied.backward back turned no_claims force pieces places (all_new force) (λ i h. h) (λ j h. absurd (in_none j h)) ((filled back turned).lacks c.none-lacks.ensures.from places);
    })

pub returns : goal.returns
returns c paired =
    let opens = rw c.new-both.ensures at c.open_next.ensures in
    opens_below ((opens _ (rw c.parts.ensures at c.pieced-pieces.ensures) (λ i h. ((c.live-places.ensures i).0 h).0)).opens (awaited_all c.live-places.result paired c.live-places.ensures))

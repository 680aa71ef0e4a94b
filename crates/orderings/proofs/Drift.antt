-- Document 01, "Where implementations drift": small tables on which each drift would show, computed from the
-- definitions, one law each (`two_rounds`, `whole_content`, `mix_outside`, `one_set`, `gaps`, `struck_steps`, `sizes_rise` and others).
use Prim.Native.Nat.{ℕ}
use mathlib.Core.Path.{◌≡◌, refl}
use mathlib.Core.Bool.{true, false}
use mathlib.Core.List.{List, [], ◌∷◌}
use native.Mathlib.Decide.{ℕ_discrete}
use Rattle.lists.specs.Growing.{grown}
use Rattle.masks.specs.Mask.{member}
use Rattle.rows.specs.declared.Row.{Row}
use Rattle.rows.specs.declared.Row.TheVariants.{Initial, Final, Successor, LeftLimit, RightLimit, Strike}
use Rattle.rows.specs.Rows.{standing_sets, same_row}
use Rattle.orderings.specs.Steps.{Claim, loops, mixes, members}
use Rattle.orderings.specs.Decide.{same_claim, claims, reach, holds?, accepts?}
use Rattle.orderings.specs.Rising.{finds?, found, rising?}

-- the claims that are open after k rounds; `opened_iff` says that they are
abbrev opened : List Row → ℕ → List Claim
opened rows k = grown same_claim (claims rows) (holds? rows) k

-- openings of one round don't help each other: {0,1} waits for {0}
pub two_rounds : (opened (Successor 0 7 0 ∷ Successor 1 7 0 ∷ LeftLimit 1 1 ∷ LeftLimit 3 2 ∷ []) 1 ≡ loops 1 ∷ [])
    × (opened (Successor 0 7 0 ∷ Successor 1 7 0 ∷ LeftLimit 1 1 ∷ LeftLimit 3 2 ∷ []) 2 ≡ loops 1 ∷ loops 3 ∷ [])
unfolding ℕ_discrete member standing_sets same_row members reach holds?
two_rounds = (refl, refl)

-- a step's content is more than its ends: the omega step of {0,2} is not inside {0,1}
pub whole_content : opened (Successor 0 7 2 ∷ Successor 2 7 0 ∷ Successor 1 7 0 ∷ LeftLimit 5 1 ∷ LeftLimit 3 3 ∷ []) 3 ≡ loops 5 ∷ []
unfolding ℕ_discrete member standing_sets same_row members reach holds?
whole_content = refl

-- and so for back steps and for mix steps
pub whole_back : opened (Successor 0 7 2 ∷ Successor 2 7 0 ∷ Successor 0 7 1 ∷ RightLimit 1 5 ∷ RightLimit 3 3 ∷ []) 3 ≡ loops 5 ∷ []
unfolding ℕ_discrete member standing_sets same_row members reach holds?
whole_back = refl

pub whole_mix : opened (Successor 2 7 2 ∷ RightLimit 2 4 ∷ LeftLimit 4 2 ∷ RightLimit 0 4 ∷ LeftLimit 4 1 ∷ Successor 1 7 0 ∷ LeftLimit 3 3 ∷ []) 3 ≡ loops 4 ∷ mixes 4 ∷ []
unfolding ℕ_discrete member standing_sets same_row members reach holds?
whole_mix = refl

-- a walk of no steps closes no set of one state
pub one_step_or_more : (opened (LeftLimit 1 1 ∷ []) 1 ≡ []) × (opened (RightLimit 0 1 ∷ LeftLimit 1 0 ∷ LeftLimit 1 1 ∷ []) 1 ≡ [])
unfolding ℕ_discrete member standing_sets same_row members reach holds?
one_step_or_more = (refl, refl)

-- a state that an entrance reaches but that reaches no exit, and one that reaches an exit but no entrance reaches
pub on_a_piece : (opened (LeftLimit 7 0 ∷ RightLimit 1 7 ∷ Successor 0 7 1 ∷ Successor 0 7 2 ∷ []) 1 ≡ [])
    × (opened (LeftLimit 7 0 ∷ RightLimit 1 7 ∷ Successor 0 7 1 ∷ Successor 2 7 1 ∷ []) 1 ≡ [])
    × (opened (LeftLimit 7 0 ∷ RightLimit 1 7 ∷ Successor 0 7 2 ∷ Successor 2 7 1 ∷ []) 1 ≡ mixes 7 ∷ [])
unfolding ℕ_discrete member standing_sets same_row members reach holds?
on_a_piece = (refl, refl, refl)

-- the ends of a mix step may lie outside the set
pub mix_outside : accepts? (Initial 0 ∷ Final 2 ∷ RightLimit 0 2 ∷ LeftLimit 2 2 ∷ []) (mixes 2 ∷ []) ≡ true
unfolding ℕ_discrete member standing_sets same_row members reach accepts?
mix_outside = refl

-- a letter step's content is its two states
pub letters_inside : (opened (Successor 0 7 1 ∷ Successor 1 7 0 ∷ LeftLimit 1 2 ∷ []) 1 ≡ []) × (opened (Successor 0 7 1 ∷ Successor 1 7 0 ∷ LeftLimit 3 2 ∷ []) 1 ≡ loops 3 ∷ [])
unfolding ℕ_discrete member standing_sets same_row members reach holds?
letters_inside = (refl, refl)

-- a step's content has its ends: no walk inside a set goes through a state outside it, between two mix steps, an omega or mix step and a letter
-- step, and a letter step and a back or mix step
pub ends_inside : (opened (Successor 2 7 2 ∷ Successor 3 7 3 ∷ Successor 1 7 0 ∷ RightLimit 2 4 ∷ LeftLimit 4 2 ∷ RightLimit 0 4 ∷ LeftLimit 4 5 ∷ RightLimit 5 8 ∷ LeftLimit 8 3 ∷ RightLimit 3 8 ∷ LeftLimit 8 1 ∷ LeftLimit 15 6 ∷ []) 3
    ≡ loops 4 ∷ mixes 4 ∷ loops 8 ∷ mixes 8 ∷ [])
    × (opened (Successor 2 7 2 ∷ Successor 1 7 2 ∷ Successor 5 7 1 ∷ LeftLimit 4 5 ∷ LeftLimit 6 3 ∷ []) 3 ≡ loops 4 ∷ [])
    × (opened (Successor 2 7 2 ∷ Successor 1 7 2 ∷ Successor 5 7 1 ∷ LeftLimit 4 5 ∷ LeftLimit 4 2 ∷ RightLimit 2 4 ∷ LeftLimit 6 3 ∷ []) 3 ≡ loops 4 ∷ mixes 4 ∷ [])
    × (opened (Successor 2 7 2 ∷ Successor 2 7 1 ∷ Successor 1 7 5 ∷ RightLimit 5 4 ∷ RightLimit 3 6 ∷ []) 3 ≡ loops 4 ∷ [])
    × (opened (Successor 2 7 2 ∷ Successor 2 7 1 ∷ Successor 1 7 5 ∷ RightLimit 5 4 ∷ LeftLimit 4 2 ∷ RightLimit 2 4 ∷ RightLimit 3 6 ∷ []) 3 ≡ loops 4 ∷ mixes 4 ∷ [])
unfolding ℕ_discrete member standing_sets same_row members reach holds?
ends_inside = (refl, refl, refl, refl, refl)

-- and between an omega or mix step of {0} and a back or mix step of {1}
pub limit_state_inside : (opened (Successor 0 7 0 ∷ Successor 1 7 1 ∷ Successor 1 7 0 ∷ LeftLimit 1 5 ∷ RightLimit 5 2 ∷ LeftLimit 3 7 ∷ []) 3 ≡ loops 1 ∷ loops 2 ∷ [])
    × (opened (Successor 0 7 0 ∷ Successor 1 7 1 ∷ Successor 1 7 0 ∷ LeftLimit 1 0 ∷ RightLimit 0 1 ∷ LeftLimit 2 1 ∷ RightLimit 1 2 ∷ LeftLimit 1 5 ∷ RightLimit 5 2 ∷ LeftLimit 3 7 ∷ []) 3
    ≡ loops 1 ∷ mixes 1 ∷ loops 2 ∷ mixes 2 ∷ [])
unfolding ℕ_discrete member standing_sets same_row members reach holds?
limit_state_inside = (refl, refl)

-- a content has no more: with 5 in the set the same steps are inside it
pub content_enough : opened (Successor 0 7 0 ∷ Successor 1 7 1 ∷ Successor 1 7 0 ∷ LeftLimit 1 5 ∷ RightLimit 5 2 ∷ LeftLimit 35 7 ∷ []) 2 ≡ loops 1 ∷ loops 2 ∷ loops 35 ∷ []
unfolding ℕ_discrete member standing_sets same_row members reach holds?
content_enough = refl

-- a set loops from any of its states to any
pub any_to_any : opened (Successor 0 7 0 ∷ Successor 1 7 1 ∷ LeftLimit 3 2 ∷ []) 1 ≡ []
unfolding ℕ_discrete member standing_sets same_row members reach holds?
any_to_any = refl

-- not from one to the others only, nor one way only; and not from some state to itself only
pub both_ways : (opened (Successor 0 7 0 ∷ Successor 0 7 1 ∷ Successor 1 7 1 ∷ LeftLimit 3 2 ∷ []) 1 ≡ [])
    × (opened (Successor 0 7 0 ∷ Successor 1 7 0 ∷ Successor 1 7 1 ∷ LeftLimit 3 2 ∷ []) 1 ≡ [])
    × (opened (Successor 0 7 1 ∷ Successor 1 7 0 ∷ LeftLimit 3 2 ∷ []) 1 ≡ loops 3 ∷ [])
unfolding ℕ_discrete member standing_sets same_row members reach holds?
both_ways = (refl, refl, refl)

-- each state of a set that mixes may lie on a piece of its own
pub some_piece_each : opened (Successor 0 7 0 ∷ Successor 1 7 1 ∷ LeftLimit 3 0 ∷ LeftLimit 3 1 ∷ RightLimit 0 3 ∷ RightLimit 1 3 ∷ []) 1 ≡ mixes 3 ∷ []
unfolding ℕ_discrete member standing_sets same_row members reach holds?
some_piece_each = refl

-- request C-16: a state of the set with both rows, P → s and s → P, lies on a piece of no steps; with one of them alone, or with the other of
-- another set, it lies on none
pub gaps : (opened (Successor 0 7 0 ∷ LeftLimit 5 0 ∷ RightLimit 0 5 ∷ LeftLimit 5 2 ∷ RightLimit 2 5 ∷ []) 1 ≡ mixes 5 ∷ [])
    × (opened (Successor 0 7 0 ∷ LeftLimit 5 0 ∷ RightLimit 0 5 ∷ LeftLimit 5 2 ∷ []) 1 ≡ [])
    × (opened (Successor 0 7 0 ∷ LeftLimit 5 0 ∷ RightLimit 0 5 ∷ RightLimit 2 5 ∷ []) 1 ≡ [])
    × (opened (Successor 0 7 0 ∷ LeftLimit 5 0 ∷ RightLimit 0 5 ∷ LeftLimit 5 2 ∷ RightLimit 2 6 ∷ []) 1 ≡ [])
    × (opened (Successor 0 7 0 ∷ LeftLimit 5 0 ∷ RightLimit 0 5 ∷ LeftLimit 6 2 ∷ RightLimit 2 5 ∷ []) 1 ≡ [])
unfolding ℕ_discrete member standing_sets same_row members reach holds?
gaps = (refl, refl, refl, refl, refl)

-- a set may have several, and once it mixes its mix steps lead to them and from them
pub gaps_joined : (opened (Successor 0 7 0 ∷ LeftLimit 7 0 ∷ RightLimit 0 7 ∷ LeftLimit 7 1 ∷ RightLimit 1 7 ∷ LeftLimit 7 2 ∷ RightLimit 2 7 ∷ []) 1 ≡ mixes 7 ∷ [])
    × (opened (Successor 0 7 0 ∷ LeftLimit 7 0 ∷ RightLimit 0 7 ∷ LeftLimit 7 1 ∷ RightLimit 1 7 ∷ LeftLimit 7 2 ∷ RightLimit 2 7 ∷ []) 2 ≡ loops 7 ∷ mixes 7 ∷ [])
unfolding ℕ_discrete member standing_sets same_row members reach holds?
gaps_joined = (refl, refl)

-- gaps alone do not mix, and a walk that leaves the set is no piece; one letter step between them is
pub gaps_alone : (opened (LeftLimit 3 0 ∷ RightLimit 0 3 ∷ LeftLimit 3 1 ∷ RightLimit 1 3 ∷ []) 1 ≡ [])
    × (opened (LeftLimit 3 0 ∷ RightLimit 0 3 ∷ LeftLimit 3 1 ∷ RightLimit 1 3 ∷ Successor 0 7 2 ∷ Successor 2 7 1 ∷ []) 1 ≡ [])
    × (opened (LeftLimit 3 0 ∷ RightLimit 0 3 ∷ LeftLimit 3 1 ∷ RightLimit 1 3 ∷ Successor 0 7 1 ∷ []) 1 ≡ mixes 3 ∷ [])
unfolding ℕ_discrete member standing_sets same_row members reach holds?
gaps_alone = (refl, refl, refl)

-- a state outside the set with both rows is no gap of it: it covers no state of the set, is no piece, with or without a step, and needs none
pub gap_outside : (opened (Successor 0 7 0 ∷ LeftLimit 3 0 ∷ RightLimit 0 3 ∷ LeftLimit 3 2 ∷ RightLimit 2 3 ∷ []) 1 ≡ [])
    × (opened (Successor 0 7 0 ∷ LeftLimit 1 2 ∷ RightLimit 2 1 ∷ []) 1 ≡ loops 1 ∷ [])
    × (opened (LeftLimit 1 0 ∷ RightLimit 0 1 ∷ LeftLimit 1 2 ∷ RightLimit 2 1 ∷ []) 1 ≡ [])
    × (opened (Successor 0 7 0 ∷ LeftLimit 1 0 ∷ RightLimit 0 1 ∷ LeftLimit 1 2 ∷ RightLimit 2 1 ∷ []) 1 ≡ loops 1 ∷ mixes 1 ∷ [])
unfolding ℕ_discrete member standing_sets same_row members reach holds?
gap_outside = (refl, refl, refl, refl)

-- beside a gap the piece with a step may have to wait for a claim: 0 leads to 1 once {0} loops
pub gap_waits : (opened (Successor 0 7 0 ∷ LeftLimit 1 1 ∷ LeftLimit 7 0 ∷ RightLimit 1 7 ∷ LeftLimit 7 2 ∷ RightLimit 2 7 ∷ []) 1 ≡ loops 1 ∷ [])
    × (opened (Successor 0 7 0 ∷ LeftLimit 1 1 ∷ LeftLimit 7 0 ∷ RightLimit 1 7 ∷ LeftLimit 7 2 ∷ RightLimit 2 7 ∷ []) 2 ≡ loops 1 ∷ mixes 7 ∷ [])
unfolding ℕ_discrete member standing_sets same_row members reach holds?
gap_waits = (refl, refl)

-- request C-18: a step exists if no state of its content is struck, whatever other states are, and wherever the rows stand that strike them
pub struck_steps : (accepts? (Initial 0 ∷ Final 2 ∷ Successor 0 7 1 ∷ Successor 1 7 2 ∷ Strike 1 ∷ []) [] ≡ false)
    × (accepts? (Initial 0 ∷ Final 2 ∷ Successor 0 7 1 ∷ Successor 1 7 2 ∷ Strike 1 ∷ Strike 3 ∷ []) [] ≡ false)
    × (accepts? (Strike 3 ∷ Strike 1 ∷ Initial 0 ∷ Final 2 ∷ Successor 0 7 1 ∷ Successor 1 7 2 ∷ []) [] ≡ false)
    × (accepts? (Initial 0 ∷ Final 2 ∷ Successor 0 7 1 ∷ Successor 1 7 2 ∷ Strike 3 ∷ []) [] ≡ true)
    × (accepts? (Initial 0 ∷ Final 2 ∷ LeftLimit 3 2 ∷ Strike 1 ∷ []) (loops 3 ∷ []) ≡ false)
    × (accepts? (Initial 0 ∷ Final 2 ∷ LeftLimit 3 2 ∷ Strike 3 ∷ []) (loops 3 ∷ []) ≡ true)
    × (accepts? (Initial 2 ∷ Final 0 ∷ RightLimit 2 3 ∷ Strike 1 ∷ []) (loops 3 ∷ []) ≡ false)
    × (accepts? (Initial 2 ∷ Final 0 ∷ RightLimit 2 3 ∷ Strike 3 ∷ []) (loops 3 ∷ []) ≡ true)
    × (accepts? (Initial 2 ∷ Final 4 ∷ RightLimit 2 3 ∷ LeftLimit 3 4 ∷ Strike 1 ∷ []) (mixes 3 ∷ []) ≡ false)
    × (accepts? (Initial 2 ∷ Final 4 ∷ RightLimit 2 3 ∷ LeftLimit 3 4 ∷ Strike 3 ∷ []) (mixes 3 ∷ []) ≡ true)
unfolding ℕ_discrete member standing_sets same_row members reach accepts?
struck_steps = (refl, refl, refl, refl, refl, refl, refl, refl, refl, refl)

-- both ends of a step are in its content: a piece of one step, by a letter, from 0 to 1
pub struck_ends : (opened (Successor 0 7 1 ∷ LeftLimit 3 0 ∷ RightLimit 1 3 ∷ []) 1 ≡ mixes 3 ∷ [])
    × (opened (Successor 0 7 1 ∷ LeftLimit 3 0 ∷ RightLimit 1 3 ∷ Strike 0 ∷ []) 1 ≡ [])
    × (opened (Successor 0 7 1 ∷ LeftLimit 3 0 ∷ RightLimit 1 3 ∷ Strike 1 ∷ []) 1 ≡ [])
unfolding ℕ_discrete member standing_sets same_row members reach holds?
struck_ends = (refl, refl, refl)

-- and by a set: to the end of an omega step, from the start of a back step, between both of a mix step
pub struck_limits : (opened (Successor 0 7 0 ∷ LeftLimit 1 1 ∷ LeftLimit 3 0 ∷ RightLimit 1 3 ∷ []) 2 ≡ loops 1 ∷ mixes 3 ∷ [])
    × (opened (Successor 0 7 0 ∷ LeftLimit 1 1 ∷ LeftLimit 3 0 ∷ RightLimit 1 3 ∷ Strike 1 ∷ []) 2 ≡ loops 1 ∷ [])
    × (opened (Successor 1 7 1 ∷ RightLimit 0 2 ∷ LeftLimit 3 0 ∷ RightLimit 1 3 ∷ []) 2 ≡ loops 2 ∷ mixes 3 ∷ [])
    × (opened (Successor 1 7 1 ∷ RightLimit 0 2 ∷ LeftLimit 3 0 ∷ RightLimit 1 3 ∷ Strike 0 ∷ []) 2 ≡ loops 2 ∷ [])
    × (opened (Successor 2 7 2 ∷ RightLimit 2 4 ∷ LeftLimit 4 2 ∷ RightLimit 0 4 ∷ LeftLimit 4 1 ∷ LeftLimit 7 0 ∷ RightLimit 1 7 ∷ []) 2 ≡ loops 4 ∷ mixes 4 ∷ mixes 7 ∷ [])
    × (opened (Successor 2 7 2 ∷ RightLimit 2 4 ∷ LeftLimit 4 2 ∷ RightLimit 0 4 ∷ LeftLimit 4 1 ∷ LeftLimit 7 0 ∷ RightLimit 1 7 ∷ Strike 0 ∷ []) 2 ≡ loops 4 ∷ mixes 4 ∷ [])
    × (opened (Successor 2 7 2 ∷ RightLimit 2 4 ∷ LeftLimit 4 2 ∷ RightLimit 0 4 ∷ LeftLimit 4 1 ∷ LeftLimit 7 0 ∷ RightLimit 1 7 ∷ Strike 1 ∷ []) 2 ≡ loops 4 ∷ mixes 4 ∷ [])
unfolding ℕ_discrete member standing_sets same_row members reach holds?
struck_limits = (refl, refl, refl, refl, refl, refl, refl)

-- nor is there a walk of no steps at a struck state: no gap
pub struck_gap : (opened (Successor 0 7 0 ∷ LeftLimit 5 0 ∷ RightLimit 0 5 ∷ LeftLimit 5 2 ∷ RightLimit 2 5 ∷ Strike 2 ∷ []) 1 ≡ [])
    × (opened (Successor 0 7 0 ∷ LeftLimit 5 0 ∷ RightLimit 0 5 ∷ LeftLimit 5 2 ∷ RightLimit 2 5 ∷ Strike 1 ∷ []) 1 ≡ mixes 5 ∷ [])
unfolding ℕ_discrete member standing_sets same_row members reach holds?
struck_gap = (refl, refl)

-- and no empty word
pub struck_word : (accepts? (Initial 0 ∷ Final 0 ∷ Strike 0 ∷ []) [] ≡ false)
    × (accepts? (Initial 0 ∷ Final 0 ∷ Strike 1 ∷ []) [] ≡ true)
unfolding ℕ_discrete member standing_sets same_row members reach accepts?
struck_word = (refl, refl)

-- striking deletes no row: a set whose rows all lead to struck states, or from them, opens and is listed; one that has a struck state does not
pub struck_sets : (opened (Successor 0 7 0 ∷ LeftLimit 1 1 ∷ Strike 1 ∷ []) 2 ≡ loops 1 ∷ [])
    × (opened (Successor 0 7 0 ∷ RightLimit 1 1 ∷ Strike 1 ∷ []) 2 ≡ loops 1 ∷ [])
    × (opened (Successor 0 7 0 ∷ LeftLimit 1 1 ∷ Strike 0 ∷ []) 1 ≡ [])
    × (opened (Successor 0 7 0 ∷ Successor 0 7 1 ∷ Successor 1 7 0 ∷ LeftLimit 3 2 ∷ Strike 1 ∷ []) 1 ≡ [])
    × (opened (Successor 63 7 63 ∷ LeftLimit 9223372036854775808 0 ∷ Strike 63 ∷ []) 1 ≡ [])
unfolding ℕ_discrete member standing_sets same_row members reach holds?
struck_sets = (refl, refl, refl, refl, refl)

-- entrances and exits are states of the set
pub ends_of_the_set : opened (Successor 5 7 0 ∷ Successor 0 7 0 ∷ LeftLimit 1 5 ∷ RightLimit 0 1 ∷ []) 1 ≡ loops 1 ∷ []
unfolding ℕ_discrete member standing_sets same_row members reach holds?
ends_of_the_set = refl

-- the two rows of a mix step are of one set
pub one_set : accepts? (Initial 0 ∷ Final 2 ∷ RightLimit 0 1 ∷ LeftLimit 2 2 ∷ []) (mixes 2 ∷ []) ≡ false
unfolding ℕ_discrete member standing_sets same_row members reach accepts?
one_set = refl

-- omega steps start in any state of the set and back steps end in any, and in no other; what they lead to or from may be in it too
pub any_of_the_set : (accepts? (Initial 1 ∷ Final 0 ∷ LeftLimit 3 0 ∷ []) (loops 3 ∷ []) ≡ true)
    × (accepts? (Initial 0 ∷ Final 2 ∷ RightLimit 0 7 ∷ []) (loops 7 ∷ []) ≡ true)
    × (accepts? (Initial 1 ∷ Final 2 ∷ RightLimit 1 6 ∷ LeftLimit 6 2 ∷ []) (mixes 6 ∷ []) ≡ true)
    × (accepts? (Initial 2 ∷ Final 3 ∷ LeftLimit 3 3 ∷ []) (loops 3 ∷ []) ≡ false)
    × (accepts? (Initial 3 ∷ Final 2 ∷ RightLimit 3 3 ∷ []) (loops 3 ∷ []) ≡ false)
unfolding ℕ_discrete member standing_sets same_row members reach accepts?
any_of_the_set = (refl, refl, refl, refl, refl)

-- omega and back steps need that the set loops, mix steps that it mixes
pub claims_needed : (accepts? (Initial 0 ∷ Final 2 ∷ LeftLimit 3 2 ∷ []) (mixes 3 ∷ []) ≡ false)
    × (accepts? (Initial 2 ∷ Final 0 ∷ RightLimit 2 3 ∷ []) (mixes 3 ∷ []) ≡ false)
    × (accepts? (Initial 2 ∷ Final 3 ∷ RightLimit 2 3 ∷ LeftLimit 3 3 ∷ []) [] ≡ false)
    × (accepts? (Initial 2 ∷ Final 3 ∷ RightLimit 2 3 ∷ LeftLimit 3 3 ∷ []) (mixes 3 ∷ []) ≡ true)
unfolding ℕ_discrete member standing_sets same_row members reach accepts?
claims_needed = (refl, refl, refl, refl)

-- zero steps suffice where a state is initial and final; else a walk goes from the initial to the final state
pub from_initial_to_final : (accepts? (Initial 0 ∷ Final 0 ∷ []) [] ≡ true)
    × (accepts? (Initial 0 ∷ Final 1 ∷ []) [] ≡ false)
    × (accepts? (Initial 0 ∷ Final 1 ∷ Successor 0 7 1 ∷ []) [] ≡ true)
    × (accepts? (Initial 0 ∷ Final 1 ∷ Successor 1 7 0 ∷ []) [] ≡ false)
unfolding ℕ_discrete member standing_sets same_row members reach accepts?
from_initial_to_final = (refl, refl, refl, refl)

-- one initial and one final state are enough, whatever the others are
pub one_of_each : (accepts? (Initial 0 ∷ Initial 5 ∷ Final 1 ∷ Final 6 ∷ Successor 0 7 1 ∷ []) [] ≡ true)
    × (accepts? (Initial 5 ∷ Initial 0 ∷ Final 6 ∷ Final 1 ∷ Successor 0 7 1 ∷ []) [] ≡ true)
    × (accepts? (Initial 5 ∷ Final 1 ∷ Successor 0 7 1 ∷ []) [] ≡ false)
unfolding ℕ_discrete member standing_sets same_row members reach accepts?
one_of_each = (refl, refl, refl)

-- state 63 is a state as any other
pub state_63 : (opened (Successor 63 7 63 ∷ LeftLimit 9223372036854775808 0 ∷ []) 1 ≡ loops 9223372036854775808 ∷ [])
    × (opened (Successor 0 7 0 ∷ LeftLimit 9223372036854775809 1 ∷ []) 1 ≡ [])
unfolding ℕ_discrete member standing_sets same_row members reach holds?
state_63 = (refl, refl)

-- request C-22: {2} before {0,1}, whose number is lower; a set is visited when all smaller ones are, and once
abbrev three_sets : List Row
three_sets = Successor 0 7 1 ∷ Successor 1 7 0 ∷ Successor 2 7 2 ∷ LeftLimit 3 2 ∷ LeftLimit 4 1 ∷ LeftLimit 7 3 ∷ []

pub sizes_rise : (found three_sets 1 ≡ [])
    × (found three_sets 2 ≡ loops 4 ∷ [])
    × (found three_sets 3 ≡ loops 4 ∷ loops 3 ∷ [])
    × (found three_sets 4 ≡ loops 4 ∷ loops 3 ∷ loops 7 ∷ [])
    × (found three_sets 6 ≡ loops 4 ∷ loops 3 ∷ loops 7 ∷ [])
unfolding ℕ_discrete member standing_sets same_row members reach holds? finds? found
sizes_rise = (refl, refl, refl, refl, refl)

-- a set that mixes also loops, by its own mix step; one that loops and has no exit does not mix
pub mixes_also_loop : (found (Successor 0 7 1 ∷ LeftLimit 3 0 ∷ RightLimit 1 3 ∷ []) 3 ≡ loops 3 ∷ mixes 3 ∷ [])
    × (found (Successor 0 7 1 ∷ Successor 1 7 0 ∷ LeftLimit 3 0 ∷ []) 3 ≡ loops 3 ∷ [])
unfolding ℕ_discrete member standing_sets same_row members reach holds? finds? found
mixes_also_loop = (refl, refl)

-- the verdict looks at the claims of all sets, and at those found alone
pub risen : (rising? (Initial 0 ∷ Final 2 ∷ Successor 0 7 0 ∷ Successor 1 7 0 ∷ LeftLimit 1 1 ∷ LeftLimit 3 2 ∷ []) ≡ true)
    × (rising? (Initial 0 ∷ Final 2 ∷ Successor 0 7 0 ∷ LeftLimit 1 1 ∷ LeftLimit 3 2 ∷ []) ≡ false)
unfolding ℕ_discrete member standing_sets same_row members reach holds? accepts? finds? found rising?
risen = (refl, refl)

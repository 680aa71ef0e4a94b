-- At the place of a set stands the round of its claim (`round_there`), so places whose rounds are those of claims in force are theirs (`forced_by`).
use Prim.Native.Nat.{ℕ, zero, suc, ◌<◌, ◌≤◌, ◌+◌, ◌-◌}
use mathlib.Core.Path.{◌≡◌, refl, ap, sym, ◌∙◌, subst}
use mathlib.Core.Logic.{◌↔◌}
use mathlib.Core.List.{List, [], ◌∷◌, ◌++◌, map}
use lib.ListN.{length, get_or, take, replicate, length-replicate, replicate-append-replicate}
use native.Mathlib.Omega.{arith}
use Rattle.lists.proofs.Places.{held_at}
use Rattle.masks.specs.Mask.{◌∈◌}
use Rattle.masks.proofs.Marking.{Marked}
use Rattle.rows.specs.declared.Row.{Row}
use Rattle.rows.specs.Rows.{SetOf, standing_sets}
use Rattle.orderings.specs.Steps.{Claim, loops, mixes, set_of}
use Rattle.orderings.specs.Rounds.{Opens}
use Rattle.orderings.specs.Timelines.{timelines}
use Rattle.machine.specs.Machine.{Machine, open_with}
use Rattle.machine.specs.Expression.{round_of}
use Rattle.row_table.specs.Arrays.{padded}
use Rattle.search.specs.declared.Claims.{Claims}
use Rattle.search.specs.Graph.{Graph}
use Rattle.search.specs.Masked.{Forced}
use Rattle.row_table.proofs.Sets.{padded_at, padded_map}
use Rattle.rounds.specs.Arrays.{rounds_of}

-- ---- the claims that are open

-- a claim that a round opens is about a set of a standing row, and the round is not 0
pub subject : (rows : List Row) (k : ℕ) (c : Claim) → Opens (timelines rows) k c → (0 < k) × SetOf rows (set_of c)
subject rows zero c o = absurd o
subject rows (suc k) c o = (omega arith, o.0.0)

-- the set at a place
abbrev pub set_at : Machine → ℕ → ℕ
set_at m i = get_or (padded 64 0 (standing_sets m.rows)) i 0

-- at the place of a set stands the round of its claim
pub round_at : (m : Machine) (claim : ℕ → Claim) (i : ℕ) → i < length (standing_sets m.rows) → get_or (rounds_of m claim) i 0 ≡ round_of m.openings (claim (set_at m i))
round_at m claim i h = padded_map (λ P. round_of m.openings (claim P)) 64 (standing_sets m.rows) i h

-- of whatever array holds the sets
pub round_there : (m : Machine) (sets : List ℕ) (n : ℕ) → take n sets ≡ standing_sets m.rows → n ≡ length (standing_sets m.rows)
    → (claim : ℕ → Claim) (i : ℕ) → i < n → get_or (rounds_of m claim) i 0 ≡ round_of m.openings (claim (get_or sets i 0))
round_there m sets n held count claim i h =
    let h' : i < length (standing_sets m.rows) = omega (arith, count) in
    round_at m claim i h'
    ∙ ap (λ P. round_of m.openings (claim P)) (padded_at 64 (standing_sets m.rows) i h' ∙ sym (held_at n sets (standing_sets m.rows) held i 0 h))

-- the places below n whose rounds are as Q says are those of the claims in force, where Q says so of the rounds of these
pub forced_by : (m : Machine) (g : Graph) (n : ℕ) → take n g.sets ≡ standing_sets m.rows → n ≡ length (standing_sets m.rows)
    → (Q : ℕ → Type 0) (In : Claim → Type 0) → ((c : Claim) → Q (round_of m.openings c) ↔ In c)
    → (force : Claims) → Marked (λ i. Q (get_or (rounds_of m loops) i 0)) force.loops n → Marked (λ i. Q (get_or (rounds_of m mixes) i 0)) force.mixes n → Forced In g n force
forced_by m g n held count Q In iff force f h = record { loop_iff = place loops force.loops f; mix_iff = place mixes force.mixes h }
  where
    place : (claim : ℕ → Claim) (mask : ℕ) → Marked (λ i. Q (get_or (rounds_of m claim) i 0)) mask n → (i : ℕ) → (i ∈ mask) ↔ ((i < n) × In (claim (get_or g.sets i 0)))
    place claim mask k i = let c = claim (get_or g.sets i 0) in (
      (λ j. let p = (k i).0 j in (p.0, (iff c).0 (subst Q (round_there m g.sets n held count claim i p.0) p.1))),
      λ p. (k i).1 (p.0, subst Q (sym (round_there m g.sets n held count claim i p.0)) ((iff c).1 p.1)),
    )

-- ---- no openings

map_zero : (l : List ℕ) → map {B = ℕ} (λ P. 0) l ≡ replicate (length l) 0
map_zero [] = refl
map_zero (x ∷ l) = ap (λ (k : List ℕ). 0 ∷ k) (map_zero l)

zeros : (l : List ℕ) → length l ≤ 64 → padded {A = ℕ} 64 0 (map (λ P. 0) l) ≡ replicate 64 0
zeros l h =
    let e : length l + (64 - length l) ≡ 64 = omega arith in
    ap (λ (k : List ℕ). padded 64 0 k) (map_zero l)
    ∙ ap (λ (n : ℕ). replicate (length l) 0 ++ replicate (64 - n) 0) (length-replicate (length l) 0)
    ∙ replicate-append-replicate (length l) (64 - length l) 0
    ∙ ap (λ (n : ℕ). replicate n 0) e

-- no set of an open machine has a round
pub no_rounds : (rows : List Row) (claim : ℕ → Claim) → length (standing_sets rows) ≤ 64 → rounds_of (open_with rows) claim ≡ replicate 64 0
no_rounds rows claim h = zeros (standing_sets rows) h

-- The rounds of the claims after a round: what it opens has its number, the others keep theirs.
use Prim.Native.Nat.{ℕ, ◌+◌, ◌-◌, ◌<◌, ◌≤◌}
use mathlib.Core.Path.{◌≡◌, refl, ap, sym, ◌∙◌}
use mathlib.Core.Bool.{Bool, true, false, cond}
use mathlib.Core.Logic.{⊎_elim, ◌↔◌}
use mathlib.Core.List.Memᴰ
use mathlib.Core.List.{List, [], ◌∷◌, ◌++◌, map}
use lib.ListN.{length, get_or, replicate, length-map, length-append, length-replicate, get_or-replicate}
use lib.Seq.{ext_get_or, get_or-append-add}
use native.Mathlib.Omega.{arith}
use Rattle.lists.specs.Tests.{Decides, ◌among◌}
use Rattle.lists.proofs.Deciding.{yes_decides, no_decides}
use Rattle.masks.specs.Mask.{member, ◌∈◌}
use Rattle.masks.proofs.Member.{lt_or_le, true_or_false, not_both}
use Rattle.rows.specs.Rows.{standing_sets}
use Rattle.orderings.specs.Steps.{Claim}
use Rattle.orderings.specs.Decide.{same_claim}
use Rattle.orderings.proofs.Deciding.{same_claim_decides}
use Rattle.machine.specs.Machine.{Opening, Machine, open_claims, openings_of, with_openings}
use Rattle.machine.specs.Expression.{round_of}
use Rattle.row_table.specs.Arrays.{padded}
use Rattle.rounds.specs.Arrays.{rounds_of, Notes}
use Rattle.rounds.proofs.OpenClaims.{set_at, round_at}

-- a claim that the new round does not open
round_old : (c : Claim) (k : ℕ) (l : List Opening) (new : List Claim) → ¬ (c among new) → round_of (l ++ openings_of k new) c ≡ round_of l c
round_old c k [] [] n = refl
round_old c k [] (d ∷ new) n = go (same_claim c d) (same_claim_decides c d) (round_old c k [] new (λ i. n (Memᴰ.tail i)))
  where
    go : (b : Bool) → Decides b (c ≡ d) → round_of (openings_of k new) c ≡ 0 → cond b k (round_of (openings_of k new) c) ≡ 0
    go true e h = absurd (n (Memᴰ.head (yes_decides e)))
    go false e h = h
round_old c k (o ∷ l) new n = ap (λ (r : ℕ). cond (same_claim c o.claim) o.round r) (round_old c k l new n)

-- one that it opens
round_new : (c : Claim) (k : ℕ) (l : List Opening) (new : List Claim) → c among new → ¬ (c among map (λ (o : Opening). o.claim) l) → round_of (l ++ openings_of k new) c ≡ k
round_new c k [] [] i n = absurd (Memᴰ.not-nil i)
round_new c k [] (d ∷ new) i n = go (same_claim c d) (same_claim_decides c d) (λ j. round_new c k [] new j n)
  where
    go : (b : Bool) → Decides b (c ≡ d) → (c among new → round_of (openings_of k new) c ≡ k) → cond b k (round_of (openings_of k new) c) ≡ k
    go true e h = refl
    go false e h = h (⊎_elim (λ f. absurd (no_decides e f)) (λ j. j) (Memᴰ.cases_cons i))
round_new c k (o ∷ l) new i n = go (same_claim c o.claim) (same_claim_decides c o.claim) (round_new c k l new i (λ j. n (Memᴰ.tail j)))
  where
    go : (b : Bool) → Decides b (c ≡ o.claim) → round_of (l ++ openings_of k new) c ≡ k → cond b o.round (round_of (l ++ openings_of k new) c) ≡ k
    go true e h = absurd (n (Memᴰ.head (yes_decides e)))
    go false e h = h

-- what an array holds from the length of the list on that it is filled up from
filled_past : (l : List ℕ) (i : ℕ) → length l ≤ i → i < 64 → get_or (padded 64 0 l) i 0 ≡ 0
filled_past l i h g =
    let e : length l + (i - length l) ≡ i = omega arith in
    ap (λ (j : ℕ). get_or (padded 64 0 l) j 0) (sym e) ∙ get_or-append-add l (replicate (64 - length l) 0) (i - length l) 0
    ∙ get_or-replicate (64 - length l) (i - length l) 0 0 (omega arith)

module _ (m : Machine) (few : length (standing_sets m.rows) ≤ 64) (claim : ℕ → Claim) where
  pub rounds_length : length (rounds_of m claim) ≡ 64
  rounds_length = simp (length-append, length-replicate, length-map) (omega arith)

  -- there is no set from their count on
  pub rounds_past : (i : ℕ) → length (standing_sets m.rows) ≤ i → i < 64 → get_or (rounds_of m claim) i 0 ≡ 0
  rounds_past i h g = let f : ℕ → ℕ = λ P. round_of m.openings (claim P) in filled_past (map f (standing_sets m.rows)) i (omega (arith, length-map (standing_sets m.rows) f)) g

-- the array with the places noted that the round opens is that of the machine with the new openings
module _ (m : Machine) (few : length (standing_sets m.rows) ≤ 64) (claim : ℕ → Claim) (k opened : ℕ) (new : List Claim) (vain : Bool)
    (is : (i : ℕ) → (i ∈ opened) ↔ ((i < length (standing_sets m.rows)) × claim (set_at m i) among new))
    (apart : (c : Claim) → c among new → ¬ (c among open_claims m)) where
  abbrev then : Machine
  then = with_openings m (m.openings ++ openings_of k new) vain

  place_is : (i : ℕ) → i < 64 → cond (member i opened) k (get_or (rounds_of m claim) i 0) ≡ get_or (rounds_of then claim) i 0
  place_is i h = ⊎_elim
      (λ e. let p = (is i).0 e in
      ap (λ (b : Bool). cond b k (get_or (rounds_of m claim) i 0)) e
      ∙ sym (round_at then claim i p.0 ∙ round_new (claim (set_at m i)) k m.openings new p.1 (apart (claim (set_at m i)) p.1)))
      (λ e. ap (λ (b : Bool). cond b k (get_or (rounds_of m claim) i 0)) e
      ∙ ⊎_elim
      (λ l. round_at m claim i l ∙ sym (round_at then claim i l ∙ round_old (claim (set_at m i)) k m.openings new (λ j. not_both ((is i).1 (l, j)) e)))
      (λ l. rounds_past m few claim i l h ∙ sym (rounds_past then few claim i l h)) (lt_or_le i (length (standing_sets m.rows))))
      (true_or_false (member i opened))

  pub noted : (r : List ℕ) → Notes (rounds_of m claim) opened k r → r ≡ rounds_of then claim
  noted r h = let e = rounds_length m few claim in ext_get_or 0 r (rounds_of then claim) (h.length_is ∙ e ∙ sym (rounds_length then few claim))
      (λ i l. let g : i < 64 = omega (arith, h.length_is, e) in h.rounds_are e i g ∙ place_is i g)

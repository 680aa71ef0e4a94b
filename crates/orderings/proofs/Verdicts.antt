-- The numbers of a verdict, in any system: the least depth of a walk from an initial to a final state, and the
-- greatest least depth of a claim: main laws `nonempty_iff`, `least_accepted`, `greatest_least_depth`.
use Prim.Native.Nat.{ℕ, zero, suc, ◌≤◌, ◌<◌}
use mathlib.Core.Path.{◌≡◌, subst}
use mathlib.Core.Logic.{◌⊎◌, inl, inr, ⊎_elim, ◌↔◌}
use mathlib.Core.List.{List}
use native.Mathlib.Omega.{arith}
use native.Mathlib.Decide.{dec_lt}
use Rattle.orderings.specs.Systems.{System, walk_depth, Derivation, depth, Valid, Derivable, LeastDepth, GreatestLeast, Accepts, LeastAccepted, AcceptedIn}
use Rattle.orderings.specs.Rounds.{OpenBy, Opens, AcceptedBy}
use Rattle.orderings.proofs.Walks.{allowed_more}
use Rattle.orderings.proofs.Depths.{Lawful, open_le, sound, open_iff_depth, opens_iff_least, accepted_iff_depth, fixpoint, derivable_iff_open}

module _ (S : System) where
  -- after k rounds some walk leads from an initial to a final state
  abbrev pub Reached : ℕ → Type 0
  Reached k = (w : List S.Step) × AcceptedBy S k w

  -- round suc k opens nothing
  abbrev pub Vain : ℕ → Type 0
  Vain k = (c : S.Claim) → OpenBy S (suc k) c → OpenBy S k c

  -- round k opened something, or k is 0
  abbrev pub Opened : ℕ → Type 0
  Opened k = (k ≡ 0) ⊎ ((c : S.Claim) × Opens S k c)

  -- a claim has one least depth
  pub least_depth_unique : (c : S.Claim) (j k : ℕ) → LeastDepth S c j → LeastDepth S c k → j ≡ k
  least_depth_unique c j k a b = omega (arith, a.1 b.0.0 b.0.1 b.0.2, b.0.3, b.1 a.0.0 a.0.1 a.0.2, a.0.3)

  -- the walks from an initial to a final state have one
  pub least_accepted_unique : (j k : ℕ) → LeastAccepted S j → LeastAccepted S k → j ≡ k
  least_accepted_unique j k a b =
      omega (arith, a.1 b.0.0 b.0.1 b.0.2.0 b.0.2.1, b.0.2.2, b.1 a.0.0 a.0.1 a.0.2.0 a.0.2.1, a.0.2.2)

  -- and there is one greatest
  pub greatest_least_unique : (g h : ℕ) → GreatestLeast S g → GreatestLeast S h → g ≡ h
  greatest_least_unique g h a b = omega (arith, no_more g h a b, no_more h g b a)
    where
      no_more : (g h : ℕ) → GreatestLeast S g → GreatestLeast S h → g ≤ h
      no_more g h a b = ⊎_elim (λ p. b.0 p.0 g p.1) (λ z. omega (arith, z.0)) a.1

  module _ (law : Lawful S) where
    pub opens_open : (j k : ℕ) (c : S.Claim) → j ≤ k → Opens S j c → OpenBy S k c
    unfolding OpenBy
    opens_open zero k c le o = absurd o
    opens_open (suc j) k c le o = open_le S law (suc j) k c le (inr o.0)

    pub reached_later : (j k : ℕ) → j ≤ k → Reached j → Reached k
    reached_later j k le r = (r.0, (r.1.0, allowed_more S (λ c. open_le S law j k c le) r.0 r.1.1))

    -- after a round that opens nothing no later one helps
    pub reached_stop : (k : ℕ) → Vain k → (j : ℕ) → Reached j → Reached k
    reached_stop k v j r = (r.0, (r.1.0, allowed_more S (fixpoint S law k v j) r.0 r.1.1))

    -- some derivation gives a walk from an initial to a final state: some number of rounds does
    pub nonempty_iff : Accepts S ↔ ((k : ℕ) × Reached k)
    nonempty_iff = (
      (λ n. let k = walk_depth S (depth S n.0) n.2.0 in (k, (n.2.0, (accepted_iff_depth S law k n.2.0).1 (n.0, n.1, n.2.1, omega arith)))),
      λ r. let d = (accepted_iff_depth S law r.0 r.1.0).0 r.1.1 in (d.0, d.1, (r.1.0, d.2)),
    )

    -- the first round after which such a walk is there is the least depth of one
    pub least_accepted : (k : ℕ) → Reached k → ((j : ℕ) → j < k → ¬ Reached j) → LeastAccepted S k
    least_accepted k r first = let d = (accepted_iff_depth S law k r.0).0 r.1 in
        ((d.0, d.1, (r.0, d.2, omega (arith, d.3, above d.0 d.1 r.0 d.2))), above)
      where
        above : (D : Derivation S) → Valid S D → (w : List S.Step) → AcceptedIn S D w → k ≤ walk_depth S (depth S D) w
        above D v w a = let n = walk_depth S (depth S D) w in
            elim (dec_lt n k) [ yes l ↦ absurd (first n l (w, (accepted_iff_depth S law n w).1 (D, v, a, omega arith))) | no m ↦ omega arith ]

    -- where round suc g opens nothing and round g did, g is the greatest least depth
    pub greatest_least_depth : (g : ℕ) → Vain g → Opened g → GreatestLeast S g
    unfolding OpenBy
    greatest_least_depth g v o = (
      (λ c k l. let d = (open_iff_depth S law g c).0 (fixpoint S law g v k c (opens_open k k c (omega arith) ((opens_iff_least S law k c).1 l))) in omega (arith, l.1 d.0 d.1 d.2, d.3)),
      ⊎_elim (λ z. inr (z, λ c h. subst (λ n. OpenBy S n c) z ((derivable_iff_open S law g v c).0 h))) (λ p. inl (p.0, (opens_iff_least S law g p.0).0 p.1)) o,
    )

    -- each derivable claim has a least depth
    pub least_depth : ((k : ℕ) (c : S.Claim) → Dec (OpenBy S k c)) → (c : S.Claim) → Derivable S c → (k : ℕ) × LeastDepth S c k
    unfolding OpenBy
    least_depth dec c d = let n = depth S d.0 c in first n (sound S law d.0 d.1 c d.2)
      where
        first : (k : ℕ) → OpenBy S k c → (k : ℕ) × LeastDepth S c k
        first zero o = absurd o
        first (suc k) o = elim (dec k c) [ yes p ↦ first k p | no n ↦ (suc k, (opens_iff_least S law (suc k) c).0 (⊎_elim (λ p. absurd (n p)) (λ h. (h, n)) o)) ]

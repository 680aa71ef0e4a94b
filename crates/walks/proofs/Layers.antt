-- Layers of states by their distance, one layer after another: main laws `laying_start`, `laying_more`, `laying_met`, `laying_end`;
-- `laying_grows` bounds their number.
use Prim.Native.Nat.{ℕ, zero, suc, ◌+◌, ◌-◌, ◌^◌, ◌≤◌, ◌<◌}
use mathlib.Core.Path.{◌≡◌, sym, subst, ◌∙◌}
use mathlib.Core.Bool.{not, ◌&&◌, ◌||◌}
use mathlib.Core.Logic.{◌⊎◌, inl, inr, ⊎_elim}
use mathlib.Core.List.{List}
use native.Mathlib.Omega.{arith}
use lib.Count.{ones, ones-le}
use lib.Dec.{lit<}
use lib.ListN.{get_or}
use Rattle.masks.specs.Mask.{member, ◌∈◌}
use Rattle.masks.proofs.Count.{ones_grows}
use Rattle.masks.proofs.Member.{lt_or_le, true_or_false, not_both, member_lt, in_none, intersection_left, intersection_right, intersection_both, union_left, union_right, union_cases, difference_left, difference_not, difference_cases, none}
use Rattle.search.specs.Hops.{Onward, all_mask}
use Rattle.search.proofs.Accepting.{has_all}
use Rattle.std.specs.Prelude.{None}
use Rattle.walks.specs.Layers.{Layered, Unmet, LaidFrom, Lays}

-- below the next number: below this one, or this one
upto : (j k : ℕ) → j < suc k → (j < k) ⊎ (j ≡ k)
upto j k h = ⊎_elim inl (λ g. inr (omega arith)) (lt_or_le j k)

-- the layers 0 to k, whose states are `seen`, and no step from one of the starts to those before the last
pub record Laying (E : ℕ → ℕ → Type 0) (starts ends : ℕ) (layers : List ℕ) (k seen : ℕ) : Type 0 where
  pub is : Layered E ends layers k
  pub unmet : Unmet E starts layers k
  pub seen_in : (s : ℕ) → s ∈ seen → (i : ℕ) × (i ≤ k) × (s ∈ get_or layers i 0)
  pub in_seen : (i s : ℕ) → i ≤ k → s ∈ get_or layers i 0 → s ∈ seen

pub laying_start : {E : ℕ → ℕ → Type 0} {starts ends : ℕ} (layers : List ℕ) → get_or layers 0 0 ≡ ends → Laying E starts ends layers 0 ends
laying_start layers e = record {
  is = record {
    base = e;
    sound = λ j s h. absurd (omega arith);
    closed = λ j s t h. absurd (omega arith);
    apart = λ i j s h g m l. omega arith;
  };
  unmet = λ j s t h. absurd (omega arith);
  seen_in = λ s h. (0, omega arith, subst (λ (x : ℕ). s ∈ x) (sym e) h);
  in_seen = λ i s h m. let z : i ≡ 0 = omega arith in subst (λ (x : ℕ). s ∈ x) e (subst (λ (x : ℕ). s ∈ get_or layers x 0) z m);
}

-- a pass finds the states `near` that have a step to the last layer, and those of the starts among them
module _ {E : ℕ → ℕ → Type 0} {starts ends : ℕ} (layers : List ℕ) (k seen near met : ℕ) (now : Laying E starts ends layers k seen)
    (is_near : Onward (λ t s. E s t) (get_or layers k 0) near) (is_met : (t : ℕ) → member t met ≡ (member t near && member t starts)) where
  in_near : (s t : ℕ) → E s t → t ∈ get_or layers k 0 → s ∈ near
  in_near s t e m = (is_near s).1 (t, m, e)

  in_met : (s t : ℕ) → s ∈ starts → E s t → t ∈ get_or layers k 0 → s ∈ met
  in_met s t h e m = intersection_both near starts met is_met s (in_near s t e m) h

  -- what has a step to a state that was seen is not found before something is seen
  pub near_seen : (s : ℕ) → s ∈ near → (t : ℕ) × (t ∈ seen)
  near_seen s h = let r = (is_near s).0 h in (r.0, now.in_seen k r.0 (omega arith) r.1)

  pub met_near : (s : ℕ) → s ∈ met → s ∈ near
  met_near = intersection_left near starts met is_met

  -- a start that was seen is an end, since a step leads down from every other state that was
  seen_end : (s : ℕ) → s ∈ starts → s ∈ seen → s ∈ ends
  seen_end s h m = let r = now.seen_in s m in by r.0 r.1 r.2
    where
      by : (i : ℕ) → i ≤ k → s ∈ get_or layers i 0 → s ∈ ends
      by zero l n = subst (λ (x : ℕ). s ∈ x) now.is.base n
      by (suc j) l n = let d = now.is.sound j s l n in absurd (now.unmet j s d.0 l h d.1 d.2)

  -- a state that was not seen is one more than those that were
  unseen_few : (s : ℕ) → s < 64 → seen < 2 ^ 64 → (s ∈ seen → ⊥) → ones seen < 64
  unseen_few s h fits n =
      let g : ones seen < ones all_mask = ones_grows seen all_mask fits (lit< tt) (λ t m. has_all t (member_lt t seen m))
      (λ e. n (subst (λ (x : ℕ). s ∈ x) (sym e) (has_all s h))) in
      omega (arith, ones-le 64 all_mask (lit< tt))

  -- the lowest of the starts that have a step to the last layer
  pub laying_met : (start : ℕ) → start ∈ met → ((s : ℕ) → s ∈ met → start ≤ s) → seen < 2 ^ 64 → k < ones seen → LaidFrom E starts ends layers start (k + 1)
  laying_met start h low fits count =
      let z : (k + 1) - 1 ≡ k = omega arith in
      let m = intersection_right near starts met is_met start h in
      let r = (is_near start).0 (met_near start h) in
      record {
        some = omega arith;
        few = omega (arith, ones-le 64 seen fits);
        fewer = ⊎_elim (λ e. inl (seen_end start m e)) (λ e. inr (omega (arith, unseen_few start (member_lt start met h) fits (λ g. not_both g e))))
            (true_or_false (member start seen));
        is = rw z now.is;
        begins = m;
        into = rw z (r.0, r.2, r.1);
        unmet = rw z now.unmet;
        lowest = rw z (λ s t g e n. low s (in_met s t g e n));
      }

  -- there are none, and the states `next` are those that are in no layer
  module _ (none_met : met ≡ 0) (next : ℕ) (is_next : (t : ℕ) → member t next ≡ (member t near && not (member t seen))) where
    unmet_to : Unmet E starts layers (suc k)
    unmet_to j s t h g e m = ⊎_elim (λ l. now.unmet j s t l g e m)
        (λ q. in_none s (subst (λ (x : ℕ). s ∈ x) none_met (in_met s t g e (subst (λ (x : ℕ). t ∈ get_or layers x 0) q m)))) (upto j k h)

    -- a step to a layer starts in a layer, or is new
    entered : (j s t : ℕ) → j < suc k → E s t → t ∈ get_or layers j 0 → ((i : ℕ) × (i ≤ suc j) × (i ≤ k) × (s ∈ get_or layers i 0)) ⊎ ((j ≡ k) × (s ∈ next))
    entered j s t h e m = ⊎_elim
        (λ l. let r = now.is.closed j s t l e m in inl (r.0, r.1, omega (arith, r.1), r.2))
        (λ q. ⊎_elim
        (λ g. let r = now.seen_in s g in inl (r.0, omega (arith, r.1), r.1, r.2))
        (λ g. inr (q, g))
        (difference_cases near seen next is_next s ((is_near s).1 (t, subst (λ (x : ℕ). t ∈ get_or layers x 0) q m, e))))
        (upto j k h)

    -- where there is none, no step enters what is seen
    pub laying_end : (all : List ℕ) → next ≡ 0 → Lays E starts ends all None
    laying_end all z = (
      seen,
      (λ s h. now.in_seen 0 s (omega arith) (subst (λ (x : ℕ). s ∈ x) (sym now.is.base) h)),
      (λ s t e h. let r = now.seen_in t h in ⊎_elim
          (λ g. now.in_seen g.0 s g.2 g.3)
          (λ g. absurd (in_none s (subst (λ (x : ℕ). s ∈ x) z g.1)))
          (entered r.0 s t (omega (arith, r.1)) e r.2)),
      λ s t g e h. let r = now.seen_in t h in unmet_to r.0 s t (omega (arith, r.1)) g e r.2,
    )

    module _ (sum : ℕ) (is_sum : (t : ℕ) → member t sum ≡ (member t seen || member t next)) where
      -- each pass that finds something adds a state
      pub laying_grows : seen < 2 ^ 64 → next < 2 ^ 64 → sum < 2 ^ 64 → (next ≡ 0 → ⊥) → ones seen < ones sum
      laying_grows hf hn hs n =
          ones_grows seen sum hf hs (union_left seen next sum is_sum)
          (λ e. n (none next hn (λ t h. difference_not near seen next is_next t h
          (subst (λ (x : ℕ). t ∈ x) (sym e) (union_right seen next sum is_sum t h)))))

      -- one layer more
      module _ (layers' : List ℕ) (here : get_or layers' (suc k) 0 ≡ next) (rest : (j : ℕ) → j ≤ k → get_or layers' j 0 ≡ get_or layers j 0) where
        old : (j s : ℕ) → j ≤ k → s ∈ get_or layers' j 0 → s ∈ get_or layers j 0
        old j s h = subst (λ (x : ℕ). s ∈ x) (rest j h)

        keep : (j s : ℕ) → j ≤ k → s ∈ get_or layers j 0 → s ∈ get_or layers' j 0
        keep j s h = subst (λ (x : ℕ). s ∈ x) (sym (rest j h))

        new : (j s : ℕ) → j ≡ suc k → s ∈ get_or layers' j 0 → s ∈ next
        new j s e m = subst (λ (x : ℕ). s ∈ x) here (subst (λ (i : ℕ). s ∈ get_or layers' i 0) e m)

        -- no new state is in a layer before
        fresh : (j s : ℕ) → j ≤ k → s ∈ next → s ∈ get_or layers' j 0 → ⊥
        fresh j s h n m = difference_not near seen next is_next s n (now.in_seen j s h (old j s h m))

        sides : (j : ℕ) → j ≤ suc k → (j ≤ k) ⊎ (j ≡ suc k)
        sides j h = ⊎_elim (λ g. inl (omega arith)) inr (upto j (suc k) (omega arith))

        pub laying_more : Laying E starts ends layers' (suc k) sum
        laying_more = record {
          is = record { base = rest 0 (omega arith) ∙ now.is.base; sound = sound; closed = closed; apart = apart };
          unmet = λ j s t h g e m. unmet_to j s t h g e (old j t (omega arith) m);
          seen_in = λ s h. ⊎_elim
              (λ g. let r = now.seen_in s g in (r.0, omega (arith, r.1), keep r.0 s r.1 r.2))
              (λ g. (suc k, omega arith, subst (λ (x : ℕ). s ∈ x) (sym here) g))
              (union_cases seen next sum is_sum s h);
          in_seen = λ i s h m. ⊎_elim
              (λ g. union_left seen next sum is_sum s (now.in_seen i s g (old i s g m)))
              (λ e. union_right seen next sum is_sum s (new i s e m))
              (sides i h);
        }
          where
            sound : (j s : ℕ) → j < suc k → s ∈ get_or layers' (suc j) 0 → (t : ℕ) × E s t × (t ∈ get_or layers' j 0)
            sound j s h m = ⊎_elim
                (λ l. let r = now.is.sound j s l (old (suc j) s l m) in (r.0, r.1, keep j r.0 (omega arith) r.2))
                (λ e. let r = (is_near s).0 (difference_left near seen next is_next s (new (suc j) s (omega arith) m)) in
                (r.0, r.2, keep j r.0 (omega arith) (subst (λ (x : ℕ). r.0 ∈ get_or layers x 0) (sym e) r.1)))
                (upto j k h)

            closed : (j s t : ℕ) → j < suc k → E s t → t ∈ get_or layers' j 0 → (i : ℕ) × (i ≤ suc j) × (s ∈ get_or layers' i 0)
            closed j s t h e m = ⊎_elim
                (λ g. (g.0, g.1, keep g.0 s g.2 g.3))
                (λ g. (suc k, omega (arith, g.0), subst (λ (x : ℕ). s ∈ x) (sym here) g.1))
                (entered j s t h e (old j t (omega arith) m))

            apart : (i j s : ℕ) → i ≤ suc k → j ≤ suc k → s ∈ get_or layers' i 0 → s ∈ get_or layers' j 0 → i ≡ j
            apart i j s h g m l = ⊎_elim
                (λ a. ⊎_elim (λ b. now.is.apart i j s a b (old i s a m) (old j s b l)) (λ b. absurd (fresh i s a (new j s b l) m)) (sides j g))
                (λ a. ⊎_elim (λ b. absurd (fresh j s b (new i s a m) l)) (λ b. a ∙ sym b) (sides j g))
                (sides i h)

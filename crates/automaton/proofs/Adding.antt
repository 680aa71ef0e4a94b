-- A state that is added to a mask, a mask of a part, the sets of a graph, the place of a set among sets in order.
use Prim.Native.Nat.{ℕ, zero, suc, ◌+◌, ◌-◌, ◌<◌, ◌≤◌}
use mathlib.Core.Path.{◌≡◌, refl, ap, sym, ◌∙◌, subst}
use mathlib.Core.Bool.{Bool, ◌||◌}
use mathlib.Core.Logic.{◌⊎◌, inl, inr, ⊎_elim, ◌↔◌, ◌≢◌}
use mathlib.Core.List.{List, ◌++◌}
use lib.Dec.{eqb}
use lib.ListN.{length, get_or, set, replicate, length-set}
use lib.Seq.{get_or-take, get_or-drop, get_or-append-add, get_or-set_same, get_or-set_other}
use borrow.Rule.Slice.PartMut.{put_mid}
use native.Mathlib.Omega.{arith}
use Rattle.std.proofs.Common.{rules}
use Rattle.std.proofs.lemmas.List.{places}
use Rattle.std.proofs.lemmas.Slice.{take-put_mid_below, drop-put_mid}
use Rattle.lists.proofs.Deciding.{eqb_decides, ltb_decides, dec_decides}
use Rattle.masks.specs.Mask.{member, ◌∈◌}
use Rattle.masks.proofs.Member.{with_same, with_cases, lt_or_le}
use Rattle.std.specs.Prelude.{Ok, Err}
use Rattle.sorted_keys.specs.Keys.{SearchesWord}
use Rattle.automaton.specs.Promise.{Adds, AddsAt, HasSets, PlaceOf}

pub added : (m s w : ℕ) → s < 64 → ((t : ℕ) → member t w ≡ (member t m || eqb t s)) → Adds m s w
added m s w h is t = (
  (λ i. ⊎_elim inl (λ e. inr (e, h)) (with_cases m s w is t i)),
  ⊎_elim (λ i. is t ∙ ap (λ (b : Bool). b || eqb t s) i) (λ p. subst (λ x. x ∈ w) (sym p.0) (with_same m s w is)),
)

-- a number that is no state adds nothing
pub not_added : (m s : ℕ) → 64 ≤ s → Adds m s m
not_added m s h t = (inl, ⊎_elim (λ i. i) (λ p. absurd (omega (arith, p.1))))

pub put_at : (old : List ℕ) (base at s v : ℕ) → base ≤ 192 → at < 64 → Adds (get_or old (base + at) 0) s v → AddsAt old base at s (set old (base + at) v)
put_at old base at s v low h is = record {
  length_is = length-set old (base + at) v;
  here = λ len g. subst (λ x. Adds (get_or old (base + at) 0) s x) (sym (get_or-set_same old (base + at) v 0 (omega arith))) is;
  others = λ j n. get_or-set_other old (base + at) j v 0 (n h);
}

-- no place, and nothing is put
pub not_put : (old : List ℕ) (base at s : ℕ) → 64 ≤ at → AddsAt old base at s old
not_put old base at s h = record { length_is = refl; here = λ len g. absurd (omega arith); others = λ j n. refl }

-- what a part has where something was put into it
pub put_iff : (old : List ℕ) (base at s : ℕ) (new : List ℕ) → length old ≡ 448 → AddsAt old base at s new
    → (i t : ℕ) → (t ∈ get_or new (base + i) 0) ↔ ((t ∈ get_or old (base + i) 0) ⊎ ((i ≡ at) × (at < 64) × (t ≡ s) × (s < 64)))
put_iff old base at s new len put i t = go (dec_decides (eqb_decides i at)) (dec_decides (ltb_decides at 64))
  where
    stays : (at < 64 → base + i ≢ base + at) → ((i ≡ at) → at < 64 → ⊥) → (t ∈ get_or new (base + i) 0) ↔ ((t ∈ get_or old (base + i) 0) ⊎ ((i ≡ at) × (at < 64) × (t ≡ s) × (s < 64)))
    stays n m = let e = put.others (base + i) n in ((λ j. inl (subst (λ x. t ∈ x) e j)), ⊎_elim (λ j. subst (λ x. t ∈ x) (sym e) j) (λ p. absurd (m p.0 p.1)))

    go : Dec (i ≡ at) → Dec (at < 64) → (t ∈ get_or new (base + i) 0) ↔ ((t ∈ get_or old (base + i) 0) ⊎ ((i ≡ at) × (at < 64) × (t ≡ s) × (s < 64)))
    go (yes e) (yes h) = rw e (let is = put.here len h t in ((λ j. ⊎_elim inl (λ p. inr (refl, h, p.0, p.1)) (is.0 j)), λ j. is.1 (⊎_elim inl (λ p. inr (p.2, p.3)) j)))
    go (no n) d = stays (λ h e. n (omega arith)) (λ e h. n e)
    go (yes e) (no n) = stays (λ h. absurd (n h)) (λ e h. n h)

-- ---- the sets

zeros : (n i : ℕ) → ◌≡◌ {A = ℕ} (get_or (replicate n 0) i 0) 0
zeros zero i = refl
zeros (suc n) zero = refl
zeros (suc n) (suc i) = zeros n i

-- behind the elements of a list that is filled up with nothing there is nothing
pub past_padded : (n : ℕ) (l : List ℕ) (i : ℕ) → length l ≤ i → get_or (l ++ replicate (n - length l) 0) i 0 ≡ 0
past_padded n l i h = let e : length l + (i - length l) ≡ i = omega arith in
    ap (λ (j : ℕ). get_or (l ++ replicate (n - length l) 0) j 0) (sym e) ∙ get_or-append-add l (replicate (n - length l) 0) (i - length l) 0 ∙ zeros (n - length l) (i - length l)

pub no_sets : (sets : List ℕ) → HasSets sets 0 (replicate 448 0)
no_sets sets = record { length_is = refl; sets_are = λ j h. absurd (omega arith); others = λ j h. zeros 448 j }

-- the sets copied into their part of a graph that has nothing
pub sets_put : (old sets : List ℕ) (k : ℕ) → old ≡ replicate 448 0 → k ≡ length sets → length sets ≤ 64 → HasSets sets (length sets) (put_mid 64 k old sets)
sets_put old sets k e long few = record {
  length_is = search (rules, places);
  sets_are = λ j h. search (rules, places);
  others = λ j h. ⊎_elim (below j) (behind j) h ∙ none j;
}
  where
    size : length old ≡ 448
    size = ap length e

    none : (j : ℕ) → get_or old j 0 ≡ 0
    none j = ap (λ (l : List ℕ). get_or l j 0) e ∙ zeros 448 j

    new : List ℕ
    new = put_mid 64 k old sets

    below : (j : ℕ) → j < 64 → get_or new j 0 ≡ get_or old j 0
    below j l = sym (get_or-take 64 new j 0 l) ∙ ap (λ (m : List ℕ). get_or m j 0) (take-put_mid_below 64 k old sets 64 (omega arith) (omega (arith, size))) ∙ get_or-take 64 old j 0 l

    behind : (j : ℕ) → 64 + length sets ≤ j → get_or new j 0 ≡ get_or old j 0
    behind j l =
        let n = 64 + length sets in
        let i : n + (j - n) ≡ j = omega arith in
        ap (λ (m : ℕ). get_or new m 0) (sym i) ∙ sym (get_or-drop n new (j - n) 0)
        ∙ ap (λ (m : List ℕ). get_or m (j - n) 0) (drop-put_mid 64 k old sets n (omega arith) (omega (arith, size)) (sym long))
        ∙ get_or-drop n old (j - n) 0 ∙ ap (λ (m : ℕ). get_or old m 0) i

module _ (sets : List ℕ) (n x : ℕ) where
  -- where the search finds the set, that is its place
  pub found_place : (i : ℕ) → SearchesWord sets n x (Ok i) → PlaceOf sets n x i
  found_place i s rising j l = let f = s.finds rising in ((λ e. ap (λ k. get_or sets k 0) e ∙ f.1), λ e. only f.0 f.1 e)
    where
      only : i < n → get_or sets i 0 ≡ x → get_or sets j 0 ≡ x → j ≡ i
      only k a b = go (dec_decides (ltb_decides j i)) (dec_decides (ltb_decides i j))
        where
          go : Dec (j < i) → Dec (i < j) → j ≡ i
          go (yes p) q = absurd (omega (arith, rising j i p k))
          go (no p) (yes q) = absurd (omega (arith, rising i j q l))
          go (no p) (no q) = omega arith

  -- where it finds a gap, no place has the set
  pub no_place : (i : ℕ) → n ≤ 64 → SearchesWord sets n x (Err i) → PlaceOf sets n x 64
  no_place i few s rising j l = let f = s.finds rising in
      ((λ e. absurd (omega arith)), λ e. ⊎_elim (λ k. absurd (omega (arith, f.1 j k))) (λ k. absurd (omega (arith, f.2 j k l))) (lt_or_le j i))

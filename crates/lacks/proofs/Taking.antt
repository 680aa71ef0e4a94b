-- Places taken out of the masks of states: what all masks have (`united_more`), what letters
-- leave in (`letters_lack`, `letters_written`), and what is spared (`sparing_more`, `sparing_end`, `letters_spared`).
use Prim.Native.Nat.{ℕ, ◌+◌, ◌<◌}
use mathlib.Core.Path.{◌≡◌, ap, subst, ◌∙◌}
use mathlib.Core.Bool.{◌&&◌, ◌||◌}
use mathlib.Core.Logic.{⊎_elim, ◌↔◌}
use mathlib.Core.List.{List}
use native.Mathlib.Omega.{arith}
use lib.Dec.{eqb}
use lib.ListN.{length, get_or, get_or-replicate, get_or-eq_default}
use Rattle.masks.specs.Mask.{member, ◌∈◌, TakesLowest}
use Rattle.masks.proofs.Gathering.{Passed, passed_from, passed_end, passed_more}
use Rattle.masks.proofs.Storing.{Storing, storing_end}
use Rattle.masks.proofs.Member.{in_none, true_or_false, lt_or_le, member_lt, with_same, intersection_both, union_left, union_right, union_cases}
use Rattle.search.specs.Graph.{Graph, TurnedGraph}
use Rattle.search.specs.Hops.{no_claims}
use Rattle.lacks.specs.Lacks.{Lacking, ByLetters, TakenOut, Spares}

-- past the 64 masks of an array there is no place
pub past_masks : (lack : List ℕ) → length lack ≡ 64 → (i q : ℕ) → i ∈ get_or lack q 0 → q < 64
past_masks lack e i q h = ⊎_elim (λ l. l) (λ l. absurd (in_none i (subst (λ (x : ℕ). i ∈ x) (get_or-eq_default lack 0 (omega arith)) h))) (lt_or_le q 64)

-- ---- what the masks have

-- r has the places of the masks below n
abbrev pub United : List ℕ → ℕ → ℕ → Type 0
United lack r n = (i : ℕ) → (i ∈ r) ↔ ((q : ℕ) × (i ∈ get_or lack q 0) × (q < n))

pub united_start : (lack : List ℕ) → United lack 0 0
united_start lack i = ((λ h. absurd (in_none i h)), λ h. absurd (omega (arith, h.2)))

pub united_more : (lack : List ℕ) (r n r' : ℕ) → United lack r n → ((t : ℕ) → member t r' ≡ (member t r || member t (get_or lack n 0))) → United lack r' (n + 1)
united_more lack r n r' now is i = (
  (λ h. ⊎_elim (λ k. let x = (now i).0 k in (x.0, x.1, omega (arith, x.2))) (λ k. (n, k, omega arith)) (union_cases r (get_or lack n 0) r' is i h)),
  λ h. ⊎_elim (λ l. union_left r (get_or lack n 0) r' is i ((now i).1 (h.0, h.1, l)))
      (λ l. let e : h.0 ≡ n = omega (arith, h.2) in union_right r (get_or lack n 0) r' is i (subst (λ (k : ℕ). i ∈ get_or lack k 0) e h.1)) (lt_or_le h.0 n),
)

-- ---- letters alone

-- a state q of the set at place i, and no state of the set with a letter step to q
pub letters_lack : {g back : Graph} → TurnedGraph g back → (i q : ℕ) → q ∈ get_or g.sets i 0
    → ((a : ℕ) → a ∈ get_or back.letters q 0 → ¬ (a ∈ get_or g.sets i 0)) → Lacking g no_claims 0 i q
letters_lack turned i q has none = record {
  has = has;
  unled = λ inner is a h. ⊎_elim
      (λ e. none a (turned.turned a q (member_lt a _ h.start) (member_lt q _ has) ∙ e) h.start)
      (⊎_elim
      (⊎_elim (λ e. in_none e.0 ((is.loops_are e.0).0 e.1).0) (λ e. in_none e.0 ((is.loops_are e.0).0 e.1).0))
      (λ e. in_none e.0 ((is.mixes_are e.0).0 e.1).0)) h.kind;
  unspared = λ h. absurd (in_none i h);
}

-- a mask of some states is right where it has a place, and the others have nothing
pub letters_written : (g : Graph) (states : ℕ) {rest : ℕ} {before after : List ℕ} → rest ≡ 0
    → Storing (λ q x. (i : ℕ) → i ∈ x → Lacking g no_claims 0 i q) before states rest after → ByLetters g 0 before after
letters_written g states {before = before} {after} none now = record {
  lacks = λ e places i q h k. ⊎_elim (λ m. storing_end now none (ap length e) q m i k)
      (λ m. let l = past_masks after (now.length_is ∙ ap length e) i q k in
      absurd (in_none i (subst (λ (x : ℕ). i ∈ x) (now.beyond q m ∙ ap (λ (x : List ℕ). get_or x q 0) e ∙ get_or-replicate 64 q 0 0 l) k))) (true_or_false (member q states));
}

-- ---- entrances that are spared

module _ (g : Graph) where
  -- of the places that are passed, none stands in the mask of an entrance of its set
  pub record Sparing (pieces rest : ℕ) (before after : List ℕ) : Type 0 where
    pub fewer : (q i : ℕ) → i ∈ get_or after q 0 → i ∈ get_or before q 0
    pub spared : Passed (λ i. (q : ℕ) → i ∈ get_or after q 0 → q ∈ get_or g.sets i 0 → ¬ (q ∈ get_or g.lefts i 0)) pieces rest

  pub sparing_from : {pieces rest : ℕ} (before : List ℕ) → rest ≡ pieces → Sparing pieces rest before before
  sparing_from before all = record { fewer = λ q i h. h; spared = passed_from all }

  pub sparing_more : {pieces rest low rest' : ℕ} {before mid after : List ℕ} → TakesLowest rest low rest' → Sparing pieces rest before mid → (m w : ℕ)
      → ((t : ℕ) → member t m ≡ (member t (get_or g.sets low 0) && member t (get_or g.lefts low 0)))
      → ((t : ℕ) → member t w ≡ (member t 0 || eqb t low)) → TakenOut m w mid after → Sparing pieces rest' before after
  sparing_more {low = low} taken now m w is_m is_w out = record {
    fewer = λ q i h. now.fewer q i (out.left q i h).0;
    spared = passed_more taken now.spared (λ i n f q h. f q (out.left q i h).0)
        (λ q h s t. (out.left q low h).1 (intersection_both (get_or g.sets low 0) (get_or g.lefts low 0) m is_m q s t) (with_same 0 low w is_w));
  }

  pub sparing_end : {pieces rest : ℕ} {before after : List ℕ} → Sparing pieces rest before after → rest ≡ 0 → Spares g pieces before after
  sparing_end now none = record {
    left = λ q i h. (now.fewer q i h, λ k. passed_end now.spared none i k q h);
  }

  -- after letters, entrances are spared
  pub letters_spared : {h : Graph} {pieces : ℕ} {before mid after : List ℕ} → h ≡ g → ByLetters g 0 before mid → Spares h pieces mid after → ByLetters g pieces before after
  letters_spared {pieces = pieces} {mid = mid} {after = after} same was spares = record {
    lacks = λ e places i q h k.
        let s = out.left q i k in
        let w = was.lacks e places i q h s.0 in
        record { has = w.has; unled = w.unled; unspared = λ p. s.1 p w.has };
  }
    where
      out : Spares g pieces mid after
      out = subst (λ (x : Graph). Spares x pieces mid after) same spares

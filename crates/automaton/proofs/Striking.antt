-- Request C-18: the sets that have a struck state (`none_struck`, `struck_more`, `unstruck_more`), masks out of which struck states are left one
-- after another (`leave_none`, `leave_more`), and all parts of a graph (`strikes_none`, `strikes_all`).
use Prim.Native.Nat.{ℕ, ◌+◌, ◌≤◌, ◌<◌}
use mathlib.Core.Path.{◌≡◌, refl, sym, subst, ◌∙◌}
use mathlib.Core.Bool.{Bool, true, false, not, ◌&&◌, ◌||◌}
use mathlib.Core.Logic.{◌⊎◌, inl, inr, ⊎_elim}
use mathlib.Core.List.{List}
use lib.Dec.{eqb}
use lib.ListN.{get_or, set, length-set}
use lib.Seq.{get_or-set_same, get_or-set_other}
use native.Mathlib.Omega.{arith}
use Rattle.masks.specs.Mask.{member, ◌∈◌}
use Rattle.masks.proofs.Member.{lt_or_le, not_both, in_none, with_same, with_cases, difference_left, difference_not, difference_cases}
use Rattle.automaton.specs.Striking.{Remains, StruckSets, LeavesOut, Strikes}

-- ---- one mask

pub remains_none : (m struck : ℕ) {goes : Bool} → goes ≡ true → Remains m goes struck 0
remains_none m struck e t = ((λ i. absurd (in_none t i)), λ w. absurd (w.1 e))

pub remains_some : (m struck r : ℕ) {goes : Bool} → goes ≡ false → ((t : ℕ) → member t r ≡ (member t m && not (member t struck))) → Remains m goes struck r
remains_some m struck r e is t = (
  (λ i. (difference_left m struck r is t i, (λ g. not_both g e), difference_not m struck r is t i)),
  λ w. ⊎_elim (λ g. absurd (w.2 g)) (λ i. i) (difference_cases m struck r is t w.0),
)

-- ---- the sets

module _ (graph : List ℕ) (struck : ℕ) where
  abbrev Meets : ℕ → Type 0
  Meets i = (s : ℕ) × (s ∈ get_or graph (64 + i) 0) × (s ∈ struck)

  pub none_struck : StruckSets graph 0 struck 0
  none_struck i = ((λ h. absurd (in_none i h)), λ w. absurd (omega (arith, w.0)))

  -- one set more, which has a struck state, or has none
  pub struck_more : (i m r : ℕ) → StruckSets graph i struck m → Meets i → ((t : ℕ) → member t r ≡ (member t m || eqb t i)) → StruckSets graph (i + 1) struck r
  struck_more i m r is w with_is j = (
    (λ h. ⊎_elim (λ g. let x = (is j).0 g in (omega (arith, x.0), x.1)) (λ e. (omega arith, subst Meets (sym e) w)) (with_cases m i r with_is j h)),
    λ x. ⊎_elim (λ g. with_is j ∙ rw ((is j).1 (g, x.1))) (λ g. let e : j ≡ i = omega (arith, x.0) in subst (λ y. y ∈ r) (sym e) (with_same m i r with_is)) (lt_or_le j i),
  )

  pub unstruck_more : (i m : ℕ) → StruckSets graph i struck m → ¬ Meets i → StruckSets graph (i + 1) struck m
  unstruck_more i m is n j = (
    (λ h. let x = (is j).0 h in (omega (arith, x.0), x.1)),
    λ x. ⊎_elim (λ g. (is j).1 (g, x.1)) (λ g. let e : j ≡ i = omega (arith, x.0) in absurd (n (subst Meets e x.1))) (lt_or_le j i),
  )

-- ---- a part of the graph

module _ (old : List ℕ) (base gone struck : ℕ) where
  pub leave_none : LeavesOut old base 0 gone struck old
  leave_none = record { length_is = refl; here = λ e i l. absurd (omega arith); others = λ j h. refl }

  pub leave_more : (i : ℕ) (now : List ℕ) (r : ℕ) → base ≤ 192 → i < 64 → LeavesOut old base i gone struck now
      → Remains (get_or now (base + i) 0) (member i gone) struck r → LeavesOut old base (i + 1) gone struck (set now (base + i) r)
  leave_more i now r low l h is = record {
    length_is = length-set now (base + i) r ∙ h.length_is;
    here = λ e j g. ⊎_elim
        (λ b. subst (Remains (get_or old (base + j) 0) (member j gone) struck) (sym (get_or-set_other now (base + i) (base + j) r 0 (λ q. omega arith))) (h.here e j b))
        (λ b. let q : i ≡ j = omega arith in
        subst (λ k. Remains (get_or old (base + k) 0) (member k gone) struck (get_or (set now (base + i) r) (base + k) 0)) q
        (subst (Remains (get_or old (base + i) 0) (member i gone) struck) (sym (get_or-set_same now (base + i) r 0 (omega (arith, h.length_is))))
        (subst (λ m. Remains m (member i gone) struck r) (h.others (base + i) (inr (omega arith))) is)))
        (lt_or_le j i);
    others = λ j g. get_or-set_other now (base + i) j r 0 (λ q. ⊎_elim (λ b. omega arith) (λ b. omega arith) g) ∙ h.others j (⊎_elim inl (λ b. inr (omega arith)) g);
  }

-- ---- all parts

-- no state is struck, and nothing changes
pub strikes_none : (n struck : ℕ) (graph : List ℕ) → struck ≡ 0 → Strikes n struck graph graph
strikes_none n struck graph e = rw e (record {
  gone = 0;
  is_gone = λ i. ((λ h. absurd (in_none i h)), λ w. absurd (in_none w.1.0 w.1.2));
  length_is = refl;
  letters = λ s p l. all p (get_or graph p 0);
  lefts = λ s i l. all i (get_or graph (128 + i) 0);
  rights = λ s i l. all i (get_or graph (192 + i) 0);
  others = λ j h. refl;
})
  where
    all : (i m : ℕ) → Remains m (member i 0) 0 m
    all i m t = ((λ x. (x, in_none i, in_none t)), λ w. w.0)

-- letters, then left limits, then right limits
pub strikes_all : (n struck gone : ℕ) (g₀ g₁ g₂ g₃ : List ℕ) → n ≤ 64 → StruckSets g₀ n struck gone
    → LeavesOut g₀ 0 64 struck struck g₁ → LeavesOut g₁ 128 n gone struck g₂ → LeavesOut g₂ 192 n gone struck g₃ → Strikes n struck g₀ g₃
strikes_all n struck gone g₀ g₁ g₂ g₃ few is a b c = record {
  gone = gone;
  is_gone = is;
  length_is = c.length_is ∙ b.length_is ∙ a.length_is;
  letters = λ s p l. let z : 0 + p ≡ p = omega arith in
      subst (Remains (get_or g₀ p 0) (member p struck) struck) (sym (c.others p (inl (omega arith)) ∙ b.others p (inl (omega arith)))) (rw z at (a.here s p l));
  lefts = λ s i l. subst (Remains (get_or g₀ (128 + i) 0) (member i gone) struck) (sym (c.others (128 + i) (inl (omega arith))))
      (subst (λ m. Remains m (member i gone) struck (get_or g₂ (128 + i) 0)) (a.others (128 + i) (inr (omega arith))) (b.here (a.length_is ∙ s) i l));
  rights = λ s i l. subst (λ m. Remains m (member i gone) struck (get_or g₃ (192 + i) 0))
      (b.others (192 + i) (inr (omega arith)) ∙ a.others (192 + i) (inr (omega arith))) (c.here (b.length_is ∙ a.length_is ∙ s) i l);
  others = λ j h. let apart = by j h in c.others j apart.2 ∙ b.others j apart.1 ∙ a.others j apart.0;
}
  where
    by : (j : ℕ) → ((64 ≤ j) × (j < 128)) ⊎ (((128 + n ≤ j) × (j < 192)) ⊎ (192 + n ≤ j))
        → ((j < 0) ⊎ (0 + 64 ≤ j)) × ((j < 128) ⊎ (128 + n ≤ j)) × ((j < 192) ⊎ (192 + n ≤ j))
    by j (inl h) = (inr (omega (arith, h.0)), inl h.1, inl (omega (arith, h.1)))
    by j (inr (inl h)) = (inr (omega (arith, h.0)), inr h.0, inl h.1)
    by j (inr (inr h)) = (inr (omega arith), inr (omega arith), inr h)

-- The masks as the lines of the body come: a state (`marked_state`, `edges_state`) and an edge of the last one (`marked_edge`, `edges_edge`).
use Prim.Native.Nat.{ℕ, ◌<◌}
use mathlib.Core.Path.{◌≡◌, sym, ap, subst, ◌∙◌}
use mathlib.Core.Bool.{Bool, true, ◌&&◌, ◌||◌, and-eq-true_iff, or-true}
use mathlib.Core.Logic.{⊎_elim, ◌↔◌}
use mathlib.Core.List.Memᴰ
use mathlib.Core.List.{List, [], ◌∷◌, ◌++◌}
use lib.ListN.{length}
use lib.Dec.{eqb}
use native.Mathlib.Omega.{arith}
use Rattle.lists.specs.Tests.{◌among◌}
use Rattle.lists.proofs.Deciding.{eqb_decides}
use Rattle.masks.specs.Mask.{member, ◌∈◌}
use Rattle.masks.proofs.Member.{in_none, or_cases}
use Rattle.hoa_files.specs.Automata.{BuchiState}
use Rattle.hoa_files.specs.Tables.{IsState, Edge, IsMarked}
use Rattle.hoa_files.specs.Reading.{edge_place, MarksOne}
use Rattle.hoa_files.proofs.States.{with_states, at_old, at_new, at_either, nothing_at, state_with}

-- the mask has the marked states
abbrev pub MarkedIn : List BuchiState → ℕ → Type 0
MarkedIn sts m = (t : ℕ) → (t ∈ m) ↔ IsMarked (with_states sts) t

-- the mask has the edges
abbrev pub EdgesIn : List BuchiState → ℕ → Type 0
EdgesIn sts m = (p q : ℕ) → p < 6 → q < 6 → (edge_place p q ∈ m) ↔ Edge (with_states sts) p q

-- ---- a state more

pub marked_state : (l : List BuchiState) (old new : ℕ) (b : Bool) → MarkedIn l old → MarksOne old (length l) b new → MarkedIn (l ++ (state_with b [] ∷ [])) new
marked_state l old new b in_old one t = (to, of)
  where
    x : BuchiState
    x = state_with b []

    to : t ∈ new → IsMarked (with_states (l ++ (x ∷ []))) t
    to h = ⊎_elim before now (or_cases (member t old) (b && eqb t (length l)) (sym (one t) ∙ h))
      where
        before : t ∈ old → IsMarked (with_states (l ++ (x ∷ []))) t
        before g = let (s, i, m) = (in_old t).0 g in (s, at_old l (x ∷ []) t s i, m)

        now : (b && eqb t (length l)) ≡ true → IsMarked (with_states (l ++ (x ∷ []))) t
        now g = let (m, e) = (and-eq-true_iff b (eqb t (length l))).0 g in (x, at_new l x t ((eqb_decides t (length l)).to e), m)

    of : IsMarked (with_states (l ++ (x ∷ []))) t → t ∈ new
    of (s, i, m) = one t ∙ ⊎_elim before now (at_either l x t s i)
      where
        before : IsState (with_states l) t s → (member t old || (b && eqb t (length l))) ≡ true
        before j = rw ((in_old t).1 (s, j, m))

        now : (t ≡ length l) × (s ≡ x) → (member t old || (b && eqb t (length l))) ≡ true
        now (e, f) = let g : b ≡ true = sym (ap (λ (y : BuchiState). y.marked) f) ∙ m in rw (g, (eqb_decides t (length l)).of e) (or-true (member t old))

pub edges_state : (l : List BuchiState) (m : ℕ) (b : Bool) → EdgesIn l m → EdgesIn (l ++ (state_with b [] ∷ [])) m
edges_state l m b in_old p q h k = (to, of)
  where
    x : BuchiState
    x = state_with b []

    to : edge_place p q ∈ m → Edge (with_states (l ++ (x ∷ []))) p q
    to g = let (s, i, e) = (in_old p q h k).0 g in (s, at_old l (x ∷ []) p s i, e)

    of : Edge (with_states (l ++ (x ∷ []))) p q → edge_place p q ∈ m
    of (s, i, e) = ⊎_elim (λ j. (in_old p q h k).1 (s, j, e)) (λ (j : (p ≡ length l) × (s ≡ x)). absurd (Memᴰ.not-nil (subst (λ (y : BuchiState). q among y.edges) j.1 e))) (at_either l x p s i)

-- ---- an edge more of the last state

pub marked_edge : (l : List BuchiState) (m : ℕ) (b : Bool) (qs rs : List ℕ) → MarkedIn (l ++ (state_with b qs ∷ [])) m → MarkedIn (l ++ (state_with b rs ∷ [])) m
marked_edge l m b qs rs in_old t = (λ g. over qs rs ((in_old t).0 g), λ g. (in_old t).1 (over rs qs g))
  where
    -- the edges do not matter
    over : (qs rs : List ℕ) → IsMarked (with_states (l ++ (state_with b qs ∷ []))) t → IsMarked (with_states (l ++ (state_with b rs ∷ []))) t
    over qs rs (s, i, e) = ⊎_elim old new (at_either l (state_with b qs) t s i)
      where
        old : IsState (with_states l) t s → IsMarked (with_states (l ++ (state_with b rs ∷ []))) t
        old j = (s, at_old l (state_with b rs ∷ []) t s j, e)

        new : (t ≡ length l) × (s ≡ state_with b qs) → IsMarked (with_states (l ++ (state_with b rs ∷ []))) t
        new (k, f) = (state_with b rs, at_new l (state_with b rs) t k, sym (ap (λ (y : BuchiState). y.marked) f) ∙ e)

pub edges_edge : (l : List BuchiState) (old new : ℕ) (b : Bool) (qs : List ℕ) (q : ℕ) → length l < 6 → q < 6 → EdgesIn (l ++ (state_with b qs ∷ [])) old
    → ((t : ℕ) → member t new ≡ (member t old || eqb t (edge_place (length l) q))) → EdgesIn (l ++ (state_with b (qs ++ (q ∷ [])) ∷ [])) new
edges_edge l old new b qs q few small in_old one p r h k = (to, of)
  where
    x : BuchiState
    x = state_with b qs

    y : BuchiState
    y = state_with b (qs ++ (q ∷ []))

    -- the last state has what it had
    wider : Edge (with_states (l ++ (x ∷ []))) p r → Edge (with_states (l ++ (y ∷ []))) p r
    wider (s, i, e) = ⊎_elim (λ j. (s, at_old l (y ∷ []) p s j, e)) same (at_either l x p s i)
      where
        same : (p ≡ length l) × (s ≡ x) → Edge (with_states (l ++ (y ∷ []))) p r
        same (j, f) = (y, at_new l y p j, Memᴰ.append_left (q ∷ []) (subst (λ (z : BuchiState). r among z.edges) f e))

    to : edge_place p r ∈ new → Edge (with_states (l ++ (y ∷ []))) p r
    to g = ⊎_elim (λ i. wider ((in_old p r h k).0 i)) now (or_cases (member (edge_place p r) old) (eqb (edge_place p r) (edge_place (length l) q)) (sym (one (edge_place p r)) ∙ g))
      where
        now : eqb (edge_place p r) (edge_place (length l) q) ≡ true → Edge (with_states (l ++ (y ∷ []))) p r
        now e =
            let f = (eqb_decides (edge_place p r) (edge_place (length l) q)).to e in
            let i : p ≡ length l = omega arith in
            let j : r ≡ q = omega arith in
            (y, at_new l y p i, Memᴰ.append_right qs (Memᴰ.head j))

    of : Edge (with_states (l ++ (y ∷ []))) p r → edge_place p r ∈ new
    of (s, i, e) = one (edge_place p r) ∙ ⊎_elim before last (at_either l y p s i)
      where
        had : Edge (with_states (l ++ (x ∷ []))) p r → (member (edge_place p r) old || eqb (edge_place p r) (edge_place (length l) q)) ≡ true
        had f = rw ((in_old p r h k).1 f)

        before : IsState (with_states l) p s → (member (edge_place p r) old || eqb (edge_place p r) (edge_place (length l) q)) ≡ true
        before j = had (s, at_old l (x ∷ []) p s j, e)

        last : (p ≡ length l) × (s ≡ y) → (member (edge_place p r) old || eqb (edge_place p r) (edge_place (length l) q)) ≡ true
        last (j, f) = ⊎_elim first now (Memᴰ.append_cases qs (subst (λ (z : BuchiState). r among z.edges) f e))
          where
            first : r among qs → (member (edge_place p r) old || eqb (edge_place p r) (edge_place (length l) q)) ≡ true
            first m = had (x, at_new l x p j, m)

            now : r among (q ∷ []) → (member (edge_place p r) old || eqb (edge_place p r) (edge_place (length l) q)) ≡ true
            now m =
                let k : r ≡ q = ⊎_elim (λ d. d) (λ d. absurd (Memᴰ.not-nil d)) (Memᴰ.cases_cons m) in
                rw ((eqb_decides (edge_place p r) (edge_place (length l) q)).of (omega arith)) (or-true (member (edge_place p r) old))

-- ---- before the first state

pub marked_none : MarkedIn [] 0
marked_none t = (λ h. absurd (in_none t h), λ (s, i, e). absurd (nothing_at t s i))

pub edges_none : EdgesIn [] 0
edges_none p q h k = (λ g. absurd (in_none (edge_place p q) g), λ (s, i, e). absurd (nothing_at p s i))

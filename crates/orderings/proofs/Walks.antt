-- Walks of any system: the claims that they need (`allowed_use`, `allowed_more`, `allowed_step`), and how deep these are (`greatest_least`, `greatest_most`).
use Prim.Native.Nat.{ℕ, ◌≤◌}
use mathlib.Core.Path.{refl, sym, subst}
use mathlib.Core.Logic.{⊎_elim}
use mathlib.Core.Option.{Option, none, some}
use mathlib.Core.List.Memᴰ
use mathlib.Core.List.{List, [], ◌∷◌, ◌++◌}
use native.Mathlib.Omega.{arith}
use Rattle.lists.specs.Tests.{◌among◌}
use Rattle.orderings.specs.Systems.{System, InForce, Allowed, need_depth, walk_depth, greatest}

abbrev pub one_or_none : {C : Type 0} → Option C → List C
one_or_none none = []
one_or_none (some c) = c ∷ []

module _ {C : Type 0} (In : C → Type 0) where
  force_use : (o : Option C) → InForce In o → (c : C) → c among one_or_none o → In c
  force_use none h c m = absurd (Memᴰ.not-nil m)
  force_use (some d) h c m = subst In (sym (Memᴰ.eq_of_singleton m)) h

  force_of : (o : Option C) → ((c : C) → c among one_or_none o → In c) → InForce In o
  force_of none h = tt
  force_of (some c) h = h c (Memᴰ.head refl)

pub in_force_more : {C : Type 0} {In In' : C → Type 0} → ((c : C) → In c → In' c) → (o : Option C) → InForce In o → InForce In' o
in_force_more up none h = tt
in_force_more up (some c) h = up c h

module _ {C : Type 0} (d : C → ℕ) where
  need_least : (o : Option C) (c : C) → c among one_or_none o → d c ≤ need_depth d o
  need_least none c m = absurd (Memᴰ.not-nil m)
  need_least (some x) c m = rw (Memᴰ.eq_of_singleton m) (omega arith)

  need_most : (o : Option C) (k : ℕ) → ((c : C) → c among one_or_none o → d c ≤ k) → need_depth d o ≤ k
  need_most none k h = omega arith
  need_most (some c) k h = h c (Memᴰ.head refl)

module _ (S : System) where
  -- the claims that the steps of a walk need
  unfoldable pub needed : List S.Step → List S.Claim
  needed [] = []
  needed (t ∷ w) = one_or_none (S.needs t) ++ needed w

  -- the claims needed are in force
  pub allowed_use : (In : S.Claim → Type 0) (w : List S.Step) → Allowed S In w → (c : S.Claim) → c among needed w → In c
  unfolding needed
  allowed_use In [] h c m = absurd (Memᴰ.not-nil m)
  allowed_use In (t ∷ w) h c m = ⊎_elim (force_use In (S.needs t) h.1 c) (allowed_use In w h.2 c) (Memᴰ.append_cases (one_or_none (S.needs t)) m)

  -- and where others are in force that are needed, they allow the walk as well
  pub allowed_change : (In In' : S.Claim → Type 0) (w : List S.Step) → Allowed S In w → ((c : S.Claim) → c among needed w → In' c) → Allowed S In' w
  unfolding needed
  allowed_change In In' [] h f = tt
  allowed_change In In' (t ∷ w) h f =
      (h.0, force_of In' (S.needs t) (λ c m. f c (Memᴰ.append_left (needed w) m)), allowed_change In In' w h.2 (λ c m. f c (Memᴰ.append_right (one_or_none (S.needs t)) m)))

  -- each step of the walk is possible, and the claim that it needs is in force
  pub allowed_step : (In : S.Claim → Type 0) (w : List S.Step) → Allowed S In w → (t : S.Step) → t among w → S.Possible t × InForce In (S.needs t)
  allowed_step In [] h t m = absurd (Memᴰ.not-nil m)
  allowed_step In (s ∷ w) h t m = ⊎_elim (λ e. subst (λ (x : S.Step). S.Possible x × InForce In (S.needs x)) (sym e) (h.0, h.1)) (allowed_step In w h.2 t) (Memᴰ.cases_cons m)

  pub allowed_append : (In : S.Claim → Type 0) (v w : List S.Step) → Allowed S In v → Allowed S In w → Allowed S In (v ++ w)
  allowed_append In [] w h k = k
  allowed_append In (t ∷ v) w h k = (h.0, h.1, allowed_append In v w h.2 k)

  pub allowed_more : {In In' : S.Claim → Type 0} → ((c : S.Claim) → In c → In' c) → (w : List S.Step) → Allowed S In w → Allowed S In' w
  allowed_more {In} {In'} up w h = allowed_change In In' w h (λ c m. up c (allowed_use In w h c m))

  module _ (d : S.Claim → ℕ) where
    pub depth_least : (w : List S.Step) (c : S.Claim) → c among needed w → d c ≤ walk_depth S d w
    unfolding needed
    depth_least [] c m = absurd (Memᴰ.not-nil m)
    depth_least (t ∷ w) c m = ⊎_elim (λ i. omega (arith, need_least d (S.needs t) c i)) (λ i. omega (arith, depth_least w c i)) (Memᴰ.append_cases (one_or_none (S.needs t)) m)

    pub depth_most : (w : List S.Step) (k : ℕ) → ((c : S.Claim) → c among needed w → d c ≤ k) → walk_depth S d w ≤ k
    unfolding needed
    depth_most [] k h = omega arith
    depth_most (t ∷ w) k h =
        omega (arith, need_most d (S.needs t) k (λ c m. h c (Memᴰ.append_left (needed w) m)), depth_most w k (λ c m. h c (Memᴰ.append_right (one_or_none (S.needs t)) m)))

    pub greatest_least : (ws : List (List S.Step)) (w : List S.Step) → w among ws → walk_depth S d w ≤ greatest S d ws
    greatest_least [] w m = absurd (Memᴰ.not-nil m)
    greatest_least (v ∷ ws) w m = ⊎_elim (λ e. rw e (omega arith)) (λ i. omega (arith, greatest_least ws w i)) (Memᴰ.cases_cons m)

    pub greatest_most : (ws : List (List S.Step)) (k : ℕ) → ((w : List S.Step) → w among ws → walk_depth S d w ≤ k) → greatest S d ws ≤ k
    greatest_most [] k h = omega arith
    greatest_most (w ∷ ws) k h = omega (arith, h w (Memᴰ.head refl), greatest_most ws k (λ v m. h v (Memᴰ.tail m)))

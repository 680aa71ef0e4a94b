-- The first of the shortest walks inside a set from some states to others, of zero or more steps (`here_foremost`, `stepping_foremost`) and by way of a
-- state: it is the first of the shortest to that state, and then the first of the shortest from it (`through_foremost`). Where the state is a start and
-- an end itself, it is the first of those that end there or that start there (`gap_to`, `gap_from`).
use Prim.Native.Nat.{ℕ, ◌≤◌, ◌<◌, ◌+◌}
use mathlib.Core.Path.{◌≡◌, refl, ap, sym, ◌∙◌, subst}
use mathlib.Core.Logic.{◌⊎◌, inl, inr, ⊎_elim, ◌≢◌}
use mathlib.Core.List.{List, [], ◌∷◌, ◌++◌, append-nil}
use lib.ListN.{length, length-append}
use native.Mathlib.Omega.{arith}
use Rattle.lists.specs.Tests.{gather}
use Rattle.lists.specs.Order.{◌≺◌}
use Rattle.lists.proofs.Deciding.{eqb_decides, dec_decides}
use Rattle.lists.proofs.Sorting.{before_decides, ≺_irreflexive, append_before}
use Rattle.lists.proofs.Places.{gather_append}
use Rattle.rows.specs.declared.Row.{Row}
use Rattle.orderings.specs.Steps.{Claim, Walk, Leads, Inside, On}
use Rattle.orderings.specs.Systems.{Allowed}
use Rattle.orderings.specs.Timelines.{timelines}
use Rattle.orderings.proofs.Steps.{on_start, on_middle, on_end, runs_append, runs_cut}
use Rattle.machine.specs.Order.{step_key, Found, walk_key, Foremost}
use Rattle.machine.specs.Word.{found}
use Rattle.machine.proofs.Walks.{foremost_of}

-- walks of equally many steps have keys that are equally long
same_keys : (v w : Walk) → length v ≡ length w → length (gather step_key v) ≡ length (gather step_key w)
same_keys [] [] e = refl
same_keys [] (t ∷ w) e = absurd (omega arith)
same_keys (s ∷ v) [] e = absurd (omega arith)
same_keys (s ∷ v) (t ∷ w) e = let k = same_keys v w (omega arith) in omega arith

-- what makes a walk no longer is nothing
no_steps : (v w : Walk) → length (v ++ w) ≤ length v → v ++ w ≡ v
no_steps v [] h = append-nil v
no_steps v (t ∷ w) h = absurd (omega (arith, length-append v (t ∷ w)))

module _ (rows : List Row) (In : Claim → Type 0) (P : ℕ) where
  -- a walk of zero or more steps inside P, with the claims in force, from one of the states A to one of the states B
  abbrev pub Leading : (ℕ → Type 0) → (ℕ → Type 0) → Found → Type 0
  Leading A B f = A f.start × ((b : ℕ) × B b × Leads f.start f.walk b) × Inside P f.walk × Allowed (timelines rows) In f.walk

  -- of one or more
  abbrev pub Stepping : (ℕ → Type 0) → (ℕ → Type 0) → Found → Type 0
  Stepping A B f = A f.start × ((b : ℕ) × B b × Leads f.start f.walk b) × Inside P f.walk × Allowed (timelines rows) In f.walk × (f.walk ≢ [])

  -- of one or more, by way of s
  abbrev pub Passing : ℕ → (ℕ → Type 0) → (ℕ → Type 0) → Found → Type 0
  Passing s A B f = A f.start × ((b : ℕ) × B b × Leads f.start f.walk b) × On s f.start f.walk
      × (Inside P f.walk × Allowed (timelines rows) In f.walk × (f.walk ≢ []))

  module _ (A B : ℕ → Type 0) where
    -- at the lowest state of both
    pub here_foremost : (s : ℕ) → A s → B s → ((t : ℕ) → A t → B t → s ≤ t) → Foremost (Leading A B) (found s [])
    here_foremost s a b low = record {
      is = (a, (s, b, refl), tt, tt);
      short = λ g c. omega arith;
      first = λ g c e q. first g c g.walk refl e q;
    }
      where
        first : (g : Found) → Leading A B g → (v : Walk) → g.walk ≡ v → length g.walk ≡ 0 → ¬ ((g.start ∷ gather step_key g.walk) ≺ (s ∷ []))
        first g c [] i e q =
            let both : g.start ≡ c.1.0 = subst (λ (v : Walk). Leads g.start v c.1.0) i c.1.2 in
            let l = low g.start c.0 (subst B (sym both) c.1.1) in
            ⊎_elim (λ (k : g.start < s). omega arith) (λ k. ≺_irreflexive [] (rw i at k.1)) ((before_decides g.start s (gather step_key g.walk) []).to q)
        first g c (t ∷ v) i e q = let z = ap length i in omega arith

    -- where no state is both, every walk has a step
    module _ (apart : (t : ℕ) → A t → B t → ⊥) where
      leads_on : (f : Found) → Leading A B f → Stepping A B f
      leads_on f c = (c.0, c.1, c.2, c.3, λ e. let both : f.start ≡ c.1.0 = subst (λ (v : Walk). Leads f.start v c.1.0) e c.1.2 in apart f.start c.0 (subst B (sym both) c.1.1))

      -- so the first of the shortest of one or more steps is that of zero or more
      pub stepping_foremost : (f : Found) → Foremost (Stepping A B) f → Foremost (Leading A B) f
      stepping_foremost f h = foremost_of f (λ g c. (c.0, c.1, c.2, c.3)) leads_on h

      -- and where there is none of one or more, there is none
      pub stepping_none : ((f : Found) → ¬ Stepping A B f) → (f : Found) → ¬ Leading A B f
      stepping_none n f c = n f (leads_on f c)

  -- S is the state s alone
  module _ (A B S : ℕ → Type 0) (s : ℕ) (only : (t : ℕ) → S t → t ≡ s) (here : S s) where
    -- the part up to s, and the part from s on
    cut : (h : Found) → Passing s A B h → (u : Walk) × (v : Walk) × (h.walk ≡ u ++ v) × Leading A S (found h.start u) × Leading S B (found s v)
    cut h c = let e = c.1 in let x = c.3 in let r = runs_cut rows In P s h.start h.walk e.0 (e.2, x.1, x.0) c.2 in
        (r.0, r.1, r.4, (c.0, (s, here, r.2.0), r.2.2, r.2.1), (here, (e.0, e.1, r.3.0), r.3.2, r.3.1))

    -- where none leads to s, or none from it, none goes by way of it
    pub through_none : ((f : Found) → ¬ Leading A S f) ⊎ ((f : Found) → ¬ Leading S B f) → (h : Found) → ¬ Passing s A B h
    through_none n h c = let r = cut h c in ⊎_elim (λ a. a (found h.start r.0) r.3) (λ b. b (found s r.1) r.4) n

    -- the first of the shortest to s, and then the first of the shortest from s
    pub through_foremost : (f g : Found) → Foremost (Leading A S) f → Foremost (Leading S B) g → f.walk ++ g.walk ≢ [] → Foremost (Passing s A B) (found f.start (f.walk ++ g.walk))
    through_foremost f g to on some = record { is = is; short = short; first = first }
      where
        is : Passing s A B (found f.start (f.walk ++ g.walk))
        is = let a = to.is in let b = on.is in
            let leads : Leads f.start f.walk s = subst (Leads f.start f.walk) (only a.1.0 a.1.1) a.1.2 in
            let goes_on : Leads s g.walk b.1.0 = subst (λ (x : ℕ). Leads x g.walk b.1.0) (only g.start b.0) b.1.2 in
            let r = runs_append rows In P f.start f.walk s g.walk b.1.0 (leads, a.3, a.2) (goes_on, b.3, b.2) in
            (a.0, (b.1.0, b.1.1, r.0), on_middle s f.start f.walk g.walk leads, (r.2, r.1, some))

        -- both parts are as long as the shortest, or longer
        sizes : (h : Found) (c : Passing s A B h) → let r = cut h c in (length h.walk ≡ length r.0 + length r.1) × (length f.walk ≤ length r.0) × (length g.walk ≤ length r.1)
        sizes h c = let r = cut h c in (ap length r.2 ∙ length-append r.0 r.1, to.short (found h.start r.0) r.3, on.short (found s r.1) r.4)

        short : (h : Found) → Passing s A B h → length (f.walk ++ g.walk) ≤ length h.walk
        short h c = let n = sizes h c in omega (arith, n.0, n.1, n.2, length-append f.walk g.walk)

        first : (h : Found) → Passing s A B h → length h.walk ≡ length (f.walk ++ g.walk) → ¬ (walk_key h ≺ walk_key (found f.start (f.walk ++ g.walk)))
        first h c e q =
            let r = cut h c in
            let u = r.0 in
            let v = r.1 in
            let n = sizes h c in
            let lu : length u ≡ length f.walk = omega (arith, n.0, n.1, n.2, length-append f.walk g.walk) in
            let lv : length v ≡ length g.walk = omega (arith, n.0, n.1, n.2, length-append f.walk g.walk) in
            let lead : ¬ (walk_key (found h.start u) ≺ walk_key f) = to.first (found h.start u) r.3 lu in
            ⊎_elim (λ i. lead ((before_decides h.start f.start (gather step_key u) (gather step_key f.walk)).of (inl i)))
            (λ p. ⊎_elim
            (λ i. lead ((before_decides h.start f.start (gather step_key u) (gather step_key f.walk)).of (inr (p.0, i))))
            (λ i. on.first (found s v) r.4 lv ((before_decides s g.start (gather step_key v) (gather step_key g.walk)).of (inr (sym (only g.start on.is.0), i))))
            (append_before (gather step_key u) (gather step_key v) (gather step_key f.walk) (gather step_key g.walk) (same_keys u f.walk lu)
            (rw (r.2, gather_append step_key u v, gather_append step_key f.walk g.walk) at p.1)))
            ((before_decides h.start f.start (gather step_key h.walk) (gather step_key (f.walk ++ g.walk))).to q)

    -- O are the others of A; s is one of A and one of B
    module _ (O : ℕ → Type 0) (but : (t : ℕ) → O t → A t × (t ≢ s)) (other : (t : ℕ) → A t → t ≢ s → O t) where
      -- from s
      from_here : (h : Found) → Passing s A B h → h.start ≡ s → Stepping S B h
      from_here h c e = (subst S (sym e) here, c.1, c.3.0, c.3.1, c.3.2)

      -- from another: up to s it has a step
      from_other : (h : Found) → Passing s A B h → h.start ≢ s → (u : Walk) × (v : Walk) × (h.walk ≡ u ++ v) × Stepping O S (found h.start u)
      from_other h c n = let r = cut h c in let k = r.3 in
          (r.0, r.1, r.2, (other h.start k.0 n, k.1, k.2, k.3, λ e. n (subst (λ (v : Walk). Leads h.start v k.1.0) e k.1.2 ∙ only k.1.0 k.1.1)))

      -- where none leads to s from another, and none from s, none goes by way of it
      pub gap_none : ((f : Found) → ¬ Stepping O S f) → ((f : Found) → ¬ Stepping S B f) → (h : Found) → ¬ Passing s A B h
      gap_none to on h c = by (dec_decides (eqb_decides h.start s))
        where
          by : Dec (h.start ≡ s) → ⊥
          by (yes e) = on h (from_here h c e)
          by (no n) = let r = from_other h c n in to (found h.start r.0) r.3

      -- where those from s are longer, or as long and s is above its start, the first of the shortest to s from another
      pub gap_to : B s → (f : Found) → Foremost (Stepping O S) f
          → ((h : Found) → Stepping S B h → (length f.walk ≤ length h.walk) × (length h.walk ≡ length f.walk → f.start < s)) → Foremost (Passing s A B) f
      gap_to b f to on = record { is = is; short = λ h c. short h c (dec_decides (eqb_decides h.start s)); first = λ h c. first h c (dec_decides (eqb_decides h.start s)) }
        where
          is : Passing s A B f
          is = let c = to.is in let leads : Leads f.start f.walk s = subst (Leads f.start f.walk) (only c.1.0 c.1.1) c.1.2 in
              ((but f.start c.0).0, (s, b, leads), on_end s f.start f.walk leads, (c.2, c.3, c.4))

          short : (h : Found) → Passing s A B h → Dec (h.start ≡ s) → length f.walk ≤ length h.walk
          short h c (yes e) = (on h (from_here h c e)).0
          short h c (no n) = let r = from_other h c n in omega (arith, to.short (found h.start r.0) r.3, ap length r.2, length-append r.0 r.1)

          first : (h : Found) → Passing s A B h → Dec (h.start ≡ s) → length h.walk ≡ length f.walk → ¬ (walk_key h ≺ walk_key f)
          first h c (yes e) l q = let k = (on h (from_here h c e)).1 l in
              ⊎_elim (λ (i : h.start < f.start). omega arith) (λ p. let i : h.start ≡ f.start = p.0 in omega arith) ((before_decides h.start f.start (gather step_key h.walk) (gather step_key f.walk)).to q)
          first h c (no n) l q =
              let r = from_other h c n in
              let z : h.walk ≡ r.0 = r.2 ∙ no_steps r.0 r.1 (omega (arith, to.short (found h.start r.0) r.3, ap length r.2)) in
              to.first (found h.start r.0) r.3 (ap length (sym z) ∙ l) (subst (λ (w : Walk). walk_key (found h.start w) ≺ walk_key f) z q)

      -- where those to s from others are longer, or as long and s is below their starts, the first of the shortest from s
      pub gap_from : A s → (f : Found) → Foremost (Stepping S B) f
          → ((h : Found) → Stepping O S h → (length f.walk ≤ length h.walk) × (length h.walk ≡ length f.walk → s < h.start)) → Foremost (Passing s A B) f
      gap_from a f on to = record { is = is; short = λ h c. short h c (dec_decides (eqb_decides h.start s)); first = λ h c. first h c (dec_decides (eqb_decides h.start s)) }
        where
          is : Passing s A B f
          is = let c = on.is in let e = only f.start c.0 in (subst A (sym e) a, c.1, on_start s f.start f.walk (sym e), (c.2, c.3, c.4))

          short : (h : Found) → Passing s A B h → Dec (h.start ≡ s) → length f.walk ≤ length h.walk
          short h c (yes e) = on.short h (from_here h c e)
          short h c (no n) = let r = from_other h c n in omega (arith, (to (found h.start r.0) r.3).0, ap length r.2, length-append r.0 r.1)

          first : (h : Found) → Passing s A B h → Dec (h.start ≡ s) → length h.walk ≡ length f.walk → ¬ (walk_key h ≺ walk_key f)
          first h c (yes e) l q = on.first h (from_here h c e) l q
          first h c (no n) l q =
              let r = from_other h c n in
              let k = to (found h.start r.0) r.3 in
              let i : s < h.start = k.1 (omega (arith, k.0, ap length r.2, length-append r.0 r.1)) in
              let e : f.start ≡ s = only f.start on.is.0 in
              ⊎_elim (λ (j : h.start < f.start). omega arith) (λ p. let j : h.start ≡ f.start = p.0 in omega arith) ((before_decides h.start f.start (gather step_key h.walk) (gather step_key f.walk)).to q)

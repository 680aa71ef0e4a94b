-- Walks of letter steps are paths of edges. `along_leads`, `along_allowed`, `along_inside`: a path is a walk; `through_edges`: a walk inside a set without state 6 is a path;
-- `first_omega`: a walk to state 6 is a path up to an omega step; `cycle_loops`: on a cycle it loops.
use Prim.Native.Nat.{ℕ, ◌<◌}
use mathlib.Core.Path.{refl, sym, subst}
use mathlib.Core.Logic.{inl, inr, ⊎_elim, ◌↔◌, ◌≢◌}
use mathlib.Core.List.Memᴰ
use mathlib.Core.List.{List, [], ◌∷◌, ◌++◌, cons≢nil}
use lib.ListN.{length}
use native.Mathlib.Omega.{arith}
use Rattle.lists.specs.Tests.{◌among◌}
use Rattle.masks.specs.Mask.{◌∈◌}
use Rattle.rows.specs.declared.Row.{Row}
use Rattle.rows.specs.declared.Row.TheVariants.{Successor, LeftLimit, RightLimit, Strike}
use Rattle.orderings.specs.Steps.{Claim, loops, Label, letter, ω, back, mix, Step, HasRows, needs, content, Struck, Possible, Walk, Leads, Inside, On}
use Rattle.orderings.specs.Claims.{Through, Loops}
use Rattle.orderings.specs.Systems.{InForce, Allowed, AtHand}
use Rattle.orderings.specs.Timelines.{timelines}
use Rattle.orderings.specs.Decide.{step}
use Rattle.orderings.proofs.Steps.{on_start, on_end, Runs, runs_append, runs_cut, leg_of, runs_of}
use Rattle.hoa_files.specs.Automata.{Buchi, Readable}
use Rattle.hoa_files.specs.Tables.{Edge, an_edge, RowsOf}
use Rattle.hoa_files.specs.Cycles.{Reaches, here, by_edge}
use Rattle.hoa_files.proofs.States.{edge_inside}
use Rattle.hoa_files.proofs.Fresh.{standing}

module _ (h : Buchi) where
  pub reaches_more : {a b c : ℕ} → Reaches h a b → Reaches h b c → Reaches h a c
  reaches_more (here p) k = k
  reaches_more (by_edge p q r e i) k = by_edge p q _ e (reaches_more i k)

  -- the walk along a path
  unfoldable pub along : {a b : ℕ} → Reaches h a b → Walk
  along (here p) = []
  along (by_edge p q r e k) = step p (letter 0) q ∷ along k

  pub along_leads : {a b : ℕ} (r : Reaches h a b) → Leads a (along r) b
  unfolding along
  along_leads (here p) = refl
  along_leads (by_edge p q r e k) = (refl, along_leads k)

  -- inside a set that has the states on it
  along_inside : (P : ℕ) {a b : ℕ} (r : Reaches h a b) → ((s : ℕ) → On s a (along r) → s ∈ P) → Inside P (along r)
  unfolding along
  along_inside P (here p) f = tt
  along_inside P (by_edge p q r e k) f = (
    (λ s m. ⊎_elim (λ i. f s (inl i)) (λ j. f s (inr (on_start s q (along k) (Memᴰ.eq_of_singleton j)))) (Memᴰ.cases_cons m)),
    along_inside P k (λ s o. f s (inr o)),
  )

  module _ (ok : Readable h) where
    -- from a state it meets states only
    pub along_small : {a b : ℕ} (r : Reaches h a b) → a < length h.states → (s : ℕ) → On s a (along r) → s < length h.states
    unfolding along
    along_small (here p) l s o = rw o l
    along_small (by_edge p q r e k) l s o = ⊎_elim (λ i. rw i l) (along_small k (edge_inside h ok p q e).1 s) o

    module _ (rows : List Row) (of : RowsOf h rows) where
      pub unstruck : (s : ℕ) → ¬ Struck rows s
      unstruck s m = standing h ok rows of (Strike s) m

      edge_possible : (p q : ℕ) → Edge h p q → Possible rows p (letter 0) q
      edge_possible p q e = ((of.exactly (Successor p 0 q)).1 (an_edge p q e), λ s m. unstruck s)

      -- a path needs no claim
      pub along_allowed : (In : Claim → Type 0) {a b : ℕ} (r : Reaches h a b) → Allowed (timelines rows) In (along r)
      unfolding along
      along_allowed In (here p) = tt
      along_allowed In (by_edge p q r e k) = (edge_possible p q e, tt, along_allowed In k)

      -- a step without state 6 in its content follows an edge
      step_edge : (p : ℕ) (l : Label) (q : ℕ) → HasRows rows p l q → ¬ (6 among content p l q) → Edge h p q
      step_edge p (letter a) q m n = (standing h ok rows of (Successor p a q) m).1
      step_edge p (ω P) q m n = absurd (n (Memᴰ.head (sym (standing h ok rows of (LeftLimit P q) m.0).0)))
      step_edge p (back P) q m n = absurd (standing h ok rows of (RightLimit p P) m.0)
      step_edge p (mix P) q m n = absurd (standing h ok rows of (RightLimit p P) m.0)

      module _ (In : Claim → Type 0) (P : ℕ) (no : ¬ (6 ∈ P)) where
        first_edge : (t : Step) (w : Walk) (a b : ℕ) → Runs rows In P a (t ∷ w) b → Edge h a t.to
        first_edge t w a b r = subst (λ x. Edge h x t.to) r.0.0 (step_edge t.from t.label t.to r.1.0.0 (λ m. no (r.2.0 6 m)))

        inside_path : (w : Walk) (a b : ℕ) → Runs rows In P a w b → Reaches h a b
        inside_path [] a b r = subst (Reaches h a) r.0 (here a)
        inside_path (t ∷ w) a b r = by_edge a t.to b (first_edge t w a b r) (inside_path w t.to b (r.0.1, r.1.2, r.2.1))

        -- a walk of one or more steps inside P
        pub through_edges : (a b : ℕ) → Through (AtHand (timelines rows) In) P a b → (q : ℕ) × Edge h a q × Reaches h q b
        through_edges a b t = by t.0 (runs_of rows In P a b t) t.4
          where
            by : (w : Walk) → Runs rows In P a w b → w ≢ [] → (q : ℕ) × Edge h a q × Reaches h q b
            by [] r n = absurd (n refl)
            by (t ∷ w) r n = (t.to, first_edge t w a b r, inside_path w t.to b (r.0.1, r.1.2, r.2.1))

      module _ (In : Claim → Type 0) where
        -- a path leads to a state of a set that loops, with a row to state 6
        abbrev pub ReachesOmega : ℕ → Type 0
        ReachesOmega a = (q : ℕ) × (P : ℕ) × Reaches h a q × (q ∈ P) × LeftLimit P 6 among rows × In (loops P)

        pub first_omega : (w : Walk) (a : ℕ) → a < length h.states → Leads a w 6 → Allowed (timelines rows) In w → ReachesOmega a
        first_omega [] a l e k = absurd (omega (arith, ok.at_most_six))
        first_omega (t ∷ w) a l e k = by t.label k.0.0 k.1 (λ i. first_omega w t.to i e.1 k.2)
          where
            by : (x : Label) → HasRows rows t.from x t.to → InForce In (needs x) → (t.to < length h.states → ReachesOmega t.to) → ReachesOmega a
            by (letter c) m f below = let d = (standing h ok rows of (Successor t.from c t.to) m).1 in let r = below (edge_inside h ok t.from t.to d).1 in
                (r.0, r.1, subst (λ x. Reaches h x r.0) e.0 (by_edge _ _ _ d r.2), r.3, r.4, r.5)
            by (ω P) m f below = (a, P, here a, subst (λ x. x ∈ P) e.0 m.1, subst (λ x. LeftLimit P x among rows) (standing h ok rows of (LeftLimit P t.to) m.0).0 m.0, f)
            by (back P) m f below = absurd (standing h ok rows of (RightLimit t.from P) m.0)
            by (mix P) m f below = absurd (standing h ok rows of (RightLimit t.from P) m.0)

        -- an edge and a path back: the states on the path loop
        pub cycle_loops : (P m q : ℕ) → Edge h m q → (r : Reaches h q m) → ((s : ℕ) → (s ∈ P) ↔ On s q (along r)) → Loops (AtHand (timelines rows) In) P
        cycle_loops P m q e r on a b i j =
            let whole : Runs rows In P q (along r) m = (along_leads r, along_allowed In r, along_inside P r (λ s. (on s).1)) in
            let u = runs_cut rows In P a q (along r) m whole ((on a).0 i) in
            let v = runs_cut rows In P b q (along r) m whole ((on b).0 j) in
            leg_of rows In P a b (u.1 ++ (step m (letter 0) q ∷ v.0)) (runs_append rows In P a u.1 m (step m (letter 0) q ∷ v.0) b u.3 (turn v.0 v.2)) (some u.1 v.0)
          where
            ends : (s : ℕ) → s among (m ∷ q ∷ []) → s ∈ P
            ends s k = ⊎_elim (λ x. subst (λ y. y ∈ P) (sym x) ((on m).1 (on_end m q (along r) (along_leads r)))) (λ x. (on s).1 (on_start s q (along r) (Memᴰ.eq_of_singleton x))) (Memᴰ.cases_cons k)

            turn : (w : Walk) → Runs rows In P q w b → Runs rows In P m (step m (letter 0) q ∷ w) b
            turn w k = ((refl, k.0), (edge_possible m q e, tt, k.1), (ends, k.2))

            some : (w v : Walk) → w ++ (step m (letter 0) q ∷ v) ≢ []
            some [] v = cons≢nil
            some (t ∷ w) v = cons≢nil

-- A tour of a set from q is a walk inside it from q to q, on which every state of the set lies.
use Prim.Native.Nat.{ℕ}
use mathlib.Core.Path.{◌≡◌, ap, sym, ◌∙◌, subst}
use mathlib.Core.Logic.{⊎_elim}
use mathlib.Core.List.Memᴰ
use mathlib.Core.List.{List, [], ◌∷◌, ◌++◌, append_assoc, append-nil}
use lib.Dec.{ltb}
use Rattle.lists.specs.Tests.{◌among◌, keep}
use Rattle.masks.specs.Mask.{◌∈◌}
use Rattle.rows.specs.declared.Row.{Row}
use Rattle.orderings.specs.Steps.{members, Walk, Leads, Inside, On}
use Rattle.orderings.proofs.Steps.{leads_append, inside_append, on_middle, on_later}
use Rattle.machine.specs.Machine.{Opening}
use Rattle.machine.specs.Word.{Nearest, Along, Tour}
use Rattle.machine.proofs.Turning.{rest, trip}
use Rattle.machine.proofs.Justified.{rest_has}

module _ (rows : List Row) (l : List Opening) (P : ℕ) where
  -- from a to z, by way of the states of k
  abbrev Visits : ℕ → List ℕ → ℕ → Walk → Type 0
  Visits a k z T = Leads a T z × Inside P T × ((s : ℕ) → s among (k ++ (z ∷ [])) → On s a T)

  visits : (a : ℕ) (k : List ℕ) (z : ℕ) (T : Walk) → Along (Nearest rows l P) (a ∷ (k ++ (z ∷ []))) T → Visits a k z T
  visits a [] z T h = let c = h.2.is in let v = h.0 in
      let e : T ≡ v ++ [] = h.4 ∙ ap (λ (u : Walk). v ++ u) h.3 in
      subst (Visits a [] z) (sym (e ∙ append-nil v)) (
        c.1,
        c.2.0,
        λ s m. subst (λ (x : Walk). On s a x) (append-nil v) (on_middle s a v [] (subst (Leads a v) (sym (Memᴰ.eq_of_singleton m)) c.1)),
      )
  visits a (b ∷ k) z T h = let c = h.2.is in let v = h.0 in let u = h.1 in let r = visits b k z u h.3 in
      subst (Visits a (b ∷ k) z) (sym h.4) (
        leads_append a v b u z c.1 r.0,
        inside_append P v u c.2.0 r.1,
        λ s m. ⊎_elim (λ e. on_middle s a v u (subst (Leads a v) (sym e) c.1)) (λ i. on_later s a v b u c.1 (r.2 s i)) (Memᴰ.cases_cons m),
      )

  pub tour_visits : (q : ℕ) (T : Walk) → Tour rows l P q T → Leads q T q × Inside P T × ((s : ℕ) → s ∈ P → On s q T)
  tour_visits q T h = let K = keep (ltb q) (members P) in let L = keep (λ s. ltb s q) (members P) in
      let e : rest P q ≡ (K ++ L) ++ (q ∷ []) = sym (append_assoc K L (q ∷ [])) in
      let r = visits q (K ++ L) q T (subst (λ (k : List ℕ). Along (Nearest rows l P) k T) (trip P q ∙ ap (λ (k : List ℕ). q ∷ k) e) h) in
      (r.0, r.1, λ s i. r.2 s (subst (λ (k : List ℕ). s among k) e (rest_has P q s i)))

-- The walk that is found is the first of the shortest: `shortest_best` finds it where there is a walk, `shortest_some` says that what is found is it.
-- The sheet's search is the one by way of a state (proofs/Nearest) where no state is to be met.
use Prim.Native.Nat.{ℕ, zero, suc}
use mathlib.Core.Path.{◌≡◌, refl, ap, sym, ◌∙◌, subst, fun_ext}
use mathlib.Core.Bool.{Bool, true, false, ◌&&◌}
use mathlib.Core.Option.{Option, none, some}
use mathlib.Core.List.{List, [], ◌∷◌}
use lib.Dec.{eqb}
use lib.ListN.{length}
use native.Mathlib.Omega.{arith}
use Rattle.lists.specs.Tests.{any}
use Rattle.lists.specs.Order.{sort_by}
use Rattle.lists.proofs.Sorting.{sort_iff, sort_sorted}
use Rattle.rows.specs.declared.Row.{Row}
use Rattle.orderings.specs.Steps.{Claim, Step, Walk}
use Rattle.orderings.specs.Decide.{steps, initials, finals}
use Rattle.orderings.proofs.Reach.{shorten}
use Rattle.orderings.proofs.Deciding.{steps_allowed, initials_iff, finals_iff}
use Rattle.machine.specs.Order.{step_key, Found, Candidate, Best}
use Rattle.machine.specs.Search.{first, go_on, only_if, walk_of, from_start, found_of, least, shortest}
use Rattle.machine.specs.Expression.{walk_by, least_by}
use Rattle.machine.proofs.Walks.{foremost_of}
use Rattle.machine.proofs.Nearest.{agree, RunsOn, least_sound, least_best}

-- ---- no state is to be met

abbrev or_else : Option Found → Option Found → Option Found
or_else o r = elim o [ some f ↦ some f | none ↦ r ]

module _ (G : List Step) (ends : List ℕ) where
  walk_none : (n a : ℕ) → walk_of G ends n a ≡ walk_by G ends none n a
  unfolding walk_of walk_by
  walk_none zero a = ap (λ b. only_if {A = Walk} b (some [])) (and_true (any (eqb a) ends))
    where
      and_true : (b : Bool) → b ≡ (b && true)
      and_true true = refl
      and_true false = refl
  walk_none (suc n) a = ap (λ f. first f G) (fun_ext (λ (t : Step). ap (λ o. elim (eqb t.from a) as (λ b. Option Walk) [ false ↦ none | true ↦ go_on t o ]) (walk_none n t.to)))

  module _ (starts : List ℕ) where
    found_none : (n : ℕ) → found_of G starts ends n ≡ first (λ a. from_start a (walk_by G ends none n a)) starts
    found_none n = ap (λ f. first f starts) (fun_ext (λ (a : ℕ). ap (from_start a) (walk_none n a)))

    least_none : (tries n : ℕ) → least G starts ends tries n ≡ least_by G starts ends none tries n
    unfolding least least_by
    least_none zero n = refl
    least_none (suc tries) n = ap (λ o. or_else o (least G starts ends tries (suc n))) (found_none n) ∙ ap (or_else (first (λ a. from_start a (walk_by G ends none n a)) starts)) (least_none tries (suc n))

-- ---- the sheet's walk

module _ (rows : List Row) (l : List Claim) where
  abbrev order : List Step
  order = sort_by step_key (steps rows l)

  abbrev begins : List ℕ
  begins = sort_by (λ a. a ∷ []) (initials rows)

  abbrev Runs : Found → Type 0
  Runs f = RunsOn order (finals rows) begins none 0 f

  there : (g : Found) → Candidate rows l g → Runs g
  there g h = let b = h.1 in (
    (
      (sort_iff (λ a. a ∷ []) (initials rows) _).1 ((initials_iff rows _).1 h.0),
      (b.0, b.2, (finals_iff rows _).1 b.1, (λ t m. (sort_iff step_key (steps rows l) t).1 ((steps_allowed rows l g.walk).1 h.2 t m)), tt),
    ),
    omega arith,
  )

  back_again : (g : Found) → Runs g → Candidate rows l g
  back_again g h = let b = h.0.1 in (
    (initials_iff rows _).0 ((sort_iff (λ a. a ∷ []) (initials rows) _).0 h.0.0),
    (b.0, (finals_iff rows _).0 b.2, b.1),
    (steps_allowed rows l g.walk).0 (λ t m. (sort_iff step_key (steps rows l) t).0 (b.3 t m)),
  )

  shortest_none : shortest rows l ≡ least_by order begins (finals rows) none (suc (length (steps rows l))) 0
  unfolding shortest
  shortest_none = least_none order (finals rows) begins (suc (length (steps rows l))) 0

  -- where there is a candidate, the best is found
  pub shortest_best : (g : Found) → Candidate rows l g → (f : Found) × (shortest rows l ≡ some f) × Best rows l f
  shortest_best g h = let b = h.1 in let v = shorten (steps rows l) g.start b.0 g.walk b.2 ((steps_allowed rows l g.walk).1 h.2) in
      let f : Found = record { start = g.start; walk = v.0 } in
      let r = least_best order (finals rows) begins none (sort_sorted step_key (steps rows l)) (sort_sorted (λ a. a ∷ []) (initials rows)) (suc (length (steps rows l))) 0
      f (there f (h.0, (b.0, b.1, v.1), (steps_allowed rows l v.0).0 v.2)) (omega (arith, v.3)) in
      (r.0, shortest_none ∙ r.1, foremost_of r.0 back_again there r.2)

  -- what is found is the best
  pub shortest_some : (f : Found) → shortest rows l ≡ some f → Best rows l f
  shortest_some f e = let r = shortest_best f (back_again f (least_sound order (finals rows) begins none (suc (length (steps rows l))) 0 f (sym shortest_none ∙ e))) in
      subst (Best rows l) (agree (shortest rows l) r.1 e) r.2

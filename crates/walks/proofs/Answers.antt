-- The walk that is found answers the question of a sheet, the first of the shortest from an initial to a final state (`leading_best`): that of no steps
-- where a state is both (`answer_here`), else that of one or more that goes down the layers (`answer_best`), or none (`answer_none`). It is the one that
-- the definition computes (`answers_some`, `answers_none`).
use Prim.Native.Nat.{ℕ, ◌≤◌}
use mathlib.Core.Path.{◌≡◌, refl, ap, ◌∙◌}
use mathlib.Core.Option.{Option, none, some}
use mathlib.Core.List.{List, []}
use lib.ListN.{length}
use Rattle.std.specs.Prelude.{None, Some}
use Rattle.lists.specs.Tests.{◌among◌}
use Rattle.masks.specs.Mask.{◌∈◌}
use Rattle.masks.proofs.Member.{member_lt}
use Rattle.rows.specs.declared.Row.{Row}
use Rattle.rows.specs.Rows.{standing_sets}
use Rattle.orderings.specs.Steps.{Claim}
use Rattle.machine.specs.declared.Step.{Step}
use Rattle.machine.specs.Order.{Found, Candidate, Foremost, Best}
use Rattle.machine.specs.Search.{shortest}
use Rattle.machine.specs.WellFormed.{Table}
use Rattle.machine.proofs.Search.{shortest_best, shortest_some}
use Rattle.machine.proofs.Walks.{foremost_of, best_unique}
use Rattle.machine.proofs.Legs.{Leading, here_foremost, stepping_foremost, stepping_none}
use Rattle.search.specs.declared.Claims.{Claims}
use Rattle.search.specs.Graph.{Graph, TurnedGraph}
use Rattle.search.specs.Hops.{all_mask}
use Rattle.search.specs.Masked.{Initials, Finals}
use Rattle.search.specs.Promises.{Stands}
use Rattle.search.proofs.Accepting.{has_all, all_claims, walk_all}
use Rattle.row_table.specs.Letters.{LettersIn}
use Rattle.walks.specs.declared.found.FoundWalk.{FoundWalk}
use Rattle.walks.specs.Layers.{Ahead, LaidFrom, Lays}
use Rattle.walks.specs.Choices.{Way, SetsRise}
use Rattle.walks.specs.Walks.{walk_from, as_found, Follows, Answers}
use Rattle.walks.proofs.Standing.{Free, sets_rise_in}
use Rattle.walks.proofs.Descending.{follows_descends}
use Rattle.walks.proofs.Courses.{lay_none, lay_foremost}

module _ (rows : List Row) (claims : List Claim) (initials finals : ℕ) (is_initials : Initials rows initials) (is_finals : Finals rows finals) (table : Table rows) where
  -- inside the set of all states, from an initial to a final state
  abbrev pub FromInitial : Found → Type 0
  FromInitial = Leading rows (λ c. c among claims) all_mask (λ s. s ∈ initials) (λ s. s ∈ finals)

  of_leading : (f : Found) → FromInitial f → Candidate rows claims f
  of_leading f c = ((is_initials f.start).0 c.0, (c.1.0, (is_finals c.1.0).0 c.1.1, c.1.2), c.3)

  -- every walk with letter steps and claims is inside that set
  pub to_leading : (f : Found) → Candidate rows claims f → FromInitial f
  to_leading f c = ((is_initials f.start).1 c.0, (c.1.0, (is_finals c.1.0).1 c.1.1, c.1.2), walk_all table.fit (λ c. c among claims) f.walk c.2, c.2)

  -- the first of the shortest of these is the sheet's
  pub leading_best : (f : Found) → Foremost FromInitial f → Best rows claims f
  leading_best f h = foremost_of f of_leading to_leading h

  -- no end is struck
  pub final_free : (s : ℕ) → s ∈ finals → Free rows all_mask s
  final_free s m = (has_all s (member_lt s finals m), ((is_finals s).0 m).1)

  -- a state that is initial and final, the lowest, is a walk of no steps
  pub answer_here : (start : ℕ) → start ∈ initials → start ∈ finals → ((s : ℕ) → s ∈ initials → s ∈ finals → start ≤ s) → Best rows claims (record { start = start; walk = [] })
  answer_here start h m low = leading_best (record { start = start; walk = [] })
      (here_foremost rows (λ c. c among claims) all_mask (λ s. s ∈ initials) (λ s. s ∈ finals) start h m low)

  module _ {g back : Graph} (turned : TurnedGraph g back) {force : Claims} {k : ℕ} (is : Stands g force rows claims k) (count : length (standing_sets rows) ≡ k)
      {words : List ℕ} {n : ℕ} (letters : LettersIn rows words n) (unmet : (s : ℕ) → s ∈ initials → s ∈ finals → ⊥) where
    pub answer_none : (layers : List ℕ) → Lays (Ahead back force all_mask) initials finals layers None → (f : Found) → ¬ Candidate rows claims f
    answer_none layers l f c = stepping_none rows (λ c. c among claims) all_mask (λ s. s ∈ initials) (λ s. s ∈ finals) unmet
        (lay_none turned is count letters (all_claims _ force) (sets_rise_in turned is count letters (all_claims _ force)) initials finals layers l) f (to_leading f c)

    pub answer_best : (layers : List ℕ) (start steps : ℕ) (l : List Step) → LaidFrom (Ahead back force all_mask) initials finals layers start steps
        → Follows (Way words n back force) (SetsRise back force) layers start steps l → Best rows claims (record { start = start; walk = walk_from start l })
    answer_best layers start steps l laid f =
        let inner = all_claims g force in
        let rise = sets_rise_in turned is count letters inner in
        let r = lay_foremost turned is count letters inner rise initials finals layers start steps laid final_free in
        let s = follows_descends (Way words n back force) (SetsRise back force) rise layers steps start l r.0 f r.1 in
        rw s (leading_best (record { start = start; walk = r.0 }) (stepping_foremost rows (λ c. c among claims) all_mask (λ s. s ∈ initials) (λ s. s ∈ finals) unmet (record { start = start; walk = r.0 }) r.2))

-- the walk found is the one that the definition computes
pub answers_some : (rows : List Row) (claims : List Claim) (w : FoundWalk) → Answers rows claims (Some w) → shortest rows claims ≡ some (as_found w)
answers_some rows claims w best =
    let r = shortest_best rows claims (as_found w) best.is in
    r.1 ∙ ap some (best_unique rows claims r.0 (as_found w) r.2 best)

pub answers_none : (rows : List Row) (claims : List Claim) → Answers rows claims None → shortest rows claims ≡ none
answers_none rows claims a = go (shortest rows claims) refl
  where
    go : (o : Option Found) → shortest rows claims ≡ o → o ≡ none
    go none q = refl
    go (some f) q = absurd (a f (shortest_some rows claims f q).is)

-- A walk from an initial to a final state, by a search inside the set of all states.
use Prim.Native.Nat.{ℕ, ◌<◌}
use mathlib.Core.Path.{◌≡◌, refl, sym, subst}
use mathlib.Core.Bool.{Bool, ◌||◌}
use mathlib.Core.Logic.{⊎_elim}
use mathlib.Core.List.Memᴰ
use mathlib.Core.List.{List, [], ◌∷◌}
use Rattle.lists.specs.Tests.{Decides, ◌among◌}
use Rattle.lists.proofs.Deciding.{iff_decides}
use Rattle.masks.specs.Mask.{member, ◌∈◌}
use native.Mathlib.Omega.{arith}
use Rattle.masks.proofs.Member.{member_lt, below_iff, union_left, union_right, union_cases}
use Rattle.rows.specs.declared.Row.{Row}
use Rattle.rows.specs.declared.Row.TheVariants.{Successor, LeftLimit, RightLimit}
use Rattle.rows.specs.Rows.{AllFit}
use Rattle.orderings.specs.Steps.{Claim, Label, letter, ω, back, mix, HasRows, members, content, Walk, Inside}
use Rattle.orderings.specs.Systems.{Allowed}
use Rattle.orderings.specs.Timelines.{timelines, Accepting}
use Rattle.orderings.proofs.Timelines.{members_iff}
use Rattle.search.specs.declared.Claims.{Claims}
use Rattle.search.specs.Graph.{Graph}
use Rattle.search.specs.Masked.{Masked, Initials, Finals, Forced}
use Rattle.search.specs.Hops.{all_mask, Reached, Inner, InnerClaims}
use Rattle.search.proofs.Chains.{chain_map}
use Rattle.search.proofs.Steps.{step_hop}
use Rattle.search.proofs.Walks.{rest_of}
use Rattle.search.proofs.Saying.{chain_iff}

-- the set of all states has each
pub has_all : (s : ℕ) → s < 64 → s ∈ all_mask
has_all s h = (below_iff 64 (omega arith) s).1 h

-- every place is inside it
all_inner : (sets : List ℕ) (places : ℕ) → Inner sets places all_mask places
all_inner sets places i = ((λ h. (h, λ s m. has_all s (member_lt s _ m))), λ h. h.0)

pub all_claims : (g : Graph) (force : Claims) → InnerClaims g force all_mask force
all_claims g force = record { loops_are = all_inner g.sets force.loops; mixes_are = all_inner g.sets force.mixes }

module _ {rows : List Row} (fit : AllFit rows) where
  in_members : (Q s : ℕ) → s among members Q → s ∈ all_mask
  in_members Q s m = has_all s (member_lt s Q ((members_iff Q s).0 m))

  and_all : (x : ℕ) (l : List ℕ) → x < 64 → ((s : ℕ) → s among l → s ∈ all_mask) → (s : ℕ) → s among (x ∷ l) → s ∈ all_mask
  and_all x l h f s m = ⊎_elim (λ e. subst (λ (y : ℕ). y ∈ all_mask) (sym e) (has_all x h)) (f s) (Memᴰ.cases_cons m)

  -- every step whose rows stand is inside it
  pub step_all : (a : ℕ) (l : Label) (b : ℕ) → HasRows rows a l b → (s : ℕ) → s among content a l b → s ∈ all_mask
  step_all a (letter x) b h =
      let f = fit (Successor a x b) h in and_all a (b ∷ []) f.0 (and_all b [] f.2 (λ s m. absurd (Memᴰ.not-nil m)))
  step_all a (ω Q) b h = and_all b (members Q) (fit (LeftLimit Q b) h.0).2 (in_members Q)
  step_all a (back Q) b h = and_all a (members Q) (fit (RightLimit a Q) h.0).2 (in_members Q)
  step_all a (mix Q) b h =
      and_all b (a ∷ members Q) (fit (LeftLimit Q b) h.1).2 (and_all a (members Q) (fit (RightLimit a Q) h.0).2 (in_members Q))

  pub walk_all : (In : Claim → Type 0) (w : Walk) → Allowed (timelines rows) In w → Inside all_mask w
  walk_all In [] h = tt
  walk_all In (t ∷ w) h = (step_all t.from t.label t.to h.0.0, walk_all In w h.2)

  module _ {g : Graph} {n : ℕ} (is_rows : Masked rows g n) {In : Claim → Type 0} {force : Claims} (forced : Forced In g n force)
      (initials finals : ℕ) (is_initials : Initials rows initials) (is_finals : Finals rows finals) where
    abbrev Accepted : Type 0
    Accepted = (w : Walk) × Accepting rows w × Allowed (timelines rows) In w

    -- the states seen are those to which one step or more lead
    pub accepted_iff : (seen both : ℕ) {b : Bool} → Reached g force initials seen
        → ((t : ℕ) → member t both ≡ (member t initials || member t seen)) → Decides b ((t : ℕ) × (t ∈ both) × (t ∈ finals)) → Decides b Accepted
    accepted_iff seen both reached is d = iff_decides to of d
      where
        to : (t : ℕ) × (t ∈ both) × (t ∈ finals) → Accepted
        to (t, h, k) = ⊎_elim (λ j. ([], (t, t, (is_initials t).0 j, (is_finals t).0 k, refl), tt))
            (λ j. let x = (reached t).0 j in let w = (chain_iff is_rows forced all_mask (all_claims g force) x.0 t).0 x.2 in
            (w.0, (x.0, t, (is_initials x.0).0 x.1, (is_finals t).0 k, w.2), w.1.1)) (union_cases initials seen both is t h)

        of : Accepted → (t : ℕ) × (t ∈ both) × (t ∈ finals)
        of (w, (a, b, ha, hb, leads), allowed) = ⊎_elim
            (λ e. (a, union_left initials seen both is a ((is_initials a).1 ha), subst (λ (x : ℕ). x ∈ finals) (sym e) ((is_finals b).1 hb)))
            (λ c. (b, union_right initials seen both is b ((reached b).1 (a, (is_initials a).1 ha, chain_map (step_hop is_rows forced all_mask (all_claims g force)) c)), (is_finals b).1 hb))
            (rest_of rows In all_mask a w b (leads, allowed, walk_all In w allowed))

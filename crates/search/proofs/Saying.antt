-- What searches by masks say of the claims, with any claims in force.
use Prim.Native.Nat.{ℕ, ◌<◌}
use mathlib.Core.Path.{◌≡◌, sym, subst}
use mathlib.Core.Bool.{◌&&◌}
use mathlib.Core.Logic.{inl, inr, ⊎_elim, ◌↔◌}
use mathlib.Core.List.Memᴰ
use mathlib.Core.List.{List, ◌∷◌}
use lib.ListN.{get_or}
use Rattle.lists.specs.Tests.{◌among◌}
use Rattle.masks.specs.Mask.{member, ◌∈◌}
use Rattle.masks.proofs.Member.{intersection_left, intersection_right, intersection_both}
use Rattle.rows.specs.declared.Row.{Row}
use Rattle.orderings.specs.Steps.{Claim, mixes, members, Unstruck}
use Rattle.orderings.specs.Claims.{Through, Loops, Entrance, Exit, OnPiece, Mixes}
use Rattle.orderings.specs.Systems.{AtHand}
use Rattle.orderings.specs.Timelines.{timelines}
use Rattle.orderings.proofs.Timelines.{members_iff}
use Rattle.orderings.proofs.Struck.{says_unstruck}
use Rattle.search.specs.declared.Claims.{Claims}
use Rattle.search.specs.Graph.{Graph}
use Rattle.search.specs.Masked.{Masked, Forced, StepInside}
use Rattle.search.specs.Hops.{Hop, Chain, InnerClaims, Joined, OnChain, Covered}
use Rattle.search.proofs.Chains.{chain_map, between_map}
use Rattle.search.proofs.Steps.{hop_step, step_hop}
use Rattle.search.proofs.Walks.{chain_leg, leg_chain, leg_between, between_leg}

-- with a state of P that is among its members
unstruck_in : (rows : List Row) (P s : ℕ) → s ∈ P → Unstruck rows (members P) → Unstruck rows (s ∷ members P)
unstruck_in rows P s i u t m = ⊎_elim (λ e. u t (subst (λ (x : ℕ). x among members P) (sym e) ((members_iff P s).1 i))) (u t) (Memᴰ.cases_cons m)

-- a set that mixes has no struck state
pub mixes_unstruck : (rows : List Row) (In : Claim → Type 0) (P : ℕ) → Mixes rows (AtHand (timelines rows) In) P → Unstruck rows (members P)
mixes_unstruck rows In P h s m = says_unstruck rows In (mixes P) h s ((members_iff P s).0 m)

module _ {rows : List Row} {g : Graph} {n : ℕ} (is : Masked rows g n) where
  -- entrances and exits of the set at place i; a set with a struck state has none that count
  pub entrance_iff : (i m : ℕ) → i < n → ((t : ℕ) → member t m ≡ (member t (get_or g.lefts i 0) && member t (get_or g.sets i 0)))
      → (e : ℕ) → (e ∈ m) ↔ (Entrance rows (get_or g.sets i 0) e × Unstruck rows (members (get_or g.sets i 0)))
  entrance_iff i m l is_m e = (
    (λ h. let r = (is.left_iff i e l).0 (intersection_left (get_or g.lefts i 0) (get_or g.sets i 0) m is_m e h) in
        ((intersection_right (get_or g.lefts i 0) (get_or g.sets i 0) m is_m e h, r.0), λ s j. r.1 s (Memᴰ.tail j))),
    λ (h, u). intersection_both (get_or g.lefts i 0) (get_or g.sets i 0) m is_m e ((is.left_iff i e l).1 (h.1, unstruck_in rows (get_or g.sets i 0) e h.0 u)) h.0,
  )

  pub exit_iff : (i m : ℕ) → i < n → ((t : ℕ) → member t m ≡ (member t (get_or g.rights i 0) && member t (get_or g.sets i 0)))
      → (f : ℕ) → (f ∈ m) ↔ (Exit rows (get_or g.sets i 0) f × Unstruck rows (members (get_or g.sets i 0)))
  exit_iff i m l is_m f = (
    (λ h. let r = (is.right_iff i f l).0 (intersection_left (get_or g.rights i 0) (get_or g.sets i 0) m is_m f h) in
        ((intersection_right (get_or g.rights i 0) (get_or g.sets i 0) m is_m f h, r.0), λ s j. r.1 s (Memᴰ.tail j))),
    λ (h, u). intersection_both (get_or g.rights i 0) (get_or g.sets i 0) m is_m f ((is.right_iff i f l).1 (h.1, unstruck_in rows (get_or g.sets i 0) f h.0 u)) h.0,
  )

  module _ {In : Claim → Type 0} {force : Claims} (forced : Forced In g n force) (p : ℕ) {inner : Claims} (is_inner : InnerClaims g force p inner) where
    abbrev Leg : ℕ → ℕ → Type 0
    Leg a b = Through (AtHand (timelines rows) In) p a b

    abbrev Links : ℕ → ℕ → Type 0
    Links a b = Hop g inner p a b

    to_step : (a b : ℕ) → Links a b → StepInside rows In p a b
    to_step = hop_step is forced p is_inner

    of_step : (a b : ℕ) → StepInside rows In p a b → Links a b
    of_step = step_hop is forced p is_inner

    -- chains by masks are walks inside p
    pub chain_iff : (a b : ℕ) → Chain Links a b ↔ Leg a b
    chain_iff a b = ((λ c. chain_leg rows In p a b (chain_map to_step c)), λ t. chain_map of_step (leg_chain rows In p a b t))

    pub loops_iff : Joined Links p ↔ Loops (AtHand (timelines rows) In) p
    loops_iff = ((λ h a b ha hb. (chain_iff a b).0 (h a b ha hb)), λ h a b ha hb. (chain_iff a b).1 (h a b ha hb))

    pub mixes_iff : (m k : ℕ) → ((e : ℕ) → (e ∈ m) ↔ (Entrance rows p e × Unstruck rows (members p)))
        → ((f : ℕ) → (f ∈ k) ↔ (Exit rows p f × Unstruck rows (members p)))
        → Covered Links m k p ↔ Mixes rows (AtHand (timelines rows) In) p
    mixes_iff m k is_m is_k = (
      (λ h. record {
        covered = λ s i. ⊎_elim (λ o. inl (on_piece s o)) (λ g. let e = (is_m s).0 g.0 in inr (e.0, ((is_k s).0 g.1).0, e.1 s ((members_iff p s).1 i))) (h.states s i);
        stepped = let c = h.chain in (c.0, c.1, ((is_m c.0).0 c.2).0, ((is_k c.1).0 c.3).0, (chain_iff c.0 c.1).0 c.4);
      }),
      λ h. let u = mixes_unstruck rows In p h in record {
        states = λ s i. ⊎_elim (λ o. inl (on_chain u s o)) (λ g. inr ((is_m s).1 (g.0, u), (is_k s).1 (g.1, u))) (h.covered s i);
        chain = let o = h.stepped in (o.0, o.1, (is_m o.0).1 (o.2, u), (is_k o.1).1 (o.3, u), (chain_iff o.0 o.1).1 o.4);
      },
    )
      where
        on_piece : (s : ℕ) → OnChain Links m k s → OnPiece rows (AtHand (timelines rows) In) p s
        on_piece s o = let t = between_leg rows In p o.0 o.1 s (between_map to_step o.0 o.1 s o.4) in
            ((o.0, o.1, ((is_m o.0).0 o.2).0, ((is_k o.1).0 o.3).0, t.0), t.1)

        on_chain : Unstruck rows (members p) → (s : ℕ) → OnPiece rows (AtHand (timelines rows) In) p s → OnChain Links m k s
        on_chain u s (o, i) =
            (o.0, o.1, (is_m o.0).1 (o.2, u), (is_k o.1).1 (o.3, u), between_map of_step o.0 o.1 s (leg_between rows In p o.0 o.1 s (o.4, i)))

-- The legs to come: at the leg of the lowest state (`comes_lead`), at those of the second set where the first is empty (`comes_later`), at none
-- (`comes_none`); and the legs of a frame are legs to come (`begins_whole`, `begins_tour`, `begins_pieces`).
use Prim.Native.Nat.{ℕ, ◌^◌, ◌≤◌, ◌<◌}
use mathlib.Core.Path.{◌≡◌, refl, ap, sym, subst, ◌∙◌}
use mathlib.Core.Bool.{not, ◌&&◌}
use mathlib.Core.Logic.{⊎_elim, ◌↔◌}
use mathlib.Core.List.{List, [], ◌∷◌, ◌++◌, map, append-nil}
use native.Mathlib.Omega.{arith}
use Rattle.masks.specs.Mask.{member, ◌∈◌, ◌⊆◌, TakesLowest}
use Rattle.masks.proofs.Member.{in_none, lt_or_le, difference_left, difference_not, difference_cases}
use Rattle.masks.proofs.Leaving.{taken_less}
use Rattle.orderings.specs.Steps.{members, Walk}
use Rattle.orderings.proofs.Members.{members_none, members_take, members_above, members_upto}
use Rattle.machine.specs.Machine.{Machine, open_claims}
use Rattle.machine.specs.Search.{shortest}
use Rattle.machine.specs.Word.{round_trip}
use Rattle.machine.specs.Expression.{walk_in}
use Rattle.search.specs.Graph.{Graph}
use Rattle.walks.specs.Choices.{Way, SetsRise}
use Rattle.walks.specs.Walks.{Descends}
use Rattle.tours.specs.declared.frames.Shape.{Shape}
use Rattle.tours.specs.declared.frames.Shape.TheVariants.{Whole, Tour, Pieces}
use Rattle.tours.specs.declared.frames.Frame.{Frame}
use Rattle.tours.specs.declared.frames.Cursor.{Cursor}
use Rattle.walks.specs.declared.found.Leg.{Leg}
use Rattle.tours.specs.Frames.{About, Framed, LaysLeg, legs, neighbour, piece_of, hops}
use Rattle.tours.specs.Parts.{leg_parts, parts_of, separator}
use Rattle.tours.specs.Cursors.{Within, legs_left, Stands, Begins}
use Rattle.std.specs.Prelude.{Option, None, Some}
use Rattle.tours.specs.Coming.{leg_of, LegWithin, LaysLegOf, legs_from, Coming, Comes}

-- ---- the legs of states

legs_cons : (m : Machine) (shape : Shape) (P a s : ℕ) (l : List ℕ) → legs_from m shape P a (s ∷ l) ≡ leg_of m shape P a s ∷ legs_from m shape P s l
legs_cons m Whole P a s l = refl
legs_cons m (Tour q) P a s l = refl
legs_cons m Pieces P a s l = refl

legs_nil : (m : Machine) (shape : Shape) (P a : ℕ) → legs_from m shape P a [] ≡ []
legs_nil m Whole P a = refl
legs_nil m (Tour q) P a = refl
legs_nil m Pieces P a = refl

members_nones : {rest later : ℕ} → rest ≡ 0 → later ≡ 0 → members rest ++ members later ≡ []
members_nones e g = rw (e, g, members_none) refl

-- the legs that a cursor has left
pub left_is : (m : Machine) (shape : Shape) (P : ℕ) (c : Cursor) → Within shape P c → legs_left m shape P c ≡ legs_from m shape P c.stop (members c.rest ++ members c.later)
left_is m Whole P c w = sym (ap (map (λ s. walk_in (shortest m.rows (open_claims m)))) (members_nones w.0 w.1))
left_is m (Tour q) P c w = refl
left_is m Pieces P c w = refl

pub left_coming : (shape : Shape) (P : ℕ) (c : Cursor) → Within shape P c → Coming shape P c.stop c.rest c.later
left_coming Whole P c w = (omega (arith, w.0), w.1)
left_coming (Tour q) P c w = w
left_coming Pieces P c w = w

-- what is laid for a shape is laid for a frame of that shape
pub lays_of : (back : Graph) (f : Frame) (a s : ℕ) (layers : List ℕ) (r : Leg) (shape : Shape) → f.shape ≡ shape
    → (LegWithin shape f.set a s → LaysLeg back shape f.set f.starts f.ends f.force (λ m. leg_of m shape f.set a s) layers r)
    → LaysLegOf back f a s layers r
lays_of back f a s layers r shape e lays m g words n k held framed within =
    subst (λ (x : Shape). Descends (Way words n back f.force) (SetsRise back f.force) layers r.start r.steps (leg_of m x f.set a s)) (sym e)
    (lays (subst (λ (x : Shape). LegWithin x f.set a s) e within) m g words n k held (subst (λ (x : Shape). Framed m g k x f.set f.starts f.ends f.force) e framed))

-- ---- at the leg of the lowest state

module _ (P a rest later low rest' : ℕ) (t : TakesLowest rest low rest') (fits : rest' < 2 ^ 64) where
  fewer_part : rest ⊆ P → rest' ⊆ P
  fewer_part h s k = h s ((t.others s).0 k).0

  leg_within : (shape : Shape) → Coming shape P a rest later → LegWithin shape P a low
  leg_within Whole h = tt
  leg_within (Tour q) h = (h.0, h.1 low t.is)
  leg_within Pieces h = h.0 low t.is

  left_within : (shape : Shape) (c : Cursor) → c.stop ≡ low → c.rest ≡ rest' → c.later ≡ later → Coming shape P a rest later → Within shape P c
  left_within Whole c e g i h = (omega (arith, taken_less rest low rest' fits t, h.0, g), i ∙ h.1)
  left_within (Tour q) c e g i h = rw (e, g, i) (h.1 low t.is, fewer_part h.1, h.2)
  left_within Pieces c e g i h = rw (g, i) (fewer_part h.0, h.1)

module _ (back : Graph) (f : Frame) (layers : List ℕ) (c : Option ℕ) (a rest later : ℕ) where
  pub comes_lead : (low rest' : ℕ) (leg : Leg) (here : Cursor) → (here.before ≡ c) × (here.state ≡ leg.start) × (here.steps ≡ leg.steps) × (here.stop ≡ low) × (here.rest ≡ rest') × (here.later ≡ later)
      → TakesLowest rest low rest' → rest' < 2 ^ 64 → LaysLegOf back f a low layers leg → Comes back f c a rest later layers (Some here)
  comes_lead low rest' leg here (is_before, is_state, is_steps, is_stop, is_rest, is_later) t fits lays m g words n k held framed coming = record {
    within = is_within;
    walk = (
      leg_of m shape P a low,
      rw (is_state, is_steps) (lays m g words n k held framed (leg_within P a rest later low rest' t fits shape coming)),
      ap (λ (l : List ℕ). parts_of c sep (legs_from m shape P a (l ++ members later))) (members_take rest low rest' t)
          ∙ ap (parts_of c sep) (legs_cons m shape P a low (members rest' ++ members later))
          ∙ ap (λ (l : List Walk). leg_parts c (leg_of m shape P a low) ++ parts_of (Some sep) sep l) (sym left_here)
          ∙ ap (λ (b : Option ℕ). leg_parts b (leg_of m shape P a low) ++ parts_of (Some sep) sep (legs_left m shape P here)) (sym is_before),
    );
  }
    where
      shape : Shape
      shape = f.shape

      P : ℕ
      P = f.set

      sep : ℕ
      sep = separator shape

      is_within : Within shape P here
      is_within = left_within P a rest later low rest' t fits shape here is_stop is_rest is_later coming

      left_here : legs_left m shape P here ≡ legs_from m shape P low (members rest' ++ members later)
      left_here = left_is m shape P here is_within ∙ rw (is_stop, is_rest, is_later) refl

-- ---- at the legs of the second set

later_coming : (shape : Shape) (P a rest later : ℕ) → Coming shape P a rest later → Coming shape P a later 0
later_coming Whole P a rest later h = (omega (arith, h.1), refl)
later_coming (Tour q) P a rest later h = (h.0, h.2, λ s k. absurd (in_none s k))
later_coming Pieces P a rest later h = (h.1, λ s k. absurd (in_none s k))

module _ (back : Graph) (f : Frame) (layers : List ℕ) (c : Option ℕ) (a rest later : ℕ) where
  pub comes_later : (r : Option Cursor) → rest ≡ 0 → Comes back f c a later 0 layers r → Comes back f c a rest later layers r
  comes_later r e comes m g words n k held framed coming =
      subst (λ (l : List ℕ). Stands m words n back f layers r (parts_of c (separator f.shape) (legs_from m f.shape f.set a l)))
      (rw (e, members_none) (append-nil (members later))) (comes m g words n k held framed (later_coming f.shape f.set a rest later coming))

  -- none is left
  pub comes_none : rest ≡ 0 → later ≡ 0 → Comes back f c a rest later layers None
  comes_none e i m g words n k held framed coming =
      ap (parts_of c (separator f.shape)) (ap (legs_from m f.shape f.set a) (members_nones e i) ∙ legs_nil m f.shape f.set a)

-- ---- the legs of a frame

-- the state 0 alone
members_one : members 1 ≡ 0 ∷ []
unfolding members member
members_one = refl

-- the states are of the set, and their legs are those of the shape
abbrev Starts : Machine → Shape → ℕ → ℕ → ℕ → ℕ → Type 0
Starts m shape P a rest later = Coming shape P a rest later × (legs m shape P ≡ legs_from m shape P a (members rest ++ members later))

starts_whole : (m : Machine) (P : ℕ) → Starts m Whole P 0 1 0
starts_whole m P = ((omega arith, refl), rw (members_one, members_none) refl)

starts_pieces : (m : Machine) (P : ℕ) → Starts m Pieces P 0 P 0
starts_pieces m P = (((λ s h. h), λ s h. absurd (in_none s h)), ap (map (λ s. piece_of P s m)) (sym (append-nil (members P)) ∙ ap (λ (l : List ℕ). members P ++ l) (sym members_none)))

-- a tour goes through the states above q, and then the others
module _ (P q higher others : ℕ) (above : (t : ℕ) → (t ∈ higher) ↔ ((t ∈ P) × (q < t))) (is : (t : ℕ) → member t others ≡ (member t P && not (member t higher))) where
  others_are : (t : ℕ) → (t ∈ others) ↔ ((t ∈ P) × (t ≤ q))
  others_are t = (
    (λ h. let p = difference_left P higher others is t h in (p, ⊎_elim (λ l. absurd (difference_not P higher others is t h ((above t).1 (p, l)))) (λ l. l) (lt_or_le q t))),
    λ h. ⊎_elim (λ i. absurd (omega (arith, ((above t).0 i).1, h.1))) (λ i. i) (difference_cases P higher others is t h.0),
  )

  trip_is : q ∈ P → round_trip P q ≡ q ∷ (members higher ++ members others)
  unfolding round_trip
  trip_is h = rw (members_above P q higher above, members_upto P q others h others_are) refl

  starts_tour : (m : Machine) → q ∈ P → Starts m (Tour q) P q higher others
  starts_tour m h = ((h, (λ t i. ((above t).0 i).0), λ t i. ((others_are t).0 i).0), ap (hops (λ a b. neighbour P a b m)) (trip_is h))

module _ (back : Graph) (f : Frame) (layers : List ℕ) (r : Option Cursor) where
  begins_from : (shape : Shape) (a rest later : ℕ) → f.shape ≡ shape → ((m : Machine) → About m shape f.set f.starts f.ends → Starts m shape f.set a rest later)
      → Comes back f None a rest later layers r → Begins back f layers r
  begins_from shape a rest later e starts comes m g words n k held framed =
      let s = subst (λ (x : Shape). Starts m x f.set a rest later) (sym e) (starts m (subst (λ (x : Shape). About m x f.set f.starts f.ends) e framed.about)) in
      subst (λ (l : List Walk). Stands m words n back f layers r (parts_of None (separator f.shape) l)) (sym s.1) (comes m g words n k held framed s.0)

  pub begins_whole : f.shape ≡ Whole → Comes back f None 0 1 0 layers r → Begins back f layers r
  begins_whole e = begins_from Whole 0 1 0 e (λ m about. starts_whole m f.set)

  pub begins_pieces : f.shape ≡ Pieces → Comes back f None 0 f.set 0 layers r → Begins back f layers r
  begins_pieces e = begins_from Pieces 0 f.set 0 e (λ m about. starts_pieces m f.set)

  pub begins_tour : (q higher others : ℕ) → f.shape ≡ Tour q → ((t : ℕ) → (t ∈ higher) ↔ ((t ∈ f.set) × (q < t)))
      → ((t : ℕ) → member t others ≡ (member t f.set && not (member t higher))) → Comes back f None q higher others layers r → Begins back f layers r
  begins_tour q higher others e above is = begins_from (Tour q) q higher others e (λ m about. starts_tour f.set q higher others above is m about.0)

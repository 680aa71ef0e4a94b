-- A cursor before parts: behind the first comes the rest of its leg (`advances_more`), or the next leg (`advances_last`).
use Prim.Native.Nat.{ℕ, zero, suc, ◌-◌, ◌≤◌, ◌<◌}
use mathlib.Core.Path.{◌≡◌, refl, ap, sym, subst, ◌∙◌}
use mathlib.Core.Option.{none, some}
use mathlib.Core.List.{List, [], ◌∷◌, ◌++◌, map}
use native.Mathlib.Omega.{arith}
use Rattle.orderings.specs.Steps.{Label, Step, members, Walk}
use Rattle.machine.specs.Machine.{Machine}
use Rattle.search.specs.Graph.{Graph}
use Rattle.std.specs.Prelude.{Option, Some}
use Rattle.machine.specs.Labels.{step_from}
use Rattle.walks.specs.Choices.{Way, SetsRise}
use Rattle.walks.specs.Walks.{Descends}
use Rattle.walks.proofs.Descending.{descends_end}
use Rattle.tours.specs.declared.frames.Shape.{Shape}
use Rattle.tours.specs.declared.frames.Shape.TheVariants.{Whole, Tour, Pieces}
use Rattle.tours.specs.declared.frames.Frame.{Frame}
use Rattle.tours.specs.declared.frames.Cursor.{Cursor}
use Rattle.tours.specs.Parts.{Part, part_of, leg_parts, parts_of, separator}
use Rattle.tours.specs.Cursors.{Within, legs_left, StandsAt, Stands, LeadsTo, Advances}
use Rattle.tours.specs.Coming.{legs_from, Comes}
use Rattle.tours.proofs.Coming.{left_is, left_coming}

-- ---- the parts of a leg that goes down layers

abbrev dotted : Walk → List Part
dotted w = map (λ (t : Step). part_of (Some 46) (some t)) w

module _ (W : ℕ → Label → ℕ → Type 0) (Ordered : Type 0) (layers : List ℕ) where
  -- its first step, and the rest
  first : (a k : ℕ) (w : Walk) → Descends W Ordered layers a (suc k) w → (t : Step) × (v : Walk) × (w ≡ t ∷ v) × Descends W Ordered layers t.to k v
  unfolding Descends
  first a k w (t, v, e, c, rest) = (step_from a t, v, e, rest)

  -- without a step there is one part, `e`
  pub parts_none : (c : Option ℕ) (a k : ℕ) (w : Walk) → k ≡ 0 → Descends W Ordered layers a k w → leg_parts c w ≡ part_of c none ∷ []
  parts_none c a k w e d = ap (leg_parts c) (descends_end W Ordered layers a w (subst (λ (x : ℕ). Descends W Ordered layers a x w) e d))

  -- with one step or none there is one part
  parts_one : (c : Option ℕ) (a k : ℕ) (w : Walk) → k ≤ 1 → Descends W Ordered layers a k w → (p : Part) × (leg_parts c w ≡ p ∷ [])
  parts_one c a zero w h d = (part_of c none, parts_none c a zero w refl d)
  parts_one c a (suc zero) w h d = let f = first a zero w d in
      (part_of c (some f.0), ap (leg_parts c) f.2 ∙ ap (λ (v : Walk). part_of c (some f.0) ∷ dotted v) (descends_end W Ordered layers f.0.to f.1 f.3))
  parts_one c a (suc (suc k)) w h d = absurd (omega arith)

  -- the parts behind the first are those of the rest, where it has a step
  parts_more : (a k : ℕ) (v : Walk) → Descends W Ordered layers a (suc k) v → dotted v ≡ leg_parts (Some 46) v
  parts_more a k v d = let f = first a k v d in ap dotted f.2 ∙ sym (ap (leg_parts (Some 46)) f.2)

-- ---- a cursor before a part

-- a step on, in the same leg
abbrev pub IsNext : Cursor → ℕ → Cursor → Type 0
IsNext c to r = (r.before ≡ Some 46) × (r.state ≡ to) × (r.steps ≡ c.steps - 1) × (r.stop ≡ c.stop) × (r.rest ≡ c.rest) × (r.later ≡ c.later)

module _ (c : Cursor) (to : ℕ) (r : Cursor) (is : IsNext c to r) where
  next_within : (shape : Shape) (P : ℕ) → Within shape P c → Within shape P r
  next_within Whole P w = rw (is.4, is.5) w
  next_within (Tour q) P w = rw (is.3, is.4, is.5) w
  next_within Pieces P w = rw (is.4, is.5) w

  next_left : (m : Machine) (shape : Shape) (P : ℕ) → legs_left m shape P c ≡ legs_left m shape P r
  next_left m Whole P = refl
  next_left m (Tour q) P = rw (is.3, is.4, is.5) refl
  next_left m Pieces P = rw (is.4, is.5) refl

module _ (m : Machine) (words : List ℕ) (n : ℕ) (back : Graph) (f : Frame) (layers : List ℕ) (c : Cursor) (p : Part) (l : List Part)
    (s : StandsAt m words n back f layers c (p ∷ l)) where
  abbrev W : ℕ → Label → ℕ → Type 0
  W = Way words n back f.force

  abbrev Ordered : Type 0
  Ordered = SetsRise back f.force

  abbrev sep : ℕ
  sep = separator f.shape

  -- the parts of the legs to come
  abbrev tail : List Part
  tail = parts_of (Some sep) sep (legs_left m f.shape f.set c)

  -- the last part of a leg
  last_part : c.steps ≤ 1 → l ≡ tail
  last_part h =
      let w = s.walk in
      let o = parts_one W Ordered layers c.before c.state c.steps w.0 h w.1 in
      let e = w.2 ∙ ap (λ (x : List Part). x ++ tail) o.1 in cc

  stands_last : (r : Option Cursor) (after : List ℕ) → c.steps ≤ 1
      → Stands m words n back f after r (parts_of (Some sep) sep (legs_from m f.shape f.set c.stop (members c.rest ++ members c.later)))
      → Stands m words n back f after r l
  stands_last r after h t = subst (Stands m words n back f after r)
      (sym (last_part h ∙ ap (parts_of (Some sep) sep) (left_is m f.shape f.set c s.within))) t

  stands_more : (to : ℕ) (r : Cursor) → IsNext c to r → 1 < c.steps → LeadsTo to p.step → StandsAt m words n back f layers r l
  stands_more to r next h leads =
      let w = s.walk in
      let two : c.steps ≡ suc (suc (c.steps - 2)) = omega arith in
      let one : suc (c.steps - 2) ≡ c.steps - 1 = omega arith in
      let d = first W Ordered layers c.state (suc (c.steps - 2)) w.0
      (subst (λ (x : ℕ). Descends W Ordered layers c.state x w.0) two w.1) in
      let e : p ∷ l ≡ part_of c.before (some d.0) ∷ (dotted d.1 ++ tail) = w.2 ∙ ap (λ (x : Walk). leg_parts c.before x ++ tail) d.2 in
      let is : p ≡ part_of c.before (some d.0) = cc in
      let rest_is : l ≡ dotted d.1 ++ tail = cc in
      let at : d.0.to ≡ to = subst (λ (x : Part). LeadsTo to x.step) is leads in
      record {
        within = next_within c to r next f.shape f.set s.within;
        walk = (
          d.1,
          rw (next.1, next.2) (subst (λ (x : ℕ). Descends W Ordered layers to x d.1) one
              (subst (λ (x : ℕ). Descends W Ordered layers x (suc (c.steps - 2)) d.1) at d.3)),
          rest_is
              ∙ ap (λ (x : List Part). x ++ tail) (parts_more W Ordered layers d.0.to (c.steps - 2) d.1 d.3)
              ∙ ap (λ (x : List Walk). leg_parts (Some 46) d.1 ++ parts_of (Some sep) sep x) (next_left c to r next m f.shape f.set)
              ∙ ap (λ (b : Option ℕ). leg_parts b d.1 ++ parts_of (Some sep) sep (legs_left m f.shape f.set r)) (sym next.0),
        );
      }

-- ---- from a part to the next

module _ (back : Graph) (f : Frame) (layers : List ℕ) (c : Cursor) (to : ℕ) where
  pub advances_more : (r : Cursor) → IsNext c to r → 1 < c.steps → Advances back f layers c to layers (Some r)
  advances_more r next h m g words n k held framed p l s leads = stands_more m words n back f layers c p l s to r next h leads

  pub advances_last : (after : List ℕ) (r : Option Cursor) (sep : ℕ) → c.steps ≤ 1 → sep ≡ separator f.shape → Comes back f (Some sep) c.stop c.rest c.later after r
      → Advances back f layers c to after r
  advances_last after r byte h e comes m g words n k held framed p l s leads =
      stands_last m words n back f layers c p l s r after h
      (subst (λ (x : ℕ). Stands m words n back f after r (parts_of (Some x) (separator f.shape) (legs_from m f.shape f.set c.stop (members c.rest ++ members c.later)))) e
      (comes m g words n k held framed (left_coming f.shape f.set c s.within)))

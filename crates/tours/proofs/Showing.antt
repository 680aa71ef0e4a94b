-- The part at a cursor: `e` where its leg has no steps left (`shows_none`), or the first step into the next layer (`shows_step`).
use Prim.Native.Nat.{ℕ, suc, ◌<◌}
use mathlib.Core.Path.{◌≡◌, refl, ap, sym, subst, ◌∙◌}
use mathlib.Core.Option.{Option, none, some}
use mathlib.Core.List.{List, ◌∷◌, ◌++◌}
use lib.ListN.{get_or}
use Rattle.std.specs.Prelude.{None, Some, IfSome}
use Rattle.std.specs.Prelude as Std
use Rattle.masks.proofs.Member.{member_lt}
use Rattle.orderings.specs.Steps.{Label, Step, Walk}
use Rattle.machine.specs.declared.Step as Code
use Rattle.machine.specs.Labels.{step_from}
use Rattle.machine.specs.Machine.{Machine}
use Rattle.search.specs.Graph.{Graph}
use Rattle.walks.specs.Choices.{Way, SetsRise, Chooses}
use Rattle.walks.specs.Walks.{Descends}
use Rattle.walks.proofs.Standing.{sets_rise_in}
use Rattle.walks.proofs.Descending.{descends_step, descends_no_step}
use Rattle.tours.specs.declared.frames.Frame.{Frame}
use Rattle.tours.specs.declared.frames.Cursor.{Cursor}
use Rattle.tours.specs.Frames.{Held, FramedBy}
use Rattle.tours.specs.Parts.{Part, part_of, leg_parts, parts_of, separator}
use Rattle.tours.specs.Cursors.{legs_left, Chosen, ShowsPart}
use Rattle.tours.proofs.Standing.{parts_none}

-- the sets stand in order
held_order : {m : Machine} {g : Graph} {words : List ℕ} {n : ℕ} {back : Graph} {k : ℕ} (f : Frame) → Held m g words n back k → FramedBy m g k f → SetsRise back f.force
held_order f held framed = sets_rise_in held.turned (record { masked = held.masked; forced = framed.forced }) held.count held.letters framed.inner

-- a chosen step leads to a state of the layer
pub chosen_low : (Ordered : Type 0) (layer : ℕ) (W : Label → ℕ → Type 0) (r : Std.Option Code.Step) → Chooses layer W Ordered r → IfSome r (λ t. t.to < 64)
chosen_low Ordered layer W None c = tt
chosen_low Ordered layer W (Some t) c = member_lt t.to layer c.1

-- the first of two lists of parts that are one
same_first : (p q : Part) (l v : List Part) → p ∷ l ≡ q ∷ v → p ≡ q
same_first p q l v e = cc

module _ (words : List ℕ) (n : ℕ) (back : Graph) (f : Frame) (layers : List ℕ) (c : Cursor) where
  abbrev Ordered : Type 0
  Ordered = SetsRise back f.force

  abbrev Ways : ℕ → Label → ℕ → Type 0
  Ways = Way words n back f.force

  -- a cursor whose leg begins with a part stands at that part
  at_part : (m : Machine) (p : Part) (l : List Part) (w : Walk) (o : Option Step) (v : List Part) (r : Std.Option Code.Step)
      → p ∷ l ≡ leg_parts c.before w ++ parts_of (Some (separator f.shape)) (separator f.shape) (legs_left m f.shape f.set c)
      → leg_parts c.before w ≡ part_of c.before o ∷ v → Chosen c.state o r → (p.before ≡ c.before) × Chosen c.state p.step r
  at_part m p l w o v r e parts chosen =
      let tail = parts_of (Some (separator f.shape)) (separator f.shape) (legs_left m f.shape f.set c) in
      let is = same_first p (part_of c.before o) l (v ++ tail) (e ∙ ap (λ (x : List Part). x ++ tail) parts) in
      (ap (λ (x : Part). x.before) is, subst (λ (x : Part). Chosen c.state x.step r) (sym is) chosen)

  pub shows_none : c.steps ≡ 0 → ShowsPart words n back f layers c None
  shows_none e m g k held framed p l s = let w = s.walk in
      at_part m p l w.0 none _ None w.2 (parts_none Ways Ordered layers c.before c.state c.steps w.0 e w.1) tt

  -- the step that is chosen is the first of what is left of the leg
  step_is : (k : ℕ) (w : Walk) (r : Std.Option Code.Step) → Ordered → Chooses (get_or layers k 0) (Ways c.state) Ordered r → Descends Ways Ordered layers c.state (suc k) w
      → (t : Step) × (v : Walk) × (w ≡ t ∷ v) × Chosen c.state (some t) r
  step_is k w None o chooses d = absurd (descends_no_step Ways Ordered o layers c.state k w chooses d)
  step_is k w (Some t) o chooses d = let s = descends_step Ways Ordered o layers c.state k t w chooses d in
      (step_from c.state t, s.0, s.1, refl)

  pub shows_step : (r : Std.Option Code.Step) (k : ℕ) → c.steps ≡ suc k → Chooses (get_or layers k 0) (Ways c.state) Ordered r → ShowsPart words n back f layers c r
  shows_step r i e chooses m g k held framed p l s =
      let w = s.walk in
      let t = step_is i w.0 r (held_order f held framed) chooses (subst (λ (x : ℕ). Descends Ways Ordered layers c.state x w.0) e w.1) in
      at_part m p l w.0 (some t.0) _ r w.2 (ap (leg_parts c.before) t.2) t.3

-- The parts of a frame, one after another, are its text (`legs_text`): that of a tour of a set (`tour_text`), of its pieces (`pieces_text`) or the
-- expression (`whole_text`). A step is written as what opens it, the text of its claim's frame and what closes it (`omega_spelled`, `back_spelled`, `mix_spelled`). The steps
-- of the parts are steps of the machine (`parts_go`), whose claims opened in earlier rounds (`parts_earlier`). No text is empty (`text_some`).
-- A cursor that has not ended stands at a part (`live_part`).
use Prim.Native.Nat.{ℕ, zero, suc, ◌/◌, ◌%◌, ◌<◌}
use mathlib.Core.Path.{◌≡◌, refl, ap, sym, ◌∙◌, subst}
use mathlib.Core.Bool.{Bool, true, false}
use Rattle.std.specs.Prelude.{Option, None, Some}
use mathlib.Core.Option.{none, some, none-ne-some}
use mathlib.Core.Logic.{⊎_elim, ◌≢◌}
use mathlib.Core.List.Memᴰ
use mathlib.Core.List.{List, [], ◌∷◌, ◌++◌, map, append_assoc, append-nil, cons≢nil}
use lib.Dec.{ltb}
use lib.ListN.{length, length-append}
use native.Mathlib.Omega.{arith}
use Rattle.lists.specs.Tests.{◌among◌, gather}
use Rattle.lists.proofs.Deciding.{map_in, map_out}
use Rattle.lists.proofs.Places.{gather_append}
use Rattle.masks.specs.Mask.{◌∈◌}
use Rattle.rows.specs.declared.Row.{Row}
use Rattle.orderings.specs.Steps.{Claim, loops, mixes, Label, letter, ω, back, mix, Step, needs, members, Walk}
use Rattle.orderings.specs.Systems.{InForce}
use Rattle.orderings.specs.Decide.{step}
use Rattle.orderings.proofs.Walks.{in_force_more}
use Rattle.orderings.proofs.Timelines.{members_iff}
use Rattle.machine.specs.Machine.{Opening, Machine, open_claims}
use Rattle.machine.specs.WellFormed.{WellFormed}
use Rattle.machine.specs.Text.{text, digit, decimal, number_text}
use Rattle.machine.specs.Word.{round_trip, joined}
use Rattle.machine.specs.Expression.{pieces, along, tour, round_of, earlier, walk_text, spelled, part, expression_of}
use Rattle.machine.proofs.Grounded.{grounded}
use Rattle.machine.proofs.Tours.{round_is, OpenedBelow}
use Rattle.machine.proofs.Turning.{rest, trip}
use Rattle.machine.proofs.Justified.{near, rest_in, rest_has, open_holds}
use Rattle.machine.proofs.Spelling.{StepBelow, below_open, shortest_steps, nearest_steps, piece_steps, open_below, part_fixed}
use Rattle.machine.proofs.Ending.{rounds_end}
use Rattle.tours.specs.declared.frames.Shape.{Shape}
use Rattle.tours.specs.declared.frames.Shape.TheVariants.{Whole, Tour, Pieces}
use Rattle.tours.specs.declared.frames.Frame.{Frame}
use Rattle.tours.specs.declared.frames.Cursor.{Cursor}
use Rattle.tours.specs.Frames.{About, neighbour, piece_of, hops, legs}
use Rattle.tours.specs.Parts.{Part, part_of, leg_parts, parts_of, separator}
use Rattle.tours.specs.Cursors.{legs_left, StandsAt}
use Rattle.search.specs.Graph.{Graph}
use Rattle.expression.specs.Texts.{before_text, part_text, shape_text, label_open, label_close}
use Rattle.expression.specs.Frames.{round_for, Goes, shape_of}

-- ---- legs, one after another

module _ (R : Step → List ℕ) where
  -- parts with a dot before each
  dots : (x : List ℕ) (w : Walk) → x ++ gather (part_text R) (map (λ s. part_of (Some 46) (some s)) w) ≡ joined 46 (x ∷ map R w)
  dots x [] = append-nil x
  dots x (s ∷ w) = ap (λ (l : List ℕ). x ++ (46 ∷ l)) (dots (R s) w)

  -- a leg's parts are what stands before it, and its walk
  pub leg_text : (c : Option ℕ) (w : Walk) → gather (part_text R) (leg_parts c w) ≡ before_text c ++ walk_text R w
  leg_text c [] = append-nil (before_text c ++ text "e")
  leg_text c (t ∷ w) = append_assoc (before_text c) (R t) _ ∙ ap (λ (l : List ℕ). before_text c ++ l) (dots (R t) w)

  module _ (s : ℕ) where
    -- legs with a byte before each
    legs_after : (x : List ℕ) (ws : List Walk) → x ++ gather (part_text R) (parts_of (Some s) s ws) ≡ joined s (x ∷ map (walk_text R) ws)
    legs_after x [] = append-nil x
    legs_after x (w ∷ ws) = ap (λ (l : List ℕ). x ++ l) (gather_append (part_text R) (leg_parts (Some s) w) (parts_of (Some s) s ws)
        ∙ ap (λ (l : List ℕ). l ++ gather (part_text R) (parts_of (Some s) s ws)) (leg_text (Some s) w)
        ∙ ap (λ (l : List ℕ). s ∷ l) (legs_after (walk_text R w) ws))

    -- the parts of legs are their walks, with a byte between them
    pub legs_text : (ws : List Walk) → gather (part_text R) (parts_of None s ws) ≡ joined s (map (walk_text R) ws)
    legs_text [] = refl
    legs_text (w ∷ ws) = gather_append (part_text R) (leg_parts None w) (parts_of (Some s) s ws)
        ∙ ap (λ (l : List ℕ). l ++ gather (part_text R) (parts_of (Some s) s ws)) (leg_text None w)
        ∙ legs_after (walk_text R w) ws

  -- one walk after another
  walks_text : (v w : Walk) → v ≢ [] → w ≢ [] → walk_text R (v ++ w) ≡ walk_text R v ++ (46 ∷ walk_text R w)
  walks_text [] w n k = absurd (n refl)
  walks_text (t ∷ v) [] n k = absurd (k refl)
  walks_text (t ∷ []) (s ∷ w) n k = refl
  walks_text (t ∷ u ∷ v) (s ∷ w) n k = ap (λ (l : List ℕ). R t ++ (46 ∷ l)) (walks_text (u ∷ v) (s ∷ w) cons≢nil k)
      ∙ sym (append_assoc (R t) (46 ∷ walk_text R (u ∷ v)) (46 ∷ walk_text R (s ∷ w)))

  -- a walk from each state of a list to the next, each with a step
  pub tour_legs : (f : ℕ → ℕ → Walk) (a : ℕ) (l : List ℕ) → l ≢ [] → ((w : Walk) → w among hops f (a ∷ l) → w ≢ [])
      → walk_text R (along f (a ∷ l)) ≡ joined 46 (map (walk_text R) (hops f (a ∷ l)))
  tour_legs f a [] n h = absurd (n refl)
  tour_legs f a (b ∷ []) n h = ap (walk_text R) (append-nil (f a b))
  tour_legs f a (b ∷ c ∷ l) n h = walks_text (f a b) (along f (b ∷ c ∷ l)) (h (f a b) (Memᴰ.head refl)) (some_first (f b c) (along f (c ∷ l)) (h (f b c) (Memᴰ.tail (Memᴰ.head refl))))
      ∙ ap (λ (x : List ℕ). walk_text R (f a b) ++ (46 ∷ x)) (tour_legs f b (c ∷ l) cons≢nil (λ w m. h w (Memᴰ.tail m)))
    where
      some_first : (v w : Walk) → v ≢ [] → v ++ w ≢ []
      some_first [] w n = absurd (n refl)
      some_first (t ∷ v) w n = cons≢nil

hops_out : (f : ℕ → ℕ → Walk) (l : List ℕ) (w : Walk) → w among hops f l → (a : ℕ) × (b : ℕ) × a among l × b among l × (w ≡ f a b)
hops_out f [] w m = absurd (Memᴰ.not-nil m)
hops_out f (a ∷ []) w m = absurd (Memᴰ.not-nil m)
hops_out f (a ∷ b ∷ l) w m = ⊎_elim (λ e. (a, b, Memᴰ.head refl, Memᴰ.tail (Memᴰ.head refl), e))
    (λ i. let r = hops_out f (b ∷ l) w i in (r.0, r.1, Memᴰ.tail r.2, Memᴰ.tail r.3, r.4)) (Memᴰ.cases_cons m)

hops_some : (f : ℕ → ℕ → Walk) (a : ℕ) (l : List ℕ) → l ≢ [] → hops f (a ∷ l) ≢ []
hops_some f a [] n = absurd (n refl)
hops_some f a (b ∷ l) n = cons≢nil

-- ---- the steps of the parts

-- a part's step is one of a leg
part_step : (c : Option ℕ) (sep : ℕ) (ws : List Walk) (p : Part) → p among parts_of c sep ws → (t : Step) → p.step ≡ some t → (v : Walk) × v among ws × t among v
part_step c sep [] p i t e = absurd (Memᴰ.not-nil i)
part_step c sep (v ∷ ws) p i t e = ⊎_elim (λ j. (v, Memᴰ.head refl, of_leg v j)) (λ j. let r = part_step (Some sep) sep ws p j t e in (r.0, Memᴰ.tail r.1, r.2)) (Memᴰ.append_cases (leg_parts c v) i)
  where
    same : (s : Step) (b : Option ℕ) → p ≡ part_of b (some s) → t ≡ s
    same s b f = let g = ap (λ (x : Part). x.step) f in cc

    of_leg : (v : Walk) → p among leg_parts c v → t among v
    of_leg [] j = absurd (none-ne-some t (sym (ap (λ (x : Part). x.step) (Memᴰ.eq_of_singleton j)) ∙ e))
    of_leg (s ∷ v) j = ⊎_elim (λ f. Memᴰ.head (same s c f))
        (λ k. let r = map_out (λ s. part_of (Some 46) (some s)) p v k in Memᴰ.tail (subst (λ x. x among v) (sym (same r.0 (Some 46) r.2)) r.1)) (Memᴰ.cases_cons j)

-- ---- no text is empty

number_some : (x : ℕ) → 0 < length (number_text x)
unfolding decimal
number_some x = by (ltb x 10)
  where
    by : (b : Bool) → 0 < length {A = ℕ} (elim b as (λ b. List ℕ) [ true ↦ digit x ∷ [] | false ↦ decimal x (x / 10) ++ (digit (x % 10) ∷ []) ])
    by true = omega arith
    by false = omega (arith, length-append (decimal x (x / 10)) (digit (x % 10) ∷ []))

joined_some : (c : ℕ) (x : List ℕ) (l : List (List ℕ)) → 0 < length x → 0 < length (joined c (x ∷ l))
joined_some c x [] h = h
joined_some c x (y ∷ l) h = omega (arith, length-append x (c ∷ joined c (y ∷ l)))

module _ (R : Step → List ℕ) (some_step : (t : Step) → 0 < length (R t)) where
  walk_some : (w : Walk) → 0 < length (walk_text R w)
  walk_some [] = omega arith
  walk_some (t ∷ w) = joined_some 46 (R t) (map R w) (some_step t)

  legs_some : (s : ℕ) (ws : List Walk) → ws ≢ [] → 0 < length (gather (part_text R) (parts_of None s ws))
  legs_some s [] n = absurd (n refl)
  legs_some s (w ∷ ws) n = rw (legs_text R s (w ∷ ws)) (joined_some s (walk_text R w) (map (walk_text R) ws) (walk_some w))

spelled_some : (rows : List Row) (l : List Opening) (R : Step → List ℕ) (p : ℕ) (x : Label) (q : ℕ) → 0 < length (spelled rows l R p x q)
spelled_some rows l R p (letter a) q = number_some a
spelled_some rows l R p (ω P) q = omega arith
spelled_some rows l R p (back P) q = omega arith
spelled_some rows l R p (mix P) q = omega arith

-- ---- the text of a frame

-- how the machine's steps are written
abbrev pub writer : Machine → Step → List ℕ
writer m = part m.rows m.openings m.rounds

writer_some : (m : Machine) (t : Step) → 0 < length (writer m t)
unfolding part
writer_some m t = by m.rounds
  where
    by : (n : ℕ) → 0 < length (part m.rows m.openings n t)
    by zero = spelled_some m.rows m.openings (λ s. []) t.from t.label t.to
    by (suc n) = spelled_some m.rows m.openings (part m.rows m.openings n) t.from t.label t.to

pub whole_text : (m : Machine) (P : ℕ) → shape_text m Whole P ≡ expression_of m
unfolding expression_of
whole_text m P = legs_text (writer m) 46 (legs m Whole P)

pub pieces_text : (m : Machine) (P : ℕ) → shape_text m Pieces P ≡ joined 44 (map (walk_text (writer m)) (pieces m.rows (earlier m.openings (mixes P)) P))
pieces_text m P = legs_text (writer m) 44 (legs m Pieces P)

-- a tour goes on from its first state, and its states are those of the set
rest_some : (P q : ℕ) → q ∈ P → rest P q ≢ []
rest_some P q h e = Memᴰ.not-nil (subst (λ (k : List ℕ). q among k) e (rest_has P q q h))

trip_in : (P q : ℕ) → q ∈ P → (s : ℕ) → s among (q ∷ rest P q) → s ∈ P
trip_in P q h s i = ⊎_elim (λ e. subst (λ x. x ∈ P) (sym e) h) (rest_in P q h s) (Memᴰ.cases_cons i)

-- a letter is its number
pub letter_spelled : (m : Machine) (a x b : ℕ) → writer m (step a (letter x) b) ≡ number_text x
unfolding part
letter_spelled m a x b = by m.rounds
  where
    by : (n : ℕ) → part m.rows m.openings n (step a (letter x) b) ≡ number_text x
    by zero = refl
    by (suc n) = refl

module _ (m : Machine) (w : WellFormed m) where
  -- the walk between neighbours of a set that loops has steps
  near_some : (P : ℕ) → loops P among open_claims m → (a b : ℕ) → a ∈ P → b ∈ P → neighbour P a b m ≢ []
  near_some P i a b h k = (near m.rows m.openings (grounded m w) P i a b h k).is.2.2

  pub tour_text : (P q : ℕ) → q ∈ P → loops P among open_claims m
      → shape_text m (Tour q) P ≡ walk_text (writer m) (tour m.rows (earlier m.openings (loops P)) P q)
  unfolding tour
  tour_text P q h i = legs_text (writer m) 46 (legs m (Tour q) P)
      ∙ rw (trip P q) (sym (tour_legs (writer m) (λ a b. neighbour P a b m) q (rest P q) (rest_some P q h)
      (λ v j. let r = hops_out (λ a b. neighbour P a b m) (q ∷ rest P q) v j in
      λ e. near_some P i r.0 r.1 (trip_in P q h r.0 r.2) (trip_in P q h r.1 r.3) (sym r.4 ∙ e))))

  -- ---- a step

  -- a step of a claim is what opens it, the text of the claim, and what closes it
  abbrev Spelled : ℕ → Label → ℕ → ℕ → Type 0
  Spelled a l P b = Goes m a l b → writer m (step a l b) ≡ label_open l ++ (shape_text m (shape_of a l b) P ++ label_close l)

  pub omega_spelled : (a P b : ℕ) → Spelled a (ω P) P b
  omega_spelled a P b g = part_fixed m w (step a (ω P) b) g.1 ∙ ap (λ (l : List ℕ). text "(" ++ (l ++ text ")w")) (sym (tour_text P a g.0.0.1 g.1))

  pub back_spelled : (a P b : ℕ) → Spelled a (back P) P b
  back_spelled a P b g = part_fixed m w (step a (back P) b) g.1 ∙ ap (λ (l : List ℕ). text "(" ++ (l ++ text ")v")) (sym (tour_text P b g.0.0.1 g.1))

  pub mix_spelled : (a P b : ℕ) → Spelled a (mix P) P b
  mix_spelled a P b g = part_fixed m w (step a (mix P) b) g.1 ∙ ap (λ (l : List ℕ). text "sh(" ++ (l ++ text ")")) (sym (pieces_text m P))

  -- ---- the steps of the parts, and their claims

  -- the steps of the legs, with claims opened before the frame's round
  leg_steps : (shape : Shape) (P : ℕ) (v : Walk) → v among legs m shape P → (t : Step) → t among v → StepBelow m.rows m.openings (round_for m shape P) t
  leg_steps Whole P v i t j =
      let h = shortest_steps m.rows (open_claims m) t (subst (λ (u : Walk). t among u) (Memᴰ.eq_of_singleton i) j) in
      (h.0, in_force_more (λ c k. let o = open_below m w c k in (o.0, o.1, o.2, omega (arith, o.3, (rounds_end m w).so_far))) (needs t.label) h.1)
  leg_steps (Tour q) P v i t j = let r = hops_out (λ a b. neighbour P a b m) (round_trip P q) v i in
      nearest_steps m.rows m.openings (loops P) P r.0 r.1 t (subst (λ (u : Walk). t among u) r.4 j)
  leg_steps Pieces P v i t j = let r = map_out (λ s. piece_of P s m) v (members P) i in
      piece_steps m.rows m.openings (mixes P) P r.0 t (subst (λ (u : Walk). t among u) r.2 j)

  module _ (shape : Shape) (P : ℕ) (p : Part) (i : p among parts_of None (separator shape) (legs m shape P)) (t : Step) (e : p.step ≡ some t) where
    abbrev below : StepBelow m.rows m.openings (round_for m shape P) t
    below = let r = part_step None (separator shape) (legs m shape P) p i t e in leg_steps shape P r.0 r.1 t r.2

    -- the step of a part is a step of the machine
    pub parts_go : Goes m t.from t.label t.to
    parts_go = below_open m.rows m.openings (round_for m shape P) t below

    -- its claim opened in an earlier round
    pub parts_earlier : (c : Claim) → needs t.label ≡ some c → (0 < round_of m.openings c) × (round_of m.openings c < round_for m shape P)
    parts_earlier c n =
        let o = subst (InForce (OpenedBelow m.openings (round_for m shape P))) n below.1 in
        let d = grounded m w in
        let f = round_is m.openings d.once o.0 o.1 in
        let g = ap (round_of m.openings) o.2 in
        (omega (arith, f, g, d.low o.0 o.1), omega (arith, f, g, o.3))

    -- and so the frame of its claim has an earlier round
    pub step_earlier : (a : ℕ) (l : Label) (b : ℕ) (c : Claim) → t ≡ step a l b → needs l ≡ some c → (0 < round_of m.openings c) × (round_of m.openings c < round_for m shape P)
    step_earlier a l b c h e = parts_earlier c (ap (λ (x : Step). needs x.label) h ∙ e)

  -- ---- no text is empty

  pub text_some : (shape : Shape) (P starts ends : ℕ) → About m shape P starts ends → 0 < length (shape_text m shape P)
  text_some Whole P starts ends h = legs_some (writer m) (writer_some m) 46 (legs m Whole P) cons≢nil
  text_some (Tour q) P starts ends h = legs_some (writer m) (writer_some m) 46 (legs m (Tour q) P)
      (subst (λ (k : List ℕ). hops (λ a b. neighbour P a b m) k ≢ []) (sym (trip P q)) (hops_some (λ a b. neighbour P a b m) q (rest P q) (rest_some P q h.0)))
  text_some Pieces P starts ends h = let k = (open_holds m.rows m.openings (grounded m w) (mixes P) h.0).1.stepped in
      legs_some (writer m) (writer_some m) 44 (legs m Pieces P)
      (λ e. Memᴰ.not-nil (subst (λ (ws : List Walk). piece_of P k.0 m among ws) e (map_in (λ s. piece_of P s m) ((members_iff P k.0).1 k.2.0))))

-- ---- where a cursor stands

pub live_part : (m : Machine) (words : List ℕ) (n : ℕ) (g : Graph) (f : Frame) (layers : List ℕ) (c : Cursor) (l : List Part)
    → StandsAt m words n g f layers c l → (p : Part) × (k : List Part) × (l ≡ p ∷ k)
live_part m words n g f layers c l s = let r = s.walk in by r.0 r.2
  where
    later : List Part
    later = parts_of (Some (separator f.shape)) (separator f.shape) (legs_left m f.shape f.set c)

    by : (w : Walk) → l ≡ leg_parts c.before w ++ later → (p : Part) × (k : List Part) × (l ≡ p ∷ k)
    by [] h = (part_of c.before none, later, h)
    by (t ∷ w) h = (part_of c.before (some t), map (λ s. part_of (Some 46) (some s)) w ++ later, h)

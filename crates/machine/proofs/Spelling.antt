-- A step is written alike at every depth from the round of its claim on, so the writer of steps is a fixed point (`part_fixed`): the walks that are
-- written for a claim need claims of earlier rounds only (`nearest_steps`, `tour_steps`, `piece_steps`), and the walk of the sheet needs
-- open claims (`shortest_steps`).
use Prim.Native.Nat.{ℕ, zero, suc, ◌≤◌, ◌+◌}
use mathlib.Core.Path.{◌≡◌, refl, ap, sym, subst}
use mathlib.Core.Option.{Option, none, some}
use mathlib.Core.Logic.{⊎_elim}
use mathlib.Core.List.Memᴰ
use mathlib.Core.List.{List, [], ◌∷◌, ◌++◌, map}
use lib.ListN.{length}
use native.Mathlib.Omega.{arith}
use Rattle.lists.specs.Tests.{◌among◌, ◌part_of◌}
use Rattle.lists.specs.Order.{sort_by}
use Rattle.lists.proofs.Deciding.{kept, map_in, map_out, map_same}
use Rattle.lists.proofs.Sorting.{sort_iff}
use Rattle.rows.specs.declared.Row.{Row}
use Rattle.orderings.specs.Steps.{Claim, loops, mixes, Label, letter, ω, back, mix, Step, Possible, needs, members, Walk}
use Rattle.orderings.specs.Systems.{InForce}
use Rattle.orderings.specs.Timelines.{timelines}
use Rattle.orderings.specs.Decide.{step, steps, steps_in, entrances, exits}
use Rattle.orderings.proofs.Walks.{in_force_more, allowed_step}
use Rattle.orderings.proofs.Deciding.{steps_iff}
use Rattle.machine.specs.Machine.{Opening, Machine, open_claims}
use Rattle.machine.specs.Order.{step_key, Found}
use Rattle.machine.specs.Search.{shortest}
use Rattle.machine.specs.Text.{text}
use Rattle.machine.specs.WellFormed.{WellFormed}
use Rattle.machine.specs.Word.{round_trip, joined}
use Rattle.machine.specs.Expression.{least_by, walk_in, ordered, nearest, piece, pieces, along, tour, round_of, earlier, walk_text, spelled, part}
use Rattle.machine.proofs.Search.{shortest_some}
use Rattle.machine.proofs.Nearest.{least_sound}
use Rattle.machine.proofs.Grounded.{Grounded, grounded, round_most}
use Rattle.machine.proofs.Tours.{round_is, OpenedBelow, below_iff}

-- ---- the steps of the walks that are written

module _ (rows : List Row) where
  -- the step exists, and the claim that it needs, if any, is in force
  abbrev pub StepWith : (Claim → Type 0) → Step → Type 0
  StepWith In t = Possible rows t.from t.label t.to × InForce In (needs t.label)

  found_in : (G : List Step) (o : Option Found) → ((f : Found) → o ≡ some f → f.walk part_of G) → walk_in o part_of G
  found_in G none h t m = absurd (Memᴰ.not-nil m)
  found_in G (some f) h t m = h f refl t m

  nearest_part : (L : List Claim) (P a b : ℕ) → nearest rows L P a b part_of ordered rows L P
  unfolding nearest
  nearest_part L P a b = let G = ordered rows L P in
      found_in G (least_by G (a ∷ []) (b ∷ []) none (length G) 1) (λ f e. (least_sound G (b ∷ []) (a ∷ []) none (length G) 1 f e).0.1.3)

  piece_part : (L : List Claim) (P s : ℕ) → piece rows L P s part_of ordered rows L P
  unfolding piece
  piece_part L P s = let G = ordered rows L P in let begins = sort_by (λ a. a ∷ []) (entrances rows P) in
      found_in G (least_by G begins (exits rows P) (some s) (length G + length G) 1) (λ f e. (least_sound G (exits rows P) begins (some s) (length G + length G) 1 f e).0.1.3)

  ordered_steps : (L : List Claim) (P : ℕ) (t : Step) → t among ordered rows L P → StepWith (λ c. c among L) t
  ordered_steps L P t m = (steps_iff rows L t).0 (kept _ (steps rows L) t ((sort_iff step_key (steps_in rows L P) t).0 m))

  -- the steps of the sheet's walk
  pub shortest_steps : (L : List Claim) (t : Step) → t among walk_in (shortest rows L) → StepWith (λ c. c among L) t
  shortest_steps L t m = go (shortest rows L) refl m
    where
      go : (o : Option Found) → shortest rows L ≡ o → t among walk_in o → StepWith (λ c. c among L) t
      go none e i = absurd (Memᴰ.not-nil i)
      go (some f) e i = allowed_step (timelines rows) (λ c. c among L) f.walk (shortest_some rows L f e).is.2 t i

  module _ (l : List Opening) where
    -- with claims opened in rounds before k
    abbrev pub StepBelow : ℕ → Step → Type 0
    StepBelow k t = StepWith (OpenedBelow l k) t

    -- which are open
    pub below_open : (k : ℕ) (t : Step) → StepBelow k t → StepWith (λ c. c among map (λ (o : Opening). o.claim) l) t
    below_open k t h = (h.0, in_force_more (λ c o. subst (λ (d : Claim). d among map (λ (x : Opening). x.claim) l) o.2 (map_in (λ (x : Opening). x.claim) o.1)) (needs t.label) h.1)

    -- the steps of the walks that are written for a claim c
    earlier_steps : (c : Claim) (P : ℕ) (t : Step) → t among ordered rows (earlier l c) P → StepBelow (round_of l c) t
    unfolding earlier
    earlier_steps c P t m = let h = ordered_steps (earlier l c) P t m in (h.0, in_force_more (λ d. (below_iff l (round_of l c) d).0) (needs t.label) h.1)

    pub nearest_steps : (c : Claim) (P a b : ℕ) (t : Step) → t among nearest rows (earlier l c) P a b → StepBelow (round_of l c) t
    nearest_steps c P a b t m = earlier_steps c P t (nearest_part (earlier l c) P a b t m)

    pub piece_steps : (c : Claim) (P s : ℕ) (t : Step) → t among piece rows (earlier l c) P s → StepBelow (round_of l c) t
    piece_steps c P s t m = earlier_steps c P t (piece_part (earlier l c) P s t m)

    along_steps : (f : ℕ → ℕ → Walk) (In : Step → Type 0) → ((a b : ℕ) (t : Step) → t among f a b → In t) → (k : List ℕ) (t : Step) → t among along f k → In t
    along_steps f In h [] t m = absurd (Memᴰ.not-nil m)
    along_steps f In h (a ∷ []) t m = absurd (Memᴰ.not-nil m)
    along_steps f In h (a ∷ b ∷ k) t m = ⊎_elim (h a b t) (along_steps f In h (b ∷ k) t) (Memᴰ.append_cases (f a b) m)

    pub tour_steps : (c : Claim) (P q : ℕ) (t : Step) → t among tour rows (earlier l c) P q → StepBelow (round_of l c) t
    unfolding tour
    tour_steps c P q t m = along_steps (nearest rows (earlier l c) P) (StepBelow (round_of l c)) (nearest_steps c P) (round_trip P q) t m

    -- ---- the writer

    -- two writers that agree on the steps with claims opened before round k
    module _ (f g : Step → List ℕ) (k : ℕ) (alike : (t : Step) → InForce (OpenedBelow l k) (needs t.label) → f t ≡ g t) where
      walk_alike : (w : Walk) (c : Claim) → round_of l c ≤ k → ((t : Step) → t among w → StepBelow (round_of l c) t) → walk_text f w ≡ walk_text g w
      walk_alike [] c h s = refl
      walk_alike (t ∷ w) c h s = ap (joined 46) (map_same f g (t ∷ w) (λ x m. alike x (in_force_more (λ d o. (o.0, o.1, o.2, omega (arith, o.3))) (needs x.label) (s x m).1)))

      -- write a step whose claim's round is k or before alike
      spelled_alike : (p : ℕ) (x : Label) (q : ℕ) → InForce (λ c. round_of l c ≤ k) (needs x) → spelled rows l f p x q ≡ spelled rows l g p x q
      spelled_alike p (letter a) q h = refl
      spelled_alike p (ω P) q h = ap (λ i. text "(" ++ (i ++ text ")w")) (walk_alike _ (loops P) h (tour_steps (loops P) P _))
      spelled_alike p (back P) q h = ap (λ i. text "(" ++ (i ++ text ")v")) (walk_alike _ (loops P) h (tour_steps (loops P) P _))
      spelled_alike p (mix P) q h = ap (λ i. text "sh(" ++ (joined 44 i ++ text ")")) (map_same (walk_text f) (walk_text g) (pieces rows (earlier l (mixes P)) P)
          (λ w m. let r = map_out (piece rows (earlier l (mixes P)) P) w (members P) m in
          walk_alike w (mixes P) h (λ t i. piece_steps (mixes P) P r.0 t (subst (λ (v : Walk). t among v) r.2 i))))

    module _ (ground : Grounded rows l) where
      round_below : (k : ℕ) (c : Claim) → OpenedBelow l (suc k) c → round_of l c ≤ k
      round_below k c o = omega (arith, ap (round_of l) o.2, round_is l ground.once o.0 o.1, o.3)

      -- one depth more changes nothing, from the round of the step's claim on
      part_more : (n p : ℕ) (x : Label) (q : ℕ) → InForce (OpenedBelow l (suc n)) (needs x) → part rows l n (step p x q) ≡ part rows l (suc n) (step p x q)
      unfolding part
      part_more zero p (letter a) q h = refl
      part_more zero p (ω P) q h = absurd (omega (arith, ground.low h.0 h.1, h.3))
      part_more zero p (back P) q h = absurd (omega (arith, ground.low h.0 h.1, h.3))
      part_more zero p (mix P) q h = absurd (omega (arith, ground.low h.0 h.1, h.3))
      part_more (suc n) p x q h = spelled_alike (part rows l n) (part rows l (suc n)) (suc n) (λ t i. part_more n t.from t.label t.to i) p x q (in_force_more (round_below (suc n)) (needs x) h)

module _ (m : Machine) (w : WellFormed m) where
  -- an open claim was opened in a round before the next
  pub open_below : (c : Claim) → c among open_claims m → OpenedBelow m.openings (suc m.rounds) c
  open_below c i = let r = map_out (λ (o : Opening). o.claim) c m.openings i in (r.0, r.1, sym r.2, omega (arith, round_most m w r.0 r.1))

  -- a step whose claim is open is written as `spelled` says, with the same writer for the steps within
  pub part_fixed : (t : Step) → InForce (λ c. c among open_claims m) (needs t.label)
      → part m.rows m.openings m.rounds t ≡ spelled m.rows m.openings (part m.rows m.openings m.rounds) t.from t.label t.to
  unfolding part
  part_fixed t h = part_more m.rows m.openings (grounded m w) m.rounds t.from t.label t.to (in_force_more open_below (needs t.label) h)

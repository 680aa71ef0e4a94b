-- Layers give the first of the shortest walks of one or more steps inside a set: it goes down one layer at each step, by the first step into it
-- (`lay_foremost`). Where no start meets a layer there is no such walk (`lay_none`).
use Prim.Native.Nat.{ℕ, zero, suc, ◌-◌, ◌≤◌, ◌<◌}
use mathlib.Core.Path.{◌≡◌, refl, ap, sym, subst}
use mathlib.Core.Bool.{◌&&◌}
use mathlib.Core.Logic.{⊎_elim, ◌↔◌, ◌≢◌}
use mathlib.Core.List.Memᴰ
use mathlib.Core.List.{List, [], ◌∷◌}
use native.Mathlib.Omega.{arith}
use lib.Dec.{eqb}
use lib.ListN.{length, get_or}
use Rattle.std.specs.Prelude.{None, Some}
use Rattle.lists.specs.Tests.{◌among◌, keep, gather}
use Rattle.lists.specs.Order.{◌≺◌}
use Rattle.lists.proofs.Deciding.{eqb_decides, and_decides, test_decides, keep_decides}
use Rattle.lists.proofs.Sorting.{before_decides, ≺_irreflexive, least_of}
use Rattle.masks.specs.Mask.{member, ◌∈◌}
use Rattle.masks.proofs.Member.{lt_or_le}
use Rattle.rows.specs.declared.Row.{Row}
use Rattle.rows.specs.Rows.{standing_sets}
use Rattle.orderings.specs.Steps.{Claim, Label, letter, ω, back, mix, Step, Walk}
use Rattle.orderings.specs.Decide.{step, steps_in}
use Rattle.orderings.proofs.Deciding.{steps_allowed, inside_iff}
use Rattle.orderings.proofs.Steps.{Runs}
use Rattle.orderings.proofs.Struck.{step_unstruck}
use Rattle.machine.specs.declared.StepLabel.{StepLabel}
use Rattle.machine.specs.declared.StepLabel.TheVariants.{Letter, Omega, Back, Mix}
use Rattle.machine.specs.declared.Step as Coded
use Rattle.machine.specs.Labels.{label_of, step_from}
use Rattle.machine.specs.Order.{kind, value, step_key, Found, Foremost}
use Rattle.machine.proofs.Nearest.{split_three}
use Rattle.search.specs.declared.Claims.{Claims}
use Rattle.search.specs.Graph.{Graph, TurnedGraph}
use Rattle.search.specs.Hops.{InnerClaims}
use Rattle.search.specs.Promises.{Stands}
use Rattle.row_table.specs.Letters.{LettersIn}
use Rattle.walks.specs.Layers.{Ahead, Layered, LaidFrom, Lays}
use Rattle.walks.specs.Choices.{Way, Chooses}
use Rattle.walks.specs.Walks.{Courses, Descends}
use Rattle.walks.proofs.Standing.{Can, Free, way_can, can_way, can_ahead, ahead_can}
use Rattle.walks.proofs.Descending.{descends_more}

-- ---- the steps inside a set, as a list

module _ (rows : List Row) (claims : List Claim) (p : ℕ) where
  listed : (a : ℕ) (l : Label) (t : ℕ) → Can rows claims p a l t → step a l t among steps_in rows claims p
  listed a l t c = (inside_iff rows claims p (step a l t ∷ [])).1 ((steps_allowed rows claims (step a l t ∷ [])).1 (c.0, c.1, tt), (c.2, tt)) (step a l t) (Memᴰ.head refl)

  listed_can : (t : Step) → t among steps_in rows claims p → Can rows claims p t.from t.label t.to
  listed_can t m =
      let r = (inside_iff rows claims p (t ∷ [])).0 (λ s i. subst (λ (x : Step). x among steps_in rows claims p) (sym (Memᴰ.eq_of_singleton i)) m) in
      let h = (steps_allowed rows claims (t ∷ [])).0 r.0 in
      (h.0, h.1, r.1.0)

abbrev made : Label → StepLabel
made (letter x) = Letter x
made (ω x) = Omega x
made (back x) = Back x
made (mix x) = Mix x

-- the step with a label is the one that is taken
taken : (layer : ℕ) (W : Label → ℕ → Type 0) (Ordered : Type 0) (l : Label) (t : ℕ) → W l t → t ∈ layer
    → (Ordered → (l' : Label) (u : ℕ) → W l' u → u ∈ layer → ¬ ((kind l' ∷ value l' ∷ u ∷ []) ≺ (kind l ∷ value l ∷ t ∷ []))) → Chooses layer W Ordered (Some (record { label = made l; to = t }))
taken layer W Ordered (letter x) t w m first = (w, m, first)
taken layer W Ordered (ω x) t w m first = (w, m, first)
taken layer W Ordered (back x) t w m first = (w, m, first)
taken layer W Ordered (mix x) t w m first = (w, m, first)

-- ---- walks inside p, with the claims that the arrays stand for

module _ {g back : Graph} (turned : TurnedGraph g back) {all force : Claims} {rows : List Row} {claims : List Claim} {k : ℕ}
    (is : Stands g all rows claims k) (count : length (standing_sets rows) ≡ k)
    {words : List ℕ} {n : ℕ} (letters : LettersIn rows words n) {p : ℕ} (inner : InnerClaims g all p force) {Ordered : Type 0} (ordered : Ordered) where
  abbrev E : ℕ → ℕ → Type 0
  E = Ahead back force p

  abbrev W : ℕ → Label → ℕ → Type 0
  W = Way words n back force

  abbrev Inner : ℕ → Walk → ℕ → Type 0
  Inner a w b = Runs rows (λ c. c among claims) p a w b

  first_can : (a b : ℕ) (t : Step) (w : Walk) → Inner a (t ∷ w) b → Can rows claims p a t.label t.to
  first_can a b t w r = subst (λ (x : ℕ). Can rows claims p x t.label t.to) r.0.0 (r.1.0, r.1.1, r.2.0)

  first_edge : (a b : ℕ) (t : Step) (w : Walk) → Inner a (t ∷ w) b → E a t.to
  first_edge a b t w r = can_ahead turned is count letters inner a t.label t.to (first_can a b t w r)

  others : (a b : ℕ) (t : Step) (w : Walk) → Inner a (t ∷ w) b → Inner t.to w b
  others a b t w r = (r.0.1, r.1.2, r.2.1)

  -- a set with the ends that no step enters, and no step from one of the starts
  pub lay_none : (starts ends : ℕ) (layers : List ℕ) → Lays E starts ends layers None → (f : Found) → ¬ Courses rows claims p starts ends f
  lay_none starts ends layers (seen, base, closed, unmet) f c = meets f.walk c.4 (c.1.2, c.3, c.2)
    where
      inside : (w : Walk) (a b : ℕ) → b ∈ ends → Inner a w b → a ∈ seen
      inside [] a b m r = rw r.0 (base b m)
      inside (t ∷ w) a b m r = closed a t.to (first_edge a b t w r) (inside w t.to b m (others a b t w r))

      meets : (w : Walk) → w ≢ [] → Inner f.start w c.1.0 → ⊥
      meets [] some r = some refl
      meets (t ∷ w) some r = unmet f.start t.to c.0 (first_edge f.start c.1.0 t w r) (inside w t.to c.1.0 c.1.1 (others f.start c.1.0 t w r))

  module _ (ends : ℕ) (layers : List ℕ) (d : ℕ) (lay : Layered E ends layers d) (free : (s : ℕ) → s ∈ ends → Free rows p s) where
    -- the start of a walk to an end is in a layer no further than the walk is long
    down : (w : Walk) (a b : ℕ) → b ∈ ends → Inner a w b → length w ≤ d → (i : ℕ) × (i ≤ length w) × (a ∈ get_or layers i 0)
    down [] a b m r l = (0, omega arith, rw (lay.base, r.0) m)
    down (t ∷ w) a b m r l =
        let i = down w t.to b m (others a b t w r) (omega arith) in
        let j = lay.closed i.0 a t.to (omega (arith, i.1)) (first_edge a b t w r) i.2 in
        (j.0, omega (arith, i.1, j.1), j.2)

    -- a is an end, or has a step to the layer below i
    abbrev At : ℕ → ℕ → Type 0
    At zero a = a ∈ get_or layers 0 0
    At (suc i) a = (t : ℕ) × E a t × (t ∈ get_or layers i 0)

    -- and none further down
    abbrev Far : ℕ → ℕ → Type 0
    Far i a = (j t : ℕ) → suc j < i → E a t → t ∈ get_or layers j 0 → ⊥

    at_in : (i a : ℕ) → i ≤ d → a ∈ get_or layers i 0 → At i a
    at_in zero a h m = m
    at_in (suc i) a h m = lay.sound i a h m

    far_in : (i a : ℕ) → i ≤ d → a ∈ get_or layers i 0 → Far i a
    far_in i a h m j t l e k =
        let r = lay.closed j a t (omega arith) e k in
        let z : r.0 ≡ i = lay.apart r.0 i a (omega (arith, r.1)) h r.2 m in
        omega (arith, r.1)

    at_free : (i a : ℕ) → At i a → Free rows p a
    at_free zero a m = free a (subst (λ (x : ℕ). a ∈ x) lay.base m)
    at_free (suc i) a (t, e, m) = let c = ahead_can turned is count letters inner a t e in (e.end, (step_unstruck rows a c.0 t c.1.0).0)

    -- of the steps into the layer below, one is the first
    first_into : (i a : ℕ) → i ≤ d → At (suc i) a → (t : Coded.Step) × Chooses (get_or layers i 0) (W a) Ordered (Some t)
    first_into i a h (t, e, m) =
        let layer = get_or layers i 0 in
        let into : (s : Step) → s among keep (λ (s : Step). eqb s.from a && member s.to layer) (steps_in rows claims p) ↔ (s among steps_in rows claims p × ((s.from ≡ a) × (s.to ∈ layer))) =
        keep_decides {P = λ (s : Step). (s.from ≡ a) × (s.to ∈ layer)} (λ (s : Step). and_decides (eqb_decides s.from a) (test_decides (member s.to layer))) (steps_in rows claims p) in
        let c = ahead_can turned is count letters inner a t e in
        let r = least_of step_key _ (step a c.0 t) ((into (step a c.0 t)).1 (listed rows claims p a c.0 t c.1, (refl, m))) in
        let z = (into r.0).0 r.1 in
        let can : Can rows claims p a r.0.label r.0.to = subst (λ (x : ℕ). Can rows claims p x r.0.label r.0.to) z.1.0 (listed_can rows claims p r.0 z.0) in (
          record { label = made r.0.label; to = r.0.to },
          taken layer (W a) Ordered r.0.label r.0.to (can_way turned is count letters inner a r.0.label r.0.to can) z.1.1
              (λ o l u w q. r.2 (step a l u) ((into (step a l u)).1
              (listed rows claims p a l u (way_can turned is count letters inner a l u (at_free (suc i) a (t, e, m)) (at_free i u (at_in i u h q)) w), (refl, q)))),
        )

    falls : (i a : ℕ) → i ≤ suc d → At i a → (w : Walk) × Descends W Ordered layers a i w
    unfolding Descends
    falls zero a h m = ([], refl)
    falls (suc i) a h m =
        let c = first_into i a (omega arith) m in
        let r = falls i c.0.to (omega arith) (at_in i c.0.to (omega arith) c.1.1) in
        (step_from a c.0 ∷ r.0, descends_more W Ordered layers a i c.0 r.0 c.1 r.1)

    -- what goes down leads to an end
    leads : (i a : ℕ) (w : Walk) → i ≤ suc d → At i a → Descends W Ordered layers a i w → (b : ℕ) × (b ∈ ends) × Inner a w b × (length w ≡ i)
    unfolding Descends
    leads zero a w h m e = (a, subst (λ (x : ℕ). a ∈ x) lay.base m, rw e (refl, tt, tt), rw e refl)
    leads (suc i) a w h m (t, v, e, c, rest) =
        let there = at_in i t.to (omega arith) c.1 in
        let r = leads i t.to v (omega arith) there rest in
        let can = way_can turned is count letters inner a (label_of t.label) t.to (at_free (suc i) a m) (at_free i t.to there) c.0 in
        (r.0, r.1, rw e ((refl, r.2.0), (can.0, can.1, r.2.1), (can.2, r.2.2)), rw e (ap suc r.3))

    -- and no walk of as many steps comes before it
    least : (i a : ℕ) (w : Walk) → i ≤ suc d → Far i a → Descends W Ordered layers a i w
        → (v : Walk) (b : ℕ) → b ∈ ends → Inner a v b → length v ≡ i → ¬ (gather step_key v ≺ gather step_key w)
    unfolding Descends
    least zero a w h far e [] b m r l q = ≺_irreflexive [] (rw e at q)
    least zero a w h far e (t ∷ v) b m r l q = absurd (omega arith)
    least (suc i) a w h far c [] b m r l q = absurd (omega arith)
    least (suc i) a w h far (s, u, e, c, rest) (t ∷ v) b m r l q =
        let y = label_of s.label in
        let low = down v t.to b m (others a b t v r) (omega arith) in
        let there : t.to ∈ get_or layers i 0 = ⊎_elim (λ (g : low.0 < i). absurd (far low.0 t.to (omega arith) (first_edge a b t v r) low.2))
        (λ (g : i ≤ low.0). let z : low.0 ≡ i = omega (arith, low.1) in subst (λ (x : ℕ). t.to ∈ get_or layers x 0) z low.2) (lt_or_le low.0 i) in
        ⊎_elim
        (c.2 ordered t.label t.to (can_way turned is count letters inner a t.label t.to (first_can a b t v r)) there)
        (λ n. least i s.to u (omega arith) (far_in i s.to (omega arith) c.1) rest v b m (subst (λ (x : ℕ). Inner x v b) n.0 (others a b t v r)) (omega arith) n.1)
        (split_three (kind t.label) (value t.label) t.to (kind y) (value y) s.to (gather step_key v) (gather step_key u) (rw e at q))

  module _ (starts ends : ℕ) (layers : List ℕ) (start steps : ℕ) (laid : LaidFrom E starts ends layers start steps) (free : (s : ℕ) → s ∈ ends → Free rows p s) where
    abbrev d : ℕ
    d = steps - 1

    -- a walk of no more steps begins with one to the last layer
    starts_at : (f : Found) → Courses rows claims p starts ends f → length f.walk ≤ steps → (length f.walk ≡ steps) × ((t : ℕ) × E f.start t × (t ∈ get_or layers d 0))
    starts_at f c = by f.walk c.4 (c.1.2, c.3, c.2)
      where
        by : (w : Walk) → w ≢ [] → Inner f.start w c.1.0 → length w ≤ steps → (length w ≡ steps) × ((t : ℕ) × E f.start t × (t ∈ get_or layers d 0))
        by [] some r l = absurd (some refl)
        by (t ∷ w) some r l =
            let i = down ends layers d laid.is free w t.to c.1.0 c.1.1 (others f.start c.1.0 t w r) (omega arith) in
            let e = first_edge f.start c.1.0 t w r in
            ⊎_elim (λ (h : i.0 < d). absurd (laid.unmet i.0 f.start t.to h c.0 e i.2))
            (λ (h : d ≤ i.0). let z : i.0 ≡ d = omega (arith, i.1) in (omega (arith, i.1, laid.some), (t.to, e, subst (λ (x : ℕ). t.to ∈ get_or layers x 0) z i.2)))
            (lt_or_le i.0 d)

    pub lay_foremost : (w : Walk) × Descends W Ordered layers start steps w × Foremost (Courses rows claims p starts ends) (record { start = start; walk = w }) × (length w ≡ steps)
    lay_foremost =
        let z : suc d ≡ steps = omega (arith, laid.some) in
        let w = falls ends layers d laid.is free (suc d) start (omega arith) laid.into in
        let r = leads ends layers d laid.is free (suc d) start w.0 (omega arith) laid.into w.1 in
        let size : length w.0 ≡ steps = omega (arith, r.3) in (
          w.0,
          subst (λ (x : ℕ). Descends W Ordered layers start x w.0) z w.1,
          record {
            is = (laid.begins, (r.0, r.1, r.2.0), r.2.2, r.2.1, λ e. absurd (let y : length w.0 ≡ 0 = ap length e in omega (arith, laid.some)));
            short = λ g c. ⊎_elim (λ (h : length g.walk < steps). absurd (let s = starts_at g c (omega arith) in omega (arith, s.0)))
                (λ (h : steps ≤ length g.walk). omega arith) (lt_or_le (length g.walk) steps);
            first = λ g c e q. let s = starts_at g c (omega arith) in let t = s.1 in ⊎_elim
                (λ (h : g.start < start). absurd (let l = laid.lowest g.start t.0 c.0 t.1 t.2 in omega arith))
                (λ m. least ends layers d laid.is free (suc d) start w.0 (omega arith) (λ j u l x y. laid.unmet j start u (omega arith) laid.begins x y) w.1
                g.walk c.1.0 c.1.1 (subst (λ (x : ℕ). Inner x g.walk c.1.0) m.0 (c.1.2, c.3, c.2)) (omega (arith, s.0)) m.1)
                ((before_decides g.start start (gather step_key g.walk) (gather step_key w.0)).to q);
          },
          size,
        )

-- The first step of one kind (`pass_first`, `pass_end`), and the first of all: kind after kind, each where those before have none (`with_letters`,
-- `with_omegas`, `with_backs`, `with_mixes`, `is_first`).
use Prim.Native.Nat.{ℕ, suc, ◌≤◌, ◌<◌}
use mathlib.Core.Path.{◌≡◌, refl, ap, sym, subst, ◌∙◌}
use mathlib.Core.Logic.{◌⊎◌, inl, inr, ⊎_elim, ◌↔◌}
use mathlib.Core.List.{List, [], ◌∷◌}
use native.Mathlib.Omega.{arith}
use lib.ListN.{get_or}
use Rattle.std.specs.Prelude.{Option, None, Some}
use Rattle.lists.specs.Order.{◌≺◌}
use Rattle.lists.proofs.Sorting.{before_decides, ≺_irreflexive}
use Rattle.masks.specs.Mask.{◌∈◌}
use Rattle.masks.proofs.Member.{lt_or_le, in_none}
use Rattle.masks.proofs.Gathering.{Gathered, gather_end}
use Rattle.orderings.specs.Steps.{Label, letter, ω, back, mix}
use Rattle.machine.specs.declared.StepLabel.{StepLabel}
use Rattle.machine.specs.declared.StepLabel.TheVariants.{Letter, Omega, Back, Mix}
use Rattle.machine.specs.declared.Step.{Step}
use Rattle.machine.specs.Labels.{label_of}
use Rattle.machine.specs.Order.{kind, value}
use Rattle.machine.proofs.Walks.{label_same}
use Rattle.search.specs.declared.Claims.{Claims}
use Rattle.search.specs.Graph.{Graph}
use Rattle.row_table.specs.Letters.{LetterAt}
use Rattle.walks.specs.Choices.{PassAt, Way, RisingAt, Picked, SetsRise, Chooses}

module _ (layers here there : List ℕ) (places a layer : ℕ) where
  -- a step by the place i leads to t
  abbrev pub Enters : ℕ → ℕ → Type 0
  Enters i t = (a ∈ get_or here i 0) × (t ∈ get_or there i 0) × (t ∈ layer)

  pub pass_end : (rest : ℕ) → Gathered Enters places rest 0 → rest ≡ 0 → (P t : ℕ) → PassAt layers here there places a P t → t ∈ layer → ⊥
  pass_end rest g z P t r m = in_none t ((gather_end g z t).1 (r.0, r.1, (r.3, r.4, m)))

  -- the lowest place left with a step, and its lowest target
  pub pass_first : (rest i met t : ℕ) → Gathered Enters places rest 0 → i ∈ rest → ((j : ℕ) → j ∈ rest → i ≤ j) → ((u : ℕ) → (u ∈ met) ↔ Enters i u)
      → ((u : ℕ) → u ∈ met → t ≤ u) → RisingAt layers places
      → (P u : ℕ) → PassAt layers here there places a P u → u ∈ layer → (get_or layers i 0 < P) ⊎ ((get_or layers i 0 ≡ P) × (t ≤ u))
  pass_first rest i met t g is_i low is_met low_t rising P u r m = ⊎_elim
      (λ h. ⊎_elim
      (λ l. inl (rw r.2 (rising i r.0 (g.through.left i is_i) r.1 l)))
      (λ l. let e : r.0 ≡ i = omega (arith, low r.0 h) in
      inr (rw (r.2, e), low_t u ((is_met u).1 (subst (λ (x : ℕ). a ∈ get_or here x 0) e r.3, subst (λ (x : ℕ). u ∈ get_or there x 0) e r.4, m))))
      (lt_or_le i r.0))
      (λ f. absurd (in_none u (f u (r.3, r.4, m))))
      (g.through.passed r.0 r.1)

-- the key with kind k, value v and target t is not after that of a label and a target
abbrev pub Rank : ℕ → ℕ → ℕ → ℕ → ℕ → ℕ → Type 0
Rank k v t k' v' t' = (k < k') ⊎ ((k ≡ k') × ((v < v') ⊎ ((v ≡ v') × (t ≤ t'))))

not_before : (k v t k' v' t' : ℕ) → Rank k v t k' v' t' → ¬ ((k' ∷ v' ∷ t' ∷ []) ≺ (k ∷ v ∷ t ∷ []))
not_before k v t k' v' t' h p = ⊎_elim (λ (l : k' < k). kinds l h)
    (λ q. ⊎_elim (λ (l : v' < v). values q.0 l h)
    (λ w. ⊎_elim (λ (l : t' < t). targets q.0 w.0 l h) (λ z. ≺_irreflexive [] z.1) ((before_decides t' t [] []).to w.1))
    ((before_decides v' v (t' ∷ []) (t ∷ [])).to q.1))
    ((before_decides k' k (v' ∷ t' ∷ []) (v ∷ t ∷ [])).to p)
  where
    kinds : k' < k → Rank k v t k' v' t' → ⊥
    kinds l (inl g) = omega arith
    kinds l (inr g) = omega (arith, g.0)

    values : k' ≡ k → v' < v → Rank k v t k' v' t' → ⊥
    values e l (inl g) = omega arith
    values e l (inr (d, inl g)) = omega arith
    values e l (inr (d, inr g)) = omega (arith, g.0)

    targets : k' ≡ k → v' ≡ v → t' < t → Rank k v t k' v' t' → ⊥
    targets e d l (inl g) = omega arith
    targets e d l (inr (f, inl g)) = omega arith
    targets e d l (inr (f, inr g)) = omega (arith, g.1)

four : (l : Label) → kind l < 4
four (letter x) = omega arith
four (ω x) = omega arith
four (back x) = omega arith
four (mix x) = omega arith

module _ (layer : ℕ) (W : Label → ℕ → Type 0) (Ordered : Type 0) where
  -- a step of one of the kinds below k
  abbrev Below : ℕ → Label → ℕ → Type 0
  Below k l t = (kind l < k) × W l t

  -- no kind is below the first
  choose_none : Chooses layer (Below 0) Ordered None
  choose_none ord l u x y = omega (arith, x.0)

  -- where the kinds below k have no step, the first of kind k is that of the kinds up to k
  choose_more : (k : ℕ) (label : ℕ → Label) → ((v : ℕ) → (kind (label v) ≡ k) × (value (label v) ≡ v)) → {Named : ℕ → StepLabel → Type 0} → ((v : ℕ) (l : StepLabel) → Named v l → label_of l ≡ label v)
      → {O : Type 0} → (Ordered → O) → (r : Option Step) → Chooses layer (Below k) Ordered None → Picked layer (λ v t. W (label v) t) Named O r → Chooses layer (Below (suc k)) Ordered r
  choose_more k label is {Named} named {O} o r none p = by r p
    where
      -- a step of kind k
      here : {C : Type 0} (l : Label) (u : ℕ) → Ordered → Below (suc k) l u → u ∈ layer → (W (label (value l)) u → kind l ≡ k → C) → C
      here l u ord (h, w) m then = ⊎_elim (λ (g : kind l < k). absurd (none ord l u (g, w) m))
          (λ (g : k ≤ kind l). let e : kind l ≡ k = omega arith in
          then (subst (λ (x : Label). W x u) (label_same l (label (value l)) (e ∙ sym (is (value l)).0) (sym (is (value l)).1)) w) e)
          (lt_or_le (kind l) k)

      by : (r : Option Step) → Picked layer (λ v t. W (label v) t) Named O r → Chooses layer (Below (suc k)) Ordered r
      by None p = λ ord l u x m. here l u ord x m (λ w e. p (o ord) (value l) u w m)
      by (Some t) (v, n, w, m, first) = rw (named v t.label n, (is v).0, (is v).1) (
        (omega arith, w),
        m,
        λ ord l u x y. here l u ord x y (λ g e. not_before k v t.to (kind l) (value l) u (inr (sym e, first (o ord) (value l) u g y))),
      )

  -- it is the first of all
  choose_all : (k : ℕ) (t : Step) → Chooses layer (Below k) Ordered (Some t) → Chooses layer W Ordered (Some t)
  choose_all k t ((h, w), m, first) = (
    w,
    m,
    λ ord l u x y. ⊎_elim (λ (g : kind l < k). first ord l u (g, x) y)
        (λ (g : k ≤ kind l). not_before (kind (label_of t.label)) (value (label_of t.label)) t.to (kind l) (value l) u (inl (omega arith)))
        (lt_or_le (kind l) k),
  )

  -- and where there is none of four kinds, there is none
  choose_last : (r : Option Step) → Chooses layer (Below 4) Ordered r → Chooses layer W Ordered r
  choose_last None c = λ ord l u w m. c ord l u (four l, w) m
  choose_last (Some t) c = choose_all 4 t c

-- ---- the four kinds

module _ (words : List ℕ) (n : ℕ) (b : Graph) (force : Claims) (a layer : ℕ) where
  -- of the kinds below k
  abbrev Upto : ℕ → Option Step → Type 0
  Upto k r = Chooses layer (Below layer (Way words n b force a) (SetsRise b force) k) (SetsRise b force) r

  pub with_letters : (r : Option Step) → Picked layer (LetterAt words n a) (λ x l. l ≡ Letter x) (Unit {0}) r → Upto 1 r
  with_letters r p = choose_more layer (Way words n b force a) (SetsRise b force) 0 letter (λ v. (refl, refl)) (λ v l e. ap label_of e) (λ o. tt) r (choose_none layer (Way words n b force a) (SetsRise b force)) p

  pub with_omegas : (r : Option Step) → Upto 1 None → Picked layer (PassAt b.sets b.sets b.rights force.loops a) (λ v l. l ≡ Omega v) (RisingAt b.sets force.loops) r → Upto 2 r
  with_omegas r none p = choose_more layer (Way words n b force a) (SetsRise b force) 1 ω (λ v. (refl, refl)) (λ v l e. ap label_of e) (λ o. o.0) r none p

  -- where no step by omega is chosen, none leads into the layer
  pub no_omega : Picked layer (PassAt b.sets b.sets b.rights force.loops a) (λ v l. l ≡ Omega v) (RisingAt b.sets force.loops) None → SetsRise b force
      → (P t : ℕ) → Way words n b force a (ω P) t → t ∈ layer → ⊥
  no_omega p o = p o.0

  pub with_backs : (r : Option Step) → Upto 2 None → Picked layer (PassAt b.sets b.lefts b.sets force.loops a) (λ v l. l ≡ Back v) (RisingAt b.sets force.loops) r → Upto 3 r
  with_backs r none p = choose_more layer (Way words n b force a) (SetsRise b force) 2 back (λ v. (refl, refl)) (λ v l e. ap label_of e) (λ o. o.0) r none p

  pub with_mixes : (r : Option Step) → Upto 3 None → Picked layer (PassAt b.sets b.lefts b.rights force.mixes a) (λ v l. l ≡ Mix v) (RisingAt b.sets force.mixes) r → Chooses layer (Way words n b force a) (SetsRise b force) r
  with_mixes r none p = choose_last layer (Way words n b force a) (SetsRise b force) r
      (choose_more layer (Way words n b force a) (SetsRise b force) 3 mix (λ v. (refl, refl)) (λ v l e. ap label_of e) (λ o. o.1) r none p)

  pub is_first : (k : ℕ) (t : Step) → Upto k (Some t) → Chooses layer (Way words n b force a) (SetsRise b force) (Some t)
  is_first k t c = choose_all layer (Way words n b force a) (SetsRise b force) k t c

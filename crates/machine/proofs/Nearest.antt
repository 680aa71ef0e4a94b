-- The first answer of a list of tries (`first_in`, `first_least`); the walk that is found by way of a state is the first of the shortest
-- (`least_sound`, `least_best`).
use Prim.Native.Nat.{ℕ, zero, suc, ◌≤◌, ◌<◌, ◌+◌}
use mathlib.Core.Path.{◌≡◌, refl, ap, sym, ◌∙◌, subst}
use mathlib.Core.Bool.{Bool, true, false, ◌&&◌}
use mathlib.Core.Option.{Option, none, some, none-ne-some, some-injective}
use mathlib.Core.Logic.{◌⊎◌, inl, inr, ⊎_elim, ◌↔◌}
use mathlib.Core.List.Memᴰ
use mathlib.Core.List.{List, [], ◌∷◌}
use lib.Dec.{eqb}
use lib.ListN.{length}
use native.Mathlib.Decide.{dec_lt}
use native.Mathlib.Omega.{arith}
use Rattle.lists.specs.Tests.{Decides, ◌among◌, ◌part_of◌, any, gather}
use Rattle.lists.specs.Order.{◌≺◌, Sorted}
use Rattle.lists.proofs.Deciding.{has_decides, eqb_decides, and_decides, so, yes_decides, no_decides}
use Rattle.lists.proofs.Sorting.{before_decides, ≺_irreflexive}
use Rattle.orderings.specs.Steps.{Step, Walk, Leads, On}
use Rattle.machine.specs.Order.{kind, value, step_key, Found, walk_key, Foremost}
use Rattle.machine.specs.Search.{first, go_on, only_if, from_start}
use Rattle.machine.specs.Expression.{met, nothing_left, walk_by, least_by}

-- ---- the first answer of a list of tries

-- what is found is one
pub agree : {A : Type 0} {u v : A} (o : Option A) → o ≡ some u → o ≡ some v → u ≡ v
agree o p q = cc

-- where numbers come before others, the first three do, or the third are equal and the rest come before
pub split_three : (a b c x y z : ℕ) (l m : List ℕ) → (a ∷ b ∷ c ∷ l) ≺ (x ∷ y ∷ z ∷ m) → ((a ∷ b ∷ c ∷ []) ≺ (x ∷ y ∷ z ∷ [])) ⊎ ((c ≡ z) × l ≺ m)
split_three a b c x y z l m h = let d = before_decides a x (b ∷ c ∷ []) (y ∷ z ∷ []) in let e = before_decides b y (c ∷ []) (z ∷ []) in
    ⊎_elim (λ i. inl (d.of (inl i))) (λ p. ⊎_elim
    (λ i. inl (d.of (inr (p.0, e.of (inl i)))))
    (λ q. ⊎_elim (λ i. inl (d.of (inr (p.0, e.of (inr (q.0, (before_decides c z [] []).of (inl i))))))) inr ((before_decides c z l m).to q.1))
    ((before_decides b y (c ∷ l) (z ∷ m)).to p.1)) ((before_decides a x (b ∷ c ∷ l) (y ∷ z ∷ m)).to h)

-- where the key of a walk is less, its first step's is less, or that leads to the same state and the rest's is less
split : (t s : Step) (v w : Walk) → gather step_key (t ∷ v) ≺ gather step_key (s ∷ w) → (step_key t ≺ step_key s) ⊎ ((t.to ≡ s.to) × gather step_key v ≺ gather step_key w)
split t s v w h = split_three (kind t.label) (value t.label) t.to (kind s.label) (value s.label) s.to (gather step_key v) (gather step_key w) h

-- of a sorted list, the first try that succeeds comes after no other that does
first_least : {A B : Type 0} (key : A → List ℕ) (f : A → Option B) (l : List A) → Sorted key l → (x : A) → x among l → (y : B) → f x ≡ some y
    → (z : A) × (u : B) × (first f l ≡ some u) × (f z ≡ some u) × (¬ (key x ≺ key z))
first_least key f [] s x m y e = absurd (Memᴰ.not-nil m)
first_least {A} {B} key f (a ∷ l) s x m y e = go (f a) refl (Memᴰ.cases_cons m) (λ i. first_least key f l s.1 x i y e)
  where
    go : (o : Option B) → f a ≡ o → (x ≡ a) ⊎ x among l → (x among l → (z : A) × (u : B) × (first f l ≡ some u) × (f z ≡ some u) × (¬ (key x ≺ key z)))
        → (z : A) × (u : B) × (elim o [ some y ↦ some y | none ↦ first f l ] ≡ some u) × (f z ≡ some u) × (¬ (key x ≺ key z))
    go (some u) g (inl i) below = (a, u, refl, g, rw i (≺_irreflexive (key a)))
    go (some u) g (inr i) below = (a, u, refl, g, s.0 x i)
    go none g (inl i) below = absurd (none-ne-some y (sym g ∙ (sym (ap f i) ∙ e)))
    go none g (inr i) below = below i

first_in : {A B : Type 0} (f : A → Option B) (l : List A) (u : B) → first f l ≡ some u → (z : A) × z among l × (f z ≡ some u)
first_in f [] u e = absurd (none-ne-some u e)
first_in {A} {B} f (a ∷ l) u e = go (f a) refl e (λ i. first_in f l u i)
  where
    go : (o : Option B) → f a ≡ o → elim o [ some y ↦ some y | none ↦ first f l ] ≡ some u → (first f l ≡ some u → (z : A) × z among l × (f z ≡ some u)) → (z : A) × z among (a ∷ l) × (f z ≡ some u)
    go (some y) g i below = (a, Memᴰ.head refl, g ∙ i)
    go none g i below = let r = below i in (r.0, Memᴰ.tail r.1, r.2)

-- ---- walks by way of a state

-- a walk from a meets the state that is still to be met
abbrev pub Meets : Option ℕ → ℕ → Walk → Type 0
Meets none a w = Unit {0}
Meets (some s) a w = On s a w

meets_step : (todo : Option ℕ) (a : ℕ) (t : Step) (w : Walk) → Meets todo a (t ∷ w) ↔ Meets (met todo a) t.to w
meets_step none a t w = ((λ m. tt), λ m. tt)
meets_step (some s) a t w = go (eqb a s) (eqb_decides a s)
  where
    go : (b : Bool) → Decides b (a ≡ s) → Meets (some s) a (t ∷ w) ↔ Meets (elim b [ true ↦ none | false ↦ some s ]) t.to w
    go true d = ((λ m. tt), λ m. inl (sym (yes_decides d)))
    go false d = (⊎_elim (λ e. absurd (no_decides d (sym e))) (λ o. o), inr)

meets_end : (todo : Option ℕ) (a : ℕ) → Decides (nothing_left (met todo a)) (Meets todo a [])
meets_end none a = record { to = λ t. tt; of = λ m. refl }
meets_end (some s) a = go (eqb a s) (eqb_decides a s)
  where
    go : (b : Bool) → Decides b (a ≡ s) → Decides (nothing_left (elim b [ true ↦ none | false ↦ some s ])) (s ≡ a)
    go true d = record { to = λ t. sym (yes_decides d); of = λ m. refl }
    go false d = record { to = λ t. let z : ◌≡◌ {A = ℕ} 0 1 = cc in absurd (omega arith); of = λ e. absurd (no_decides d (sym e)) }

module _ (G : List Step) (ends : List ℕ) where
  -- a walk of the given steps from a to an end, by way of a state
  abbrev pub Ends : Option ℕ → ℕ → Walk → Type 0
  Ends todo a w = (b : ℕ) × Leads a w b × b among ends × w part_of G × Meets todo a w

  -- the try at a step
  abbrev try : Option ℕ → ℕ → ℕ → Step → Option Walk
  try todo n a t = elim (eqb t.from a) [ false ↦ none | true ↦ go_on t (walk_by G ends (met todo a) n t.to) ]

  try_out : (todo : Option ℕ) (n a : ℕ) (t : Step) (w : Walk) → try todo n a t ≡ some w → (t.from ≡ a) × ((v : Walk) × (walk_by G ends (met todo a) n t.to ≡ some v) × (w ≡ t ∷ v))
  try_out todo n a t w e = go (eqb t.from a) (eqb_decides t.from a) (walk_by G ends (met todo a) n t.to) refl e
    where
      go : (b : Bool) → Decides b (t.from ≡ a) → (o : Option Walk) → walk_by G ends (met todo a) n t.to ≡ o → elim b [ false ↦ none | true ↦ go_on t o ] ≡ some w
          → (t.from ≡ a) × ((v : Walk) × (walk_by G ends (met todo a) n t.to ≡ some v) × (w ≡ t ∷ v))
      go true d (some v) g i = (yes_decides d, (v, g, sym (some-injective _ _ i)))
      go true d none g i = absurd (none-ne-some w i)
      go false d o g i = absurd (none-ne-some w i)

  try_in : (todo : Option ℕ) (n a : ℕ) (t : Step) (v : Walk) → t.from ≡ a → walk_by G ends (met todo a) n t.to ≡ some v → try todo n a t ≡ some (t ∷ v)
  try_in todo n a t v e f = ap (λ b. elim b as (λ x. Option Walk) [ false ↦ none | true ↦ go_on t (walk_by G ends (met todo a) n t.to) ]) (so (eqb_decides t.from a) e) ∙ ap (go_on t) f

  end_decides : (todo : Option ℕ) (a : ℕ) → Decides (any (eqb a) ends && nothing_left (met todo a)) (a among ends × Meets todo a [])
  end_decides todo a = and_decides (has_decides eqb_decides a ends) (meets_end todo a)

  walk_sound : (todo : Option ℕ) (n a : ℕ) (w : Walk) → walk_by G ends todo n a ≡ some w → Ends todo a w × (length w ≡ n)
  unfolding walk_by
  walk_sound todo zero a w e = go (any (eqb a) ends && nothing_left (met todo a)) (end_decides todo a) e
    where
      go : (b : Bool) → Decides b (a among ends × Meets todo a []) → only_if b (some []) ≡ some w → Ends todo a w × (length w ≡ 0)
      go true d i = subst (λ (v : Walk). Ends todo a v × (length v ≡ 0)) (some-injective _ _ i) ((a, refl, (yes_decides d).0, (λ t m. absurd (Memᴰ.not-nil m)), (yes_decides d).1), refl)
      go false d i = absurd (none-ne-some w i)
  walk_sound todo (suc n) a w e = let r = first_in (try todo n a) G w e in let t = try_out todo n a r.0 w r.2 in
      let v = t.1 in let h = walk_sound (met todo a) n r.0.to v.0 v.1 in
      subst (λ (x : Walk). Ends todo a x × (length x ≡ suc n)) (sym v.2)
      ((h.0.0, (t.0, h.0.1), h.0.2, (λ s m. ⊎_elim (λ i. Memᴰ.cast i r.1) (h.0.3 s) (Memᴰ.cases_cons m)), (meets_step todo a r.0 v.0).1 h.0.4), ap suc h.1)

  -- x begins with a step that t does not come before, and goes on by the first walk
  not_after : (todo : Option ℕ) (n a : ℕ) (t s : Step) (w v x : Walk) → walk_by G ends (met todo a) n t.to ≡ some v → ¬ (gather step_key w ≺ gather step_key v)
      → try todo n a s ≡ some x → ¬ (step_key t ≺ step_key s) → ¬ (gather step_key (t ∷ w) ≺ gather step_key x)
  not_after todo n a t s w v x e h g k l = let o = try_out todo n a s x g in ⊎_elim k
      (λ p. h (subst (λ (y : Walk). gather step_key w ≺ gather step_key y) (agree (walk_by G ends (met todo a) n t.to) (ap (walk_by G ends (met todo a) n) p.0 ∙ o.1.1) e) p.1))
      (split t s w o.1.0 (subst (λ (y : Walk). gather step_key (t ∷ w) ≺ gather step_key y) o.1.2 l))

  walk_least : Sorted step_key G → (todo : Option ℕ) (n a : ℕ) (w : Walk) → Ends todo a w → length w ≡ n → (v : Walk) × (walk_by G ends todo n a ≡ some v) × (¬ (gather step_key w ≺ gather step_key v))
  unfolding walk_by
  walk_least s todo zero a [] h e = ([], ap (λ b. only_if {A = Walk} b (some [])) (so (end_decides todo a) (rw h.1 h.2, h.4)), ≺_irreflexive [])
  walk_least s todo zero a (t ∷ w) h e = absurd (omega arith)
  walk_least s todo (suc n) a [] h e = absurd (omega arith)
  walk_least s todo (suc n) a (t ∷ w) h e =
      let i = walk_least s (met todo a) n t.to w (h.0, h.1.1, h.2, (λ x m. h.3 x (Memᴰ.tail m)), (meets_step todo a t w).0 h.4) (omega arith) in
      let f = first_least step_key (try todo n a) G s t (h.3 t (Memᴰ.head refl)) (t ∷ i.0) (try_in todo n a t i.0 h.1.0 i.1) in
      (f.1, f.2, not_after todo n a t f.0 w i.0 f.1 i.1 i.2 f.3 f.4)

  module _ (starts : List ℕ) (todo : Option ℕ) where
    -- a walk from a start to an end
    abbrev pub Runs : Found → Type 0
    Runs f = f.start among starts × Ends todo f.start f.walk

    -- of n steps or more
    abbrev pub RunsOn : ℕ → Found → Type 0
    RunsOn n f = Runs f × (n ≤ length f.walk)

    abbrev found_by : ℕ → Option Found
    found_by n = first (λ a. from_start a (walk_by G ends todo n a)) starts

    begin_out : (n a : ℕ) (f : Found) → from_start a (walk_by G ends todo n a) ≡ some f → (f.start ≡ a) × (walk_by G ends todo n a ≡ some f.walk)
    begin_out n a f e = go (walk_by G ends todo n a) refl e
      where
        go : (o : Option Walk) → walk_by G ends todo n a ≡ o → from_start a o ≡ some f → (f.start ≡ a) × (walk_by G ends todo n a ≡ some f.walk)
        go none g i = absurd (none-ne-some f i)
        go (some w) g i = let j = some-injective _ _ i in (sym (ap (λ (x : Found). x.start) j), g ∙ ap (λ (x : Found). some x.walk) j)

    found_sound : (n : ℕ) (f : Found) → found_by n ≡ some f → Runs f × (length f.walk ≡ n)
    found_sound n f e = let r = first_in _ starts f e in let b = begin_out n r.0 f r.2 in let w = walk_sound todo n r.0 f.walk b.1 in
        ((rw b.0 r.1, rw b.0 w.0), w.1)

    -- what is found runs
    pub least_sound : (tries n : ℕ) (f : Found) → least_by G starts ends todo tries n ≡ some f → RunsOn n f
    unfolding least_by
    least_sound zero n f e = absurd (none-ne-some f e)
    least_sound (suc tries) n f e = go (found_by n) refl e (least_sound tries (suc n) f)
      where
        go : (o : Option Found) → found_by n ≡ o → elim o [ some w ↦ some w | none ↦ least_by G starts ends todo tries (suc n) ] ≡ some f
            → (least_by G starts ends todo tries (suc n) ≡ some f → RunsOn (suc n) f) → RunsOn n f
        go (some g) i e below = let r = found_sound n f (i ∙ e) in (r.0, omega (arith, r.1))
        go none i e below = let r = below e in (r.0, omega (arith, r.1))

    module _ (order : Sorted step_key G) (order_of_starts : Sorted (λ a. a ∷ []) starts) where
      found_least : (n : ℕ) (f : Found) → Runs f → length f.walk ≡ n → (g : Found) × (found_by n ≡ some g) × (¬ (walk_key f ≺ walk_key g))
      found_least n f h e = let w = walk_least order todo n f.start f.walk h.1 e in
          let r = first_least (λ a. a ∷ []) (λ a. from_start a (walk_by G ends todo n a)) starts order_of_starts f.start h.0 (record { start = f.start; walk = w.0 }) (ap (from_start f.start) w.1) in
          let b = begin_out n r.0 r.1 r.3 in (
            r.1,
            r.2,
            λ l. ⊎_elim
                (λ i. r.4 ((before_decides f.start r.0 [] []).of (inl (omega (arith, b.0)))))
                (λ p. w.2 (subst (λ (v : Walk). gather step_key f.walk ≺ gather step_key v)
                (agree (walk_by G ends todo n f.start) (ap (walk_by G ends todo n) (p.0 ∙ b.0) ∙ b.1) w.1) p.1))
                ((before_decides f.start r.1.start (gather step_key f.walk) (gather step_key r.1.walk)).to l),
          )

      -- where one of few enough steps runs, the foremost is found
      pub least_best : (tries n : ℕ) (g : Found) → RunsOn n g → length g.walk < n + tries → (f : Found) × (least_by G starts ends todo tries n ≡ some f) × Foremost (RunsOn n) f
      unfolding least_by
      least_best zero n g h e = absurd (omega (arith, h.1))
      least_best (suc tries) n g h e = go (found_by n) refl (λ k. least_best tries (suc n) g k (omega arith))
        where
          go : (o : Option Found) → found_by n ≡ o → (RunsOn (suc n) g → (f : Found) × (least_by G starts ends todo tries (suc n) ≡ some f) × Foremost (RunsOn (suc n)) f)
              → (f : Found) × (elim o [ some w ↦ some w | none ↦ least_by G starts ends todo tries (suc n) ] ≡ some f) × Foremost (RunsOn n) f
          go (some f) i below = let r = found_sound n f i in (
            f,
            refl,
            record {
              is = (r.0, omega (arith, r.1));
              short = λ g h. omega (arith, h.1, r.1);
              first = λ g h e l. let b = found_least n g h.0 (e ∙ r.1) in b.2 (subst (λ (x : Found). walk_key g ≺ walk_key x) (agree (found_by n) i b.1) l);
            },
          )
          go none i below = let r = below (h.0, above g h (dec_lt n (length g.walk))) in let f = r.2 in (
            r.0,
            r.1,
            record {
              is = (f.is.0, omega (arith, f.is.1));
              short = λ g h. f.short g (h.0, above g h (dec_lt n (length g.walk)));
              first = λ g h. f.first g (h.0, above g h (dec_lt n (length g.walk)));
            },
          )
            where
              above : (g : Found) → RunsOn n g → Dec (n < length g.walk) → suc n ≤ length g.walk
              above g h (yes l) = l
              above g h (no m) = absurd (none-ne-some _ (sym i ∙ (found_least n g h.0 (omega (arith, h.1))).1))

-- The tour of a set from one of its states is the tour from another, turned (`tour_turned`), so their texts are equally long (`tour_length`).
use Prim.Native.Nat.{ℕ, suc, ◌+◌}
use mathlib.Core.Path.{◌≡◌, refl, ap, sym, ◌∙◌}
use mathlib.Core.Bool.{Bool, true, false}
use mathlib.Core.Logic.{◌⊎◌, inl, inr, ⊎_elim}
use mathlib.Core.List.Memᴰ
use mathlib.Core.List.{List, [], ◌∷◌, ◌++◌, map, append_assoc, append-nil}
use lib.Dec.{ltb}
use lib.ListN.{length, length-append}
use native.Mathlib.Omega.{arith}
use Rattle.lists.specs.Tests.{◌among◌, put, keep}
use Rattle.lists.proofs.Deciding.{ltb_decides, so, not_so}
use Rattle.masks.specs.Mask.{◌∈◌}
use Rattle.orderings.specs.Steps.{Step, members, Walk}
use Rattle.orderings.proofs.Timelines.{members_iff}
use Rattle.orderings.proofs.Members.{Up, members_up}
use Rattle.machine.specs.Word.{round_trip, joined}
use Rattle.machine.specs.Expression.{along, walk_text}

-- ---- the states of a set, cut at one of them

keep_all : (f : ℕ → Bool) (l : List ℕ) → ((y : ℕ) → y among l → f y ≡ true) → keep f l ≡ l
keep_all f [] h = refl
keep_all f (x ∷ l) h = ap (λ b. put b x (keep f l)) (h x (Memᴰ.head refl)) ∙ ap (λ (m : List ℕ). x ∷ m) (keep_all f l (λ y i. h y (Memᴰ.tail i)))

keep_none : (f : ℕ → Bool) (l : List ℕ) → ((y : ℕ) → y among l → f y ≡ false) → keep f l ≡ []
keep_none f [] h = refl
keep_none f (x ∷ l) h = ap (λ b. put b x (keep f l)) (h x (Memᴰ.head refl)) ∙ keep_none f l (λ y i. h y (Memᴰ.tail i))

-- the lower and the higher ones
abbrev Cut : ℕ → List ℕ → Type 0
Cut q l = (L : List ℕ) × (R : List ℕ) × (l ≡ L ++ (q ∷ R)) × (keep (ltb q) l ≡ R) × (keep (λ s. ltb s q) l ≡ L)

cut_up : (q : ℕ) (l : List ℕ) → Up l → q among l → Cut q l
cut_up q [] u m = absurd (Memᴰ.not-nil m)
cut_up q (x ∷ l) u m = go (Memᴰ.cases_cons m) (cut_up q l u.1)
  where
    go : (q ≡ x) ⊎ q among l → (q among l → Cut q l) → Cut q (x ∷ l)
    go (inl e) f = (
      [],
      l,
      ap (λ y. y ∷ l) (sym e),
      ap (λ b. put b x (keep (ltb q) l)) (not_so (ltb_decides q x) (λ h. omega arith)) ∙ keep_all (ltb q) l (λ y i. so (ltb_decides q y) (omega (arith, u.0 y i))),
      ap (λ b. put b x (keep (λ s. ltb s q) l)) (not_so (ltb_decides x q) (λ h. omega arith)) ∙ keep_none (λ s. ltb s q) l (λ y i. not_so (ltb_decides y q) (λ h. omega (arith, u.0 y i))),
    )
    go (inr i) f = let r = f i in let b = u.0 q i in (
      x ∷ r.0,
      r.1,
      ap (λ (y : List ℕ). x ∷ y) r.2,
      ap (λ b. put b x (keep (ltb q) l)) (not_so (ltb_decides q x) (λ h. omega arith)) ∙ r.3,
      ap (λ b. put b x (keep (λ s. ltb s q) l)) (so (ltb_decides x q) b) ∙ ap (λ (y : List ℕ). x ∷ y) r.4,
    )

-- two cuts of one list
abbrev Cuts : List ℕ → ℕ → List ℕ → List ℕ → ℕ → List ℕ → Type 0
Cuts L q R L' a R' = ((L ≡ L') × (q ≡ a) × (R ≡ R'))
    ⊎ (((B : List ℕ) × (L ≡ L' ++ (a ∷ B)) × (R' ≡ B ++ (q ∷ R))) ⊎ ((B : List ℕ) × (L' ≡ L ++ (q ∷ B)) × (R ≡ B ++ (a ∷ R'))))

two_cuts : (L : List ℕ) (q : ℕ) (R L' : List ℕ) (a : ℕ) (R' : List ℕ) → L ++ (q ∷ R) ≡ L' ++ (a ∷ R') → Cuts L q R L' a R'
two_cuts [] q R [] a R' e = inl (refl, cc, cc)
two_cuts [] q R (y ∷ L') a R' e = inr (inr (L', cc, cc))
two_cuts (x ∷ L) q R [] a R' e = inr (inl (L, cc, cc))
two_cuts (x ∷ L) q R (y ∷ L') a R' e = let h : x ≡ y = cc in ⊎_elim (λ p. inl (let f = p.0 in cc, p.1, p.2))
    (⊎_elim (λ p. inr (inl (p.0, (let f = p.1 in cc), p.2))) (λ p. inr (inr (p.0, (let f = p.1 in cc), p.2)))) (two_cuts L q R L' a R' (cc))

-- the states of a tour after the first
abbrev pub rest : ℕ → ℕ → List ℕ
rest P q = keep (ltb q) (members P) ++ (keep (λ s. ltb s q) (members P) ++ (q ∷ []))

pub trip : (P q : ℕ) → round_trip P q ≡ q ∷ rest P q
unfolding round_trip
trip P q = refl

-- ---- the tours

-- the second is the first, turned
abbrev pub Turned : Walk → Walk → Type 0
Turned T U = (v : Walk) × (w : Walk) × (T ≡ v ++ w) × (U ≡ w ++ v)

turned_back : {T U : Walk} → Turned T U → Turned U T
turned_back t = (t.1, t.0, t.3, t.2)

module _ (f : ℕ → ℕ → Walk) where
  along_split : (u : List ℕ) (x : ℕ) (v : List ℕ) → along f (u ++ (x ∷ v)) ≡ along f (u ++ (x ∷ [])) ++ along f (x ∷ v)
  along_split [] x v = refl
  along_split (a ∷ []) x v = ap (λ (w : Walk). w ++ along f (x ∷ v)) (sym (append-nil (f a x)))
  along_split (a ∷ b ∷ u) x v = ap (λ (w : Walk). f a b ++ w) (along_split (b ∷ u) x v) ∙ sym (append_assoc (f a b) (along f (b ∷ (u ++ (x ∷ [])))) (along f (x ∷ v)))

  -- the states before q are those before a, then a and B: from q to a by way of K, and on to q by way of B
  trips_on : (L : List ℕ) (q : ℕ) (R L' : List ℕ) (a : ℕ) (R' B : List ℕ) → L ≡ L' ++ (a ∷ B) → R' ≡ B ++ (q ∷ R)
      → Turned (along f (q ∷ (R ++ (L ++ (q ∷ []))))) (along f (a ∷ (R' ++ (L' ++ (a ∷ [])))))
  trips_on L q R L' a R' B e g = let K = R ++ L' in (
    along f ((q ∷ K) ++ (a ∷ [])),
    along f ((a ∷ B) ++ (q ∷ [])),
    rw e (ap (λ (k : List ℕ). along f (q ∷ k)) (regroup R L' (a ∷ B) (q ∷ [])) ∙ along_split (q ∷ K) a (B ++ (q ∷ []))),
    rw g (ap (λ (k : List ℕ). along f (a ∷ k)) (sym (regroup B (q ∷ R) L' (a ∷ []))) ∙ along_split (a ∷ B) q (K ++ (a ∷ []))),
  )
    where
      regroup : (x y z w : List ℕ) → x ++ ((y ++ z) ++ w) ≡ (x ++ y) ++ (z ++ w)
      regroup x y z w = simp append_assoc refl

  trips_turned : (L : List ℕ) (q : ℕ) (R L' : List ℕ) (a : ℕ) (R' : List ℕ) → Cuts L q R L' a R'
      → Turned (along f (q ∷ (R ++ (L ++ (q ∷ []))))) (along f (a ∷ (R' ++ (L' ++ (a ∷ [])))))
  trips_turned L q R L' a R' (inl p) = let T = along f (q ∷ (R ++ (L ++ (q ∷ [])))) in ([], T, refl, rw (← p.0, ← p.1, ← p.2) (sym (append-nil T)))
  trips_turned L q R L' a R' (inr (inl p)) = trips_on L q R L' a R' p.0 p.1 p.2
  trips_turned L q R L' a R' (inr (inr p)) = turned_back (trips_on L' a R' L q R p.0 p.1 p.2)

  -- the tour from a is the tour from q, turned
  pub tour_turned : (P q a : ℕ) → q ∈ P → a ∈ P → Turned (along f (round_trip P q)) (along f (round_trip P a))
  tour_turned P q a h k =
      let c = cut_up q (members P) (members_up P) ((members_iff P q).1 h) in
      let d = cut_up a (members P) (members_up P) ((members_iff P a).1 k) in
      rw (trip P q, trip P a, c.3, c.4, d.3, d.4)
      (trips_turned c.0 q c.1 d.0 a d.1 (two_cuts c.0 q c.1 d.0 a d.1 (sym c.2 ∙ d.2)))

-- ---- how long their texts are

module _ (inner : Step → List ℕ) where
  -- the bytes of the parts, and a byte for each
  weight : Walk → ℕ
  weight [] = 0
  weight (t ∷ w) = suc (length (inner t)) + weight w

  weight_append : (v w : Walk) → weight (v ++ w) ≡ weight v + weight w
  unfolding weight
  weight_append [] w = omega arith
  weight_append (t ∷ v) w = omega (arith, weight_append v w)

  -- a byte between parts: one less
  text_length : (t : Step) (w : Walk) → suc (length (walk_text inner (t ∷ w))) ≡ weight (t ∷ w)
  unfolding weight
  text_length t [] = omega arith
  text_length t (u ∷ w) = omega (arith, length-append (inner t) (46 ∷ joined 46 (map inner (u ∷ w))), text_length u w)

  turned_length : (v w : Walk) → length (walk_text inner (v ++ w)) ≡ length (walk_text inner (w ++ v))
  turned_length [] w = ap (λ (u : Walk). length (walk_text inner u)) (sym (append-nil w))
  turned_length (t ∷ v) [] = ap (λ (u : Walk). length (walk_text inner u)) (append-nil (t ∷ v))
  turned_length (t ∷ v) (s ∷ w) =
      omega (arith, text_length t (v ++ (s ∷ w)), text_length s (w ++ (t ∷ v)), weight_append (t ∷ v) (s ∷ w), weight_append (s ∷ w) (t ∷ v))

  -- the text of a tour is as long from any state of the set
  pub tour_length : (f : ℕ → ℕ → Walk) (P q a : ℕ) → q ∈ P → a ∈ P → length (walk_text inner (along f (round_trip P q))) ≡ length (walk_text inner (along f (round_trip P a)))
  tour_length f P q a h k = let t = tour_turned f P q a h k in rw (t.2, t.3) (turned_length t.0 t.1)

-- Rounds are depths, in any system where more walks show more and finitely many walks are enough (`Lawful`). `sound` and `complete`: what is
-- derived is open by its depth, what is open is derived; so `open_iff_depth`, `opens_iff_least`, `accepted_iff_depth`; at rest `fixpoint`,
-- `derivable_iff_open`.
use Prim.Native.Nat.{ℕ, zero, suc, ◌-◌, ◌≤◌, ◌<◌}
use mathlib.Core.Path.{◌≡◌, refl, ap}
use mathlib.Core.Logic.{◌⊎◌, inl, inr, ⊎_elim, ◌↔◌}
use mathlib.Core.List.Memᴰ
use mathlib.Core.List.{List, [], ◌∷◌, ◌++◌}
use native.Mathlib.Omega.{arith}
use native.Mathlib.Decide.{dec_le, ℕ_discrete}
use Rattle.lists.specs.Tests.{◌among◌, ◌part_of◌, gather}
use Rattle.lists.proofs.Deciding.{gather_in, gather_out}
use Rattle.orderings.specs.Systems.{System, Allowed, AtHand, Holds, walk_depth, greatest, Line, Derivation, Has, choose, depth, Valid, Derivable, LeastDepth, AcceptedIn}
use Rattle.orderings.specs.Rounds.{OpenBy, Opens, AcceptedBy}
use Rattle.orderings.proofs.Walks.{needed, allowed_use, allowed_change, allowed_more, depth_least, depth_most, greatest_least, greatest_most}

pub record Lawful (S : System) : Type 1 where
  -- more walks show more
  pub more : {W W' : List S.Step → Type 0} → ((w : List S.Step) → W w → W' w) → (c : S.Claim) → S.Says W c → S.Says W' c
  -- finitely many walks are enough
  pub finite : {W : List S.Step → Type 0} (c : S.Claim) → S.Says W c → (ws : List (List S.Step)) × ((w : List S.Step) → w among ws → W w) × S.Says (λ w. w among ws) c

choose_cases : {A : Type 0} (x : Dec A) (P : ℕ → Type 0) {m n : ℕ} → (A → P m) → (¬ A → P n) → P (choose x m n)
choose_cases (yes a) P f g = f a
choose_cases (no h) P f g = g h

-- what holds of the elements of two lists, of none, and of one
either : {A : Type 0} {l m : List A} {P : A → Type 0} → ((x : A) → x among l → P x) → ((x : A) → x among m → P x) → (x : A) → x among (l ++ m) → P x
either {l = l} f g x h = ⊎_elim (f x) (g x) (Memᴰ.append_cases l h)

nobody : {A : Type 0} (P : A → Type 0) (x : A) → x among [] → P x
nobody P x m = absurd (Memᴰ.not-nil m)

only : {A : Type 0} (P : A → Type 0) {a : A} → P a → (x : A) → x among (a ∷ []) → P x
only P p x m = rw (Memᴰ.eq_of_singleton m) p

module _ (S : System) where
  -- a derivation has the claims of which it has a depth
  pub has_depth : (D : Derivation S) (c : S.Claim) → Has S D c → 0 < depth S D c
  unfolding depth
  has_depth [] c m = absurd (Memᴰ.not-nil m)
  has_depth (l ∷ D) c m = choose_cases (S.same c l.claim) (λ n. 0 < n) (λ e. omega arith)
      (λ n. ⊎_elim (λ e. absurd (n e)) (has_depth D c) (Memᴰ.cases_cons m))

  pub depth_has : (D : Derivation S) (c : S.Claim) → 0 < depth S D c → Has S D c
  unfolding depth
  depth_has [] c h = absurd (omega arith)
  depth_has (l ∷ D) c h = choose_cases (S.same c l.claim) (λ n. 0 < n → Has S (l ∷ D) c) (λ e i. Memᴰ.head e) (λ n i. Memᴰ.tail (depth_has D c i)) h

  -- a claim is deeper than each walk that justifies it
  pub walk_counts : (l : Line S) (D : Derivation S) (w : List S.Step) → w among l.walks → walk_depth S (depth S D) w < depth S (l ∷ D) l.claim
  unfolding depth
  walk_counts l D w m = choose_cases (S.same l.claim l.claim) (λ n. walk_depth S (depth S D) w < n)
      (λ e. omega (arith, greatest_least S (depth S D) l.walks w m)) (λ n. absurd (n refl))

  -- where numbers fall from each claim to those that its walks need, they are no less than the depths
  pub depth_below : (f : S.Claim → ℕ) (D : Derivation S)
      → ((x : Line S) → x among D → (0 < f x.claim) × ((w : List S.Step) → w among x.walks → (c : S.Claim) → c among needed S w → f c < f x.claim))
      → (c : S.Claim) → depth S D c ≤ f c
  unfolding depth
  depth_below f [] h c = omega arith
  depth_below f (l ∷ D) h c = choose_cases (S.same c l.claim) (λ n. n ≤ f c) (λ e. rw e (top (depth_below f D (λ x m. h x (Memᴰ.tail m))))) (λ n. depth_below f D (λ x m. h x (Memᴰ.tail m)) c)
    where
      top : ((c : S.Claim) → depth S D c ≤ f c) → suc (greatest S (depth S D) l.walks) ≤ f l.claim
      top below = let t = h l (Memᴰ.head refl) in
          omega (arith, t.0, greatest_most S (depth S D) l.walks (f l.claim - 1) (λ w m. depth_most S (depth S D) w (f l.claim - 1) (λ c i. omega (arith, below c, t.1 w m c i))))

  -- it has only claims that a derivation may hold
  pub has_subject : (D : Derivation S) (c : S.Claim) → Valid S D → Has S D c → S.Subject c
  has_subject [] c v m = absurd (Memᴰ.not-nil m)
  has_subject (l ∷ D) c v m = ⊎_elim (λ e. rw e v.0) (has_subject D c v.3) (Memᴰ.cases_cons m)

  -- what is open holds with the claims that were open before
  pub open_earlier : (k : ℕ) (c : S.Claim) → OpenBy S k c → (j : ℕ) × Holds S (OpenBy S j) c
  unfolding OpenBy
  open_earlier zero c o = absurd o
  open_earlier (suc k) c (inl o) = open_earlier k c o
  open_earlier (suc k) c (inr i) = (k, i)

  module _ (law : Lawful S) where
    pub holds_more : {In In' : S.Claim → Type 0} → ((c : S.Claim) → In c → In' c) → (c : S.Claim) → Holds S In c → Holds S In' c
    holds_more up c h = (h.0, law.more (λ w a. (a.0, allowed_more S up w a.1)) c h.1)

    -- what is open stays open
    pub open_le : (k m : ℕ) (c : S.Claim) → k ≤ m → OpenBy S k c → OpenBy S m c
    unfolding OpenBy
    open_le zero m c le h = absurd h
    open_le (suc k) zero c le h = absurd (omega arith)
    open_le (suc k) (suc m) c le (inl h) = inl (open_le k m c (omega arith) h)
    open_le (suc k) (suc m) c le (inr h) = inr (holds_more (λ c' i. open_le k m c' (omega arith) i) c h)

    -- a walk that claims of depth at most k allow is allowed by what is open after k rounds, where each claim is open by its depth
    deep : (D : Derivation S) (k : ℕ) → ((c : S.Claim) → Has S D c → OpenBy S (depth S D c) c) → (w : List S.Step) → walk_depth S (depth S D) w ≤ k
        → Allowed S (Has S D) w → Allowed S (OpenBy S k) w
    deep D k opened w le h = allowed_change S (Has S D) (OpenBy S k) w h
        (λ c m. open_le (depth S D c) k c (omega (arith, depth_least S (depth S D) w c m)) (opened c (allowed_use S (Has S D) w h c m)))

    -- from a derivation to rounds
    pub sound : (D : Derivation S) → Valid S D → (c : S.Claim) → Has S D c → OpenBy S (depth S D c) c
    unfolding depth OpenBy
    sound [] v c h = absurd (Memᴰ.not-nil h)
    sound (l ∷ D) v c h = choose_cases (S.same c l.claim) (λ n. OpenBy S n c) (λ e. rw e (top (sound D v.3)))
        (λ n. ⊎_elim (λ e. absurd (n e)) (sound D v.3 c) (Memᴰ.cases_cons h))
      where
        top : ((c : S.Claim) → Has S D c → OpenBy S (depth S D c) c) → OpenBy S (suc (greatest S (depth S D) l.walks)) l.claim
        top below = inr (
          v.0,
          law.more (λ w m. let a = v.1 w m in (a.0, deep D (greatest S (depth S D) l.walks) below w (greatest_least S (depth S D) l.walks w m) a.1)) l.claim v.2,
        )

    -- a claim that is one of R, or that walks with claims of R justify
    abbrev Ready : List S.Claim → S.Claim → Type 0
    Ready R c = c among R ⊎ ((ws : List (List S.Step)) × S.Subject c × ((w : List S.Step) → w among ws → AtHand S (λ x. x among R) w) × S.Says (λ w. w among ws) c)

    ready_more : {R R' : List S.Claim} → R part_of R' → (c : S.Claim) → Ready R c → Ready R' c
    ready_more up c (inl m) = inl (up c m)
    ready_more up c (inr h) = inr (h.0, h.1, (λ w m. let a = h.2 w m in (a.0, allowed_more S up w a.1)), h.3)

    -- finitely many claims that are open after k rounds make ready those that are open after one round more
    abbrev Prepared : ℕ → List S.Claim → Type 0
    Prepared k cs = (R : List S.Claim) × ((r : S.Claim) → r among R → OpenBy S k r) × ((c : S.Claim) → c among cs → Ready R c)

    prepare : (k : ℕ) (cs : List S.Claim) → ((c : S.Claim) → c among cs → OpenBy S (suc k) c) → Prepared k cs
    unfolding OpenBy
    prepare k [] h = ([], nobody _, nobody _)
    prepare k (c ∷ cs) h = add (prepare k cs (λ x m. h x (Memᴰ.tail m))) (h c (Memᴰ.head refl))
      where
        add : Prepared k cs → OpenBy S (suc k) c → Prepared k (c ∷ cs)
        add g (inl o) = (
          c ∷ g.0,
          either {l = c ∷ []} (only _ o) g.1,
          either {l = c ∷ []} (only _ (inl (Memᴰ.head refl))) (λ x m. ready_more (λ y i. Memᴰ.tail i) x (g.2 x m)),
        )
        add g (inr o) = let f = law.finite c o.1 in let R = gather (needed S) f.0 in (
          R ++ g.0,
          either {l = R} (λ r m. let p = gather_out (needed S) r f.0 m in allowed_use S (OpenBy S k) p.0 (f.1 p.0 p.1).1 r p.2) g.1,
          either {l = c ∷ []}
              (only _ (inr (f.0, o.0, (λ w m. let a = f.1 w m in (a.0, allowed_change S (OpenBy S k) (λ x. x among (R ++ g.0)) w a.1 (λ x i. Memᴰ.append_left g.0 (gather_in (needed S) m i)))), f.2)))
              (λ x m. ready_more (λ y i. Memᴰ.append_right R i) x (g.2 x m)),
        )

    -- a derivation of depth at most suc k that has R at depths of at most k
    record Base (k : ℕ) (R : List S.Claim) (D : Derivation S) : Type 0 where
      valid : Valid S D
      low : (c : S.Claim) → depth S D c ≤ suc k
      has : (r : S.Claim) → r among R → Has S D r
      lower : (r : S.Claim) → r among R → depth S D r ≤ k

    -- it can have one more claim that is ready
    extend : (k : ℕ) (R : List S.Claim) (D : Derivation S) → Base k R D → (c : S.Claim) → Ready R c
        → (D' : Derivation S) × Base k R D' × Has S D' c × ((x : S.Claim) → Has S D x → Has S D' x)
    unfolding depth
    extend k R D b c (inl m) = (D, b, b.has c m, λ x i. i)
    extend k R D b c (inr h) = go (ℕ_discrete (depth S D c) 0)
      where
        D' : Derivation S
        D' = record { claim = c; walks = h.0 } ∷ D

        high : suc (greatest S (depth S D) h.0) ≤ suc k
        high = omega (arith, greatest_most S (depth S D) h.0 k (λ w m. depth_most S (depth S D) w k (λ x i. b.lower x (allowed_use S (λ y. y among R) w (h.2 w m).1 x i))))

        base : depth S D c ≡ 0 → Base k R D'
        base z = record {
          valid = (h.1, (λ w m. let a = h.2 w m in (a.0, allowed_more S b.has w a.1)), h.3, b.valid);
          low = λ x. choose_cases (S.same x c) (λ n. n ≤ suc k) (λ e. high) (λ n. b.low x);
          has = λ x m. Memᴰ.tail (b.has x m);
          lower = λ x m. choose_cases (S.same x c) (λ n. n ≤ k) (λ e. absurd (omega (arith, has_depth D x (b.has x m), ap (depth S D) e))) (λ n. b.lower x m);
        }

        go : Dec (depth S D c ≡ 0) → (D' : Derivation S) × Base k R D' × Has S D' c × ((x : S.Claim) → Has S D x → Has S D' x)
        go (no n) = (D, b, depth_has D c (omega arith), λ x i. i)
        go (yes z) = (D', base z, Memᴰ.head refl, λ x i. Memᴰ.tail i)

    extend_all : (k : ℕ) (R : List S.Claim) (D : Derivation S) → Base k R D → (cs : List S.Claim) → ((c : S.Claim) → c among cs → Ready R c)
        → (D' : Derivation S) × Base k R D' × ((c : S.Claim) → c among cs → Has S D' c)
    extend_all k R D b [] h = (D, b, nobody _)
    extend_all k R D b (c ∷ cs) h = let r = extend_all k R D b cs (λ x m. h x (Memᴰ.tail m)) in
        let s = extend k R r.0 r.1 c (h c (Memᴰ.head refl)) in
        (s.0, s.1, either {l = c ∷ []} (only _ s.2) (λ x m. s.3 x (r.2 x m)))

    -- from rounds to a derivation, for finitely many claims at once
    pub complete : (k : ℕ) (cs : List S.Claim) → ((c : S.Claim) → c among cs → OpenBy S k c)
        → (D : Derivation S) × Valid S D × ((c : S.Claim) → depth S D c ≤ k) × ((c : S.Claim) → c among cs → Has S D c)
    unfolding OpenBy depth
    complete zero cs h = ([], tt, (λ c. omega arith), λ c m. absurd (h c m))
    complete (suc k) cs h = let g = prepare k cs h in let d = complete k g.0 g.1 in
        let b : Base k g.0 d.0 = record { valid = d.1; low = λ c. omega (arith, d.2 c); has = d.3; lower = λ r m. d.2 r } in
        let a = extend_all k g.0 d.0 b cs g.2 in
        (a.0, a.1.valid, a.1.low, a.2)

    -- open after k rounds: some derivation has the claim at a depth of at most k
    pub open_iff_depth : (k : ℕ) (c : S.Claim) → OpenBy S k c ↔ ((D : Derivation S) × Valid S D × Has S D c × (depth S D c ≤ k))
    open_iff_depth k c = (
      (λ o. let d = complete k (c ∷ []) (only _ o) in (d.0, d.1, d.3 c (Memᴰ.head refl), d.2 c)),
      λ d. open_le (depth S d.0 c) k c d.3 (sound d.0 d.1 c d.2),
    )

    -- the round that opens a claim is its least depth
    pub opens_iff_least : (k : ℕ) (c : S.Claim) → Opens S k c ↔ LeastDepth S c k
    unfolding OpenBy
    opens_iff_least zero c = ((λ o. absurd o), λ l. absurd (omega (arith, has_depth l.0.0 c l.0.2, l.0.3)))
    opens_iff_least (suc k) c = (there, again)
      where
        above : ¬ OpenBy S k c → (D : Derivation S) → Valid S D → Has S D c → suc k ≤ depth S D c
        above n D v h = elim (dec_le (depth S D c) k) [ yes le ↦ absurd (n ((open_iff_depth k c).1 (D, v, h, le))) | no m ↦ omega arith ]

        there : Opens S (suc k) c → LeastDepth S c (suc k)
        there o = let d = (open_iff_depth (suc k) c).0 (inr o.0) in
            ((d.0, d.1, d.2, omega (arith, above o.1 d.0 d.1 d.2)), above o.1)

        now : ¬ OpenBy S k c → OpenBy S (suc k) c → Opens S (suc k) c
        now n (inl o) = absurd (n o)
        now n (inr h) = (h, n)

        again : LeastDepth S c (suc k) → Opens S (suc k) c
        again l = now (λ o. let d = (open_iff_depth k c).0 o in omega (arith, l.1 d.0 d.1 d.2, d.3))
            ((open_iff_depth (suc k) c).1 (l.0.0, l.0.1, l.0.2, omega (arith, l.0.3)))

    -- a walk from an initial to a final state with what is open after k rounds: in some derivation it has a depth of at most k
    pub accepted_iff_depth : (k : ℕ) (w : List S.Step) → AcceptedBy S k w ↔ ((D : Derivation S) × Valid S D × AcceptedIn S D w × (walk_depth S (depth S D) w ≤ k))
    accepted_iff_depth k w = (
      (λ h. let d = complete k (needed S w) (allowed_use S (OpenBy S k) w h.1) in
          (d.0, d.1, (h.0, allowed_change S (OpenBy S k) (Has S d.0) w h.1 d.3), depth_most S (depth S d.0) w k (λ c m. d.2 c))),
      λ h. (h.2.0, deep h.0 k (sound h.0 h.1) w h.3 h.2.1),
    )

    -- a round that opens nothing is followed by none that opens something
    pub fixpoint : (k : ℕ) → ((c : S.Claim) → OpenBy S (suc k) c → OpenBy S k c) → (m : ℕ) (c : S.Claim) → OpenBy S m c → OpenBy S k c
    unfolding OpenBy
    fixpoint k vain zero c o = absurd o
    fixpoint k vain (suc m) c (inl o) = fixpoint k vain m c o
    fixpoint k vain (suc m) c (inr h) = vain c (inr (holds_more (fixpoint k vain m) c h))

    -- what is open then is what is derivable
    pub derivable_iff_open : (k : ℕ) → ((c : S.Claim) → OpenBy S (suc k) c → OpenBy S k c) → (c : S.Claim) → Derivable S c ↔ OpenBy S k c
    derivable_iff_open k vain c = (
      (λ d. fixpoint k vain (depth S d.0 c) c (sound d.0 d.1 c d.2)),
      λ o. let d = (open_iff_depth k c).0 o in (d.0, d.1, d.2),
    )

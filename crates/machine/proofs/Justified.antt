-- The walks that are written for a claim are those that request C-12 asks for (`tour_is`, `tour_round`, `pieces_are`), and they justify it
-- (`written_hand`, `written_says`).
use Prim.Native.Nat.{ℕ, ◌<◌}
use mathlib.Core.Path.{◌≡◌, refl, sym, ◌∙◌, subst}
use mathlib.Core.Bool.{Bool, true, false}
use mathlib.Core.Logic.{◌⊎◌, inl, inr, ⊎_elim, ◌↔◌, ◌≢◌}
use mathlib.Core.List.Memᴰ
use mathlib.Core.List.{List, [], ◌∷◌, ◌++◌, map, cons≢nil, append-ne-nil_of_right_ne-nil}
use lib.Dec.{ltb}
use native.Mathlib.Decide.{dec_lt}
use native.Mathlib.Omega.{arith}
use Rattle.lists.specs.Tests.{Decides, ◌among◌, keep}
use Rattle.lists.proofs.Deciding.{keep_decides, ltb_decides, map_in, map_out, gather_in, gather_out}
use Rattle.masks.specs.Mask.{◌∈◌}
use Rattle.rows.specs.declared.Row.{Row}
use Rattle.orderings.specs.Steps.{Claim, loops, mixes, members, Walk}
use Rattle.orderings.specs.Claims.{Loops, OnPiece, Piece, Gap, Says}
use Rattle.orderings.specs.Systems.{System, AtHand, Holds}
use Rattle.orderings.specs.Timelines.{timelines}
use Rattle.orderings.proofs.Timelines.{members_iff}
use Rattle.orderings.proofs.Steps.{on_start, Runs, runs_append}
use Rattle.machine.specs.Machine.{Opening}
use Rattle.machine.specs.Order.{Found, Foremost}
use Rattle.machine.specs.Expression.{nearest, piece, pieces, along, tour, earlier}
use Rattle.machine.specs.Word.{round_trip, Before, found, Nearest, Along, Tour, PieceBy, PieceFor, Each}
use Rattle.machine.proofs.Grounded.{Grounded}
use Rattle.machine.proofs.Tours.{earlier_iff, nearest_foremost, piece_foremost, legs, stretches}
use Rattle.machine.proofs.Turning.{rest, trip}
use Rattle.machine.proofs.Stretches.{legs_whole, stretch}

pub each_map : {A B : Type 0} (R : A → B → Type 0) (f : A → B) (l : List A) → ((x : A) → x among l → R x (f x)) → Each R l (map f l)
each_map R f [] h = tt
each_map R f (x ∷ l) h = (h x (Memᴰ.head refl), each_map R f l (λ y m. h y (Memᴰ.tail m)))

-- the walk has a step
abbrev pub has_step : Walk → Bool
has_step [] = false
has_step (t ∷ w) = true

pub step_decides : (w : Walk) → Decides (has_step w) (w ≢ [])
step_decides [] = record { to = λ t. let z : ◌≡◌ {A = ℕ} 0 1 = cc in absurd (omega arith); of = λ n. absurd (n refl) }
step_decides (t ∷ w) = record { to = λ x. cons≢nil; of = λ n. refl }

-- a tour comes to states of the set
pub rest_in : (P q : ℕ) → q ∈ P → (s : ℕ) → s among rest P q → s ∈ P
rest_in P q h s m = ⊎_elim (λ i. (members_iff P s).0 ((keep_decides (λ s. ltb_decides q s) (members P) s).0 i).0)
    (λ i. ⊎_elim (λ j. (members_iff P s).0 ((keep_decides (λ s. ltb_decides s q) (members P) s).0 j).0) (λ j. subst (λ x. x ∈ P) (sym (Memᴰ.eq_of_singleton j)) h)
    (Memᴰ.append_cases (keep (λ s. ltb s q) (members P)) i)) (Memᴰ.append_cases (keep (ltb q) (members P)) m)

-- to every one of them
pub rest_has : (P q s : ℕ) → s ∈ P → s among rest P q
rest_has P q s h = go (dec_lt q s) (dec_lt s q)
  where
    go : Dec (q < s) → Dec (s < q) → s among rest P q
    go (yes i) d = Memᴰ.append_left _ ((keep_decides (λ s. ltb_decides q s) (members P) s).1 ((members_iff P s).1 h, i))
    go (no i) (yes j) = Memᴰ.append_right (keep (ltb q) (members P)) (Memᴰ.append_left _ ((keep_decides (λ s. ltb_decides s q) (members P) s).1 ((members_iff P s).1 h, j)))
    go (no i) (no j) = Memᴰ.append_right (keep (ltb q) (members P)) (Memᴰ.append_right (keep (λ s. ltb s q) (members P)) (Memᴰ.head (omega arith)))

along_is : (N : ℕ → ℕ → Walk → Type 0) (f : ℕ → ℕ → Walk) (In : ℕ → Type 0) → ((a b : ℕ) → In a → In b → N a b (f a b)) → (l : List ℕ) → ((s : ℕ) → s among l → In s) → Along N l (along f l)
along_is N f In h [] k = refl
along_is N f In h (a ∷ []) k = refl
along_is N f In h (a ∷ b ∷ l) k =
    (f a b, along f (b ∷ l), h a b (k a (Memᴰ.head refl)) (k b (Memᴰ.tail (Memᴰ.head refl))), along_is N f In h (b ∷ l) (λ s m. k s (Memᴰ.tail m)), refl)

legs_all : (f : ℕ → ℕ → Walk) (a : ℕ) (l : List ℕ) → l ≢ [] → along f (a ∷ l) among legs f (a ∷ l)
legs_all f a [] n = absurd (n refl)
legs_all f a (b ∷ l) n = legs_whole f a b l

module _ (rows : List Row) (l : List Opening) where
  -- the walks of which the tours of P are made
  abbrev pub neighbour : ℕ → ℕ → ℕ → Walk
  neighbour P = nearest rows (earlier l (loops P)) P

  -- the walks that are written for a claim
  abbrev pub written : Claim → List Walk
  written (loops P) = stretches (neighbour P) P
  written (mixes P) = keep has_step (pieces rows (earlier l (mixes P)) P)

module _ (rows : List Row) (l : List Opening) (ground : Grounded rows l) where
  abbrev S : System
  S = timelines rows

  abbrev Open : Claim → Type 0
  Open c = c among map (λ (o : Opening). o.claim) l

  -- the list of the claims opened in earlier rounds has just these
  pub earlier_before : (c : Claim) → Open c → (d : Claim) → d among earlier l c ↔ Before l c d
  earlier_before c m = let r = map_out (λ (o : Opening). o.claim) c l m in subst (λ x. (d : Claim) → d among earlier l x ↔ Before l x d) (sym r.2) (earlier_iff l ground.once r.0 r.1)

  -- an open claim holds with the claims opened in earlier rounds
  pub open_holds : (c : Claim) → Open c → Holds S (Before l c) c
  open_holds c m = let r = map_out (λ (o : Opening). o.claim) c l m in subst (λ x. Holds S (Before l x) x) (sym r.2) (ground.holds r.0 r.1)

  -- ---- a set that loops

  module _ (P : ℕ) (m : Open (loops P)) where
    -- they are the fewest-step walks that the request asks for
    pub near : (a b : ℕ) → a ∈ P → b ∈ P → Nearest rows l P a b (neighbour rows l P a b)
    near a b p q = nearest_foremost rows (earlier l (loops P)) (Before l (loops P)) (earlier_before (loops P) m) P a b ((open_holds (loops P) m).1 a b p q)

    -- a walk of one or more steps inside P, with the openings of earlier rounds
    abbrev Leg : ℕ → Walk → ℕ → Type 0
    Leg a w b = Runs rows (Before l (loops P)) P a w b × (w ≢ [])

    leg : (a b : ℕ) → a ∈ P → b ∈ P → Leg a (neighbour rows l P a b) b
    leg a b p q = let h = (near a b p q).is in ((h.1, h.2.1, h.2.0), h.2.2)

    join : (a : ℕ) (v : Walk) (s : ℕ) (w : Walk) (b : ℕ) → Leg a v s → Leg s w b → Leg a (v ++ w) b
    join a v s w b h k = (runs_append rows (Before l (loops P)) P a v s w b h.0 k.0, append-ne-nil_of_right_ne-nil v k.1)

    legs_lead : (a : ℕ) (k : List ℕ) → a ∈ P → ((s : ℕ) → s among k → s ∈ P) → (w : Walk) → w among legs (neighbour rows l P) (a ∷ k) → (b : ℕ) × Leg a w b
    legs_lead a [] p h w i = absurd (Memᴰ.not-nil i)
    legs_lead a (b ∷ k) p h w i = let q = h b (Memᴰ.head refl) in ⊎_elim
        (λ e. (b, subst (λ (x : Walk). Leg a x b) (sym e) (leg a b p q)))
        (λ j. let r = map_out (λ (v : Walk). neighbour rows l P a b ++ v) w (legs (neighbour rows l P) (b ∷ k)) j in let g = legs_lead b k q (λ s x. h s (Memᴰ.tail x)) r.0 r.1 in
        (g.0, subst (λ (x : Walk). Leg a x g.0) (sym r.2) (join a (neighbour rows l P a b) b r.0 g.0 (leg a b p q) g.1))) (Memᴰ.cases_cons i)

    legs_reach : (a : ℕ) (k : List ℕ) → a ∈ P → ((s : ℕ) → s among k → s ∈ P) → (b : ℕ) → b among k → (w : Walk) × w among legs (neighbour rows l P) (a ∷ k) × Leg a w b
    legs_reach a [] p h b i = absurd (Memᴰ.not-nil i)
    legs_reach a (c ∷ k) p h b i = let q = h c (Memᴰ.head refl) in ⊎_elim
        (λ e. (neighbour rows l P a c, Memᴰ.head refl, subst (Leg a (neighbour rows l P a c)) (sym e) (leg a c p q)))
        (λ j. let r = legs_reach c k q (λ s x. h s (Memᴰ.tail x)) b j in
        (neighbour rows l P a c ++ r.0, Memᴰ.tail (map_in (λ (v : Walk). neighbour rows l P a c ++ v) r.1), join a (neighbour rows l P a c) c r.0 b (leg a c p q) r.2)) (Memᴰ.cases_cons i)

    loop_leg : (w : Walk) → w among stretches (neighbour rows l P) P → (a : ℕ) × (b : ℕ) × Leg a w b
    loop_leg w i = let g = gather_out (λ a. legs (neighbour rows l P) (round_trip P a)) w (members P) i in let p = (members_iff P g.0).0 g.1 in
        let r = legs_lead g.0 (rest P g.0) p (rest_in P g.0 p) w (subst (λ (k : List ℕ). w among legs (neighbour rows l P) k) (trip P g.0) g.2) in (g.0, r.0, r.1)

    loop_says : Loops (λ w. w among stretches (neighbour rows l P) P) P
    loop_says a b p q = let r = legs_reach a (rest P a) p (rest_in P a p) b (rest_has P a b q) in let g = r.2 in (
      r.0,
      gather_in (λ x. legs (neighbour rows l P) (round_trip P x)) ((members_iff P a).1 p) (subst (λ (k : List ℕ). r.0 among legs (neighbour rows l P) k) (sym (trip P a)) r.1),
      g.0.0,
      g.0.2,
      g.1,
    )

    -- and so is the tour
    pub tour_is : (q : ℕ) → q ∈ P → Tour rows l P q (tour rows (earlier l (loops P)) P q)
    unfolding tour
    tour_is q h = along_is (Nearest rows l P) (neighbour rows l P) (λ s. s ∈ P) near (round_trip P q)
        (λ s i. ⊎_elim (λ e. subst (λ x. x ∈ P) (sym e) h) (rest_in P q h s) (Memᴰ.cases_cons (subst (λ (k : List ℕ). s among k) (trip P q) i)))

    -- the tour is one of the walks that are written
    pub tour_in : (q : ℕ) → q ∈ P → tour rows (earlier l (loops P)) P q among stretches (neighbour rows l P) P
    unfolding tour
    tour_in q h = gather_in (λ x. legs (neighbour rows l P) (round_trip P x)) ((members_iff P q).1 h)
        (subst (λ (k : List ℕ). along (neighbour rows l P) k among legs (neighbour rows l P) k) (sym (trip P q)) (legs_all (neighbour rows l P) q (rest P q) (λ e. Memᴰ.not-nil (subst (λ (k : List ℕ). q among k) e (rest_has P q q h)))))

    -- and each of these is a stretch of it, gone round
    pub tour_round : (q : ℕ) → q ∈ P → (w : Walk) → w among stretches (neighbour rows l P) P → let T = tour rows (earlier l (loops P)) P q in (x : Walk) × (y : Walk) × (T ++ T ≡ x ++ (w ++ y))
    unfolding tour
    tour_round q h w i = stretch (neighbour rows l P) P q h w i

  -- ---- a set that mixes

  module _ (P : ℕ) (m : Open (mixes P)) where
    abbrev the_piece : ℕ → Walk
    the_piece = piece rows (earlier l (mixes P)) P

    foremost : (s : ℕ) → ((e : ℕ) × Foremost (PieceBy rows l P s) (found e (the_piece s))) ⊎ (((f : Found) → ¬ PieceBy rows l P s f) × (the_piece s ≡ []))
    foremost s = piece_foremost rows (earlier l (mixes P)) (Before l (mixes P)) (earlier_before (mixes P) m) P s

    by_of : (s : ℕ) → OnPiece rows (AtHand S (Before l (mixes P))) P s → (f : Found) × PieceBy rows l P s f
    by_of s o = let k = o.0 in let t = k.4 in (found k.0 t.0, (k.2, (k.1, k.3, t.2), o.1, (t.3, t.1.1, t.4)))

    gap_of : (s : ℕ) → s ∈ P → ((f : Found) → ¬ PieceBy rows l P s f) → Gap rows P s
    gap_of s p n = ⊎_elim (λ o. let b = by_of s o in absurd (n b.0 b.1)) (λ g. g) ((open_holds (mixes P) m).1.covered s p)

    -- each state has the piece that the request asks for
    pub piece_for : (s : ℕ) → s ∈ P → PieceFor rows l P s (the_piece s)
    piece_for s p = ⊎_elim inl (λ n. inr (n.0, gap_of s p n.0, n.1)) (foremost s)

    pub pieces_are : Each (PieceFor rows l P) (members P) (pieces rows (earlier l (mixes P)) P)
    pieces_are = each_map (PieceFor rows l P) the_piece (members P) (λ s i. piece_for s ((members_iff P s).0 i))

    abbrev ps : List Walk
    ps = keep has_step (pieces rows (earlier l (mixes P)) P)

    kept_in : (s : ℕ) → s ∈ P → the_piece s ≢ [] → the_piece s among ps
    kept_in s p n = (keep_decides step_decides (pieces rows (earlier l (mixes P)) P) (the_piece s)).1 (map_in the_piece ((members_iff P s).1 p), n)

    mix_hand : (w : Walk) → w among ps → AtHand S (Before l (mixes P)) w
    mix_hand w i = let k = (keep_decides step_decides (pieces rows (earlier l (mixes P)) P) w).0 i in let r = map_out the_piece w (members P) k.0 in
        subst (AtHand S (Before l (mixes P))) (sym r.2) (⊎_elim (λ f. let h = f.1.is in ((f.0, h.1.0, h.1.2), h.3.1)) (λ n. absurd (k.1 (r.2 ∙ n.1))) (foremost r.0))

    mix_covered : (s : ℕ) → s ∈ P → OnPiece rows (λ w. w among ps) P s ⊎ Gap rows P s
    mix_covered s p = ⊎_elim
        (λ f. let h = f.1.is in let x = h.3 in inl ((f.0, h.1.0, h.0, h.1.1, (the_piece s, kept_in s p x.2, h.1.2, x.0, x.2)), h.2))
        (λ n. inr (gap_of s p n.0)) (foremost s)

    mix_stepped : Piece rows (λ w. w among ps) P
    mix_stepped = let k = (open_holds (mixes P) m).1.stepped in let t = k.4 in let e = k.0 in
        ⊎_elim (λ f. let h = f.1.is in let x = h.3 in (f.0, h.1.0, h.0, h.1.1, (the_piece e, kept_in e k.2.0 x.2, h.1.2, x.0, x.2)))
        (λ n. absurd (n.0 (found e t.0) (k.2, (k.1, k.3, t.2), on_start e e t.0 refl, (t.3, t.1.1, t.4)))) (foremost e)

  -- ---- both

  -- the walks that are written use claims opened in earlier rounds
  pub written_hand : (c : Claim) → Open c → (w : Walk) → w among written rows l c → AtHand S (Before l c) w
  written_hand (loops P) m w i = let g = loop_leg P m w i in ((g.0, g.1, g.2.0.0), g.2.0.1)
  written_hand (mixes P) m w i = mix_hand P m w i

  -- and what the claim says, they show
  pub written_says : (c : Claim) → Open c → Says rows (λ w. w among written rows l c) c
  written_says (loops P) m = loop_says P m
  written_says (mixes P) m = record { covered = mix_covered P m; stepped = mix_stepped P m }

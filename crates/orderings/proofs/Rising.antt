-- Request C-22: the sets by number of states, each visited once. A set that mixes loops by its own mix step (`mixes_loops`), and one that loops
-- and has an entrance and an exit mixes (`loops_mixes`). A claim is found by the visit to its set or not at all (`found_iff`); what is found
-- is what is derivable (`found_derivable`), so a walk with what is found is one of some derivation (`rising_decides`).
use Prim.Native.Nat.{ℕ, zero, suc, ◌<◌, ◌^◌}
use mathlib.Core.Path.{◌≡◌, refl, sym, subst}
use mathlib.Core.Logic.{◌⊎◌, inl, inr, ⊎_elim, ◌↔◌, ◌≢◌}
use mathlib.Core.List.Memᴰ
use mathlib.Core.List.{List, [], ◌∷◌, ◌++◌, append-ne-nil_of_right_ne-nil, cons≢nil}
use lib.ListN.{length}
use native.Mathlib.Nat.{eq-or-lt_of_le, le_of_suc-le-suc}
use native.Mathlib.Omega.{arith}
use Rattle.lists.specs.Tests.{Decides, ◌among◌, range}
use Rattle.lists.proofs.Counting.{keep_length, keep_grows}
use Rattle.lists.proofs.Deciding.{eqb_decides, and_decides, or_decides, iff_decides, keep_decides, dec_decides}
use Rattle.masks.specs.Mask.{member, ◌∈◌, ◌⊆◌}
use Rattle.masks.proofs.Member.{same}
use Rattle.rows.specs.declared.Row.{Row}
use Rattle.rows.specs.Rows.{SetOf, AllFit}
use Rattle.rows.proofs.Sets.{set_fits}
use Rattle.orderings.specs.Steps.{Claim, loops, mixes, set_of, Label, letter, ω, back, mix, Step, needs, members, content, Walk, Inside}
use Rattle.orderings.specs.Claims.{Loops, Mixes, Entrance, Exit}
use Rattle.orderings.specs.Systems.{System, InForce, Allowed, AtHand, Holds, Derivable, Accepts}
use Rattle.orderings.specs.Rounds.{OpenBy}
use Rattle.orderings.specs.Timelines.{timelines}
use Rattle.orderings.specs.Decide.{claims}
use Rattle.orderings.specs.Rising.{size, VisitFinds, finds?, found, all_sizes, rising?}
use Rattle.orderings.proofs.Walks.{allowed_more}
use Rattle.orderings.proofs.Steps.{on_middle, Runs, runs_append, runs_cut, leg_of, runs_of}
use Rattle.orderings.proofs.Depths.{holds_more}
use Rattle.orderings.proofs.Verdicts.{nonempty_iff}
use Rattle.orderings.proofs.Timelines.{lawful, members_iff, says_inside}
use Rattle.orderings.proofs.Deciding.{holds_decides, claim_in_decides, accepts_decides}
use Rattle.orderings.proofs.Claims.{claims_iff, at_most, rest_derivable}
use Rattle.orderings.proofs.Struck.{says_unstruck}

-- ---- a visit, computed, and the number of states

finds_decides : (rows : List Row) (l : List Claim) (c : Claim) → Decides (finds? rows l c) (VisitFinds rows (λ x. x among l) c)
unfolding finds?
finds_decides rows l (mixes P) = holds_decides rows l (mixes P)
finds_decides rows l (loops P) = or_decides (holds_decides rows l (mixes P)) (holds_decides rows l (loops P))

size_most : (c : Claim) → size c < all_sizes
unfolding members
size_most c = omega (arith, keep_length (λ s. member s (set_of c)) (range 0 64))

module _ (rows : List Row) where
  abbrev S : System
  S = timelines rows

  -- ---- loops and mixes of one set

  module _ (In : Claim → Type 0) (P : ℕ) where
    abbrev Goes : ℕ → Walk → ℕ → Type 0
    Goes a w b = Runs rows In P a w b

    -- from an entrance to each state of a set that mixes, and from each to an exit
    module _ (h : Mixes rows (AtHand S In) P) where
      enters : (s : ℕ) → s ∈ P → (e : ℕ) × Entrance rows P e × ((v : Walk) × Goes e v s)
      enters s i = ⊎_elim (λ (k, o). let c = runs_cut rows In P s k.0 k.4.0 k.1 (runs_of rows In P k.0 k.1 k.4) o in (k.0, k.2, (c.0, c.2)))
          (λ g. (s, g.0, ([], (refl, tt, tt)))) (h.covered s i)

      leaves : (s : ℕ) → s ∈ P → (f : ℕ) × Exit rows P f × ((v : Walk) × Goes s v f)
      leaves s i = ⊎_elim (λ (k, o). let c = runs_cut rows In P s k.0 k.4.0 k.1 (runs_of rows In P k.0 k.1 k.4) o in (k.1, k.3, (c.1, c.3)))
          (λ g. (s, g.1, ([], (refl, tt, tt)))) (h.covered s i)

      inner : (f e : ℕ) → f ∈ P → e ∈ P → (s : ℕ) → s among (e ∷ f ∷ members P) → s ∈ P
      inner f e hf he s i = ⊎_elim (λ z. subst (λ x. x ∈ P) (sym z) he)
          (λ j. ⊎_elim (λ z. subst (λ x. x ∈ P) (sym z) hf) (λ k. (members_iff P s).0 k) (Memᴰ.cases_cons j)) (Memᴰ.cases_cons i)

      -- it loops by its own mix step: from a state to an exit, to an entrance, to a state
      pub mixes_loops : In (mixes P) → Loops (AtHand S In) P
      mixes_loops m a b p q = let x = leaves a p in let y = enters b q in
          let t : Step = record { from = x.0; label = mix P; to = y.0 } in
          let stays = inner x.0 y.0 x.1.0 y.1.0 in
          let g : Goes x.0 (t ∷ y.2.0) b = (
            (refl, y.2.1.0),
            (((x.1.1, y.1.1), λ s i. says_unstruck rows In (mixes P) h s (stays s i)), m, y.2.1.1),
            (stays, y.2.1.2),
          ) in
          leg_of rows In P a b (x.2.0 ++ (t ∷ y.2.0)) (runs_append rows In P a x.2.0 x.0 (t ∷ y.2.0) b x.2.1 g) (append-ne-nil_of_right_ne-nil x.2.0 cons≢nil)

    -- from an entrance to each state and on to an exit
    pub loops_mixes : (e f : ℕ) → Entrance rows P e → Exit rows P f → Loops (AtHand S In) P → Mixes rows (AtHand S In) P
    loops_mixes e f x y h = record {
      covered = λ s i. inl (let v = h e s x.0 i in let w = h s f i y.0 in
          let g = runs_append rows In P e v.0 s w.0 f (runs_of rows In P e s v) (runs_of rows In P s f w) in
          ((e, f, x, y, leg_of rows In P e f (v.0 ++ w.0) g (append-ne-nil_of_right_ne-nil v.0 w.4)), on_middle s e v.0 w.0 v.2));
      stepped = (e, f, x, y, h e f x.0 y.0);
    }

  -- ---- loops and mixes that rounds open

  -- what is open holds with what is open
  pub open_says : (k : ℕ) (c : Claim) → OpenBy S k c → Holds S (OpenBy S k) c
  unfolding OpenBy
  open_says zero c o = absurd o
  open_says (suc k) c (inl o) = holds_more S (lawful rows) (λ x i. inl i) c (open_says k c o)
  open_says (suc k) c (inr h) = holds_more S (lawful rows) (λ x i. inl i) c h

  -- the loop of a set whose mix is open holds
  pub mix_due : (k P : ℕ) → OpenBy S k (mixes P) → Holds S (OpenBy S k) (loops P)
  mix_due k P o = let h = open_says k (mixes P) o in (h.0, mixes_loops (OpenBy S k) P h.1 o)

  -- the mix of a set with an entrance and an exit is open where its loop is
  pub loop_paired : (k P e f : ℕ) → Entrance rows P e → Exit rows P f → OpenBy S k (loops P) → OpenBy S k (mixes P)
  unfolding OpenBy
  loop_paired zero P e f x y o = absurd o
  loop_paired (suc k) P e f x y (inl o) = inl (loop_paired k P e f x y o)
  loop_paired (suc k) P e f x y (inr h) = inr (h.0, loops_mixes (OpenBy S k) P e f x y h.1)

  -- ---- what is found, size by size

  -- found once the sets of fewer than k states are visited
  abbrev In : ℕ → Claim → Type 0
  In k c = c among found rows k

  pub found_next : (k : ℕ) (c : Claim) → In (suc k) c ↔ (In k c ⊎ (SetOf rows (set_of c) × (size c ≡ k) × VisitFinds rows (In k) c))
  unfolding found
  found_next k c = let d = keep_decides (λ x. and_decides (eqb_decides (size x) k) (finds_decides rows (found rows k) x)) (claims rows) c in (
    (λ i. ⊎_elim inl (λ j. let x = d.0 j in inr ((claims_iff rows c).0 x.0, x.1.0, x.1.1)) (Memᴰ.append_cases (found rows k) i)),
    ⊎_elim (λ i. Memᴰ.append_left _ i) (λ x. Memᴰ.append_right (found rows k) (d.1 ((claims_iff rows c).1 x.0, (x.1, x.2)))),
  )

  -- a claim is found by the visit to its set, with the claims about smaller sets
  pub found_iff : (k : ℕ) (c : Claim) → In k c ↔ (SetOf rows (set_of c) × (size c < k) × VisitFinds rows (In (size c)) c)
  unfolding found
  found_iff zero c = ((λ i. absurd (Memᴰ.not-nil i)), λ x. absurd (omega (arith, x.1)))
  found_iff (suc k) c = let n = found_next k c in let below = found_iff k c in (
    (λ i. ⊎_elim (λ j. let x = below.0 j in (x.0, omega (arith, x.1), x.2)) (λ x. (x.0, omega (arith, x.1), subst (λ j. VisitFinds rows (In j) c) (sym x.1) x.2)) (n.0 i)),
    λ x. ⊎_elim (λ e. n.1 (inr (x.0, e, subst (λ j. VisitFinds rows (In j) c) e x.2))) (λ l. n.1 (inl (below.1 (x.0, l, x.2)))) (eq-or-lt_of_le (le_of_suc-le-suc x.1)),
  )

  -- ---- what is found is derivable

  -- derivable: open when rounds are at rest
  abbrev Der : Claim → Type 0
  Der c = OpenBy S (length (claims rows)) c

  der_holds : (c : Claim) → Holds S Der c → Der c
  unfolding OpenBy
  der_holds c h = at_most rows (length (claims rows)) (suc (length (claims rows))) c (omega arith) (inr h)

  -- what holds with derivable claims is derivable
  der_more : (l : Claim → Type 0) → ((c : Claim) → l c → Der c) → (c : Claim) → Holds S l c → Der c
  der_more l s c h = der_holds c (holds_more S (lawful rows) s c h)

  finds_der : (l : Claim → Type 0) → ((c : Claim) → l c → Der c) → (c : Claim) → VisitFinds rows l c → Der c
  finds_der l s (mixes P) h = der_more l s (mixes P) h
  finds_der l s (loops P) (inl h) = let d = der_more l s (mixes P) h in
      der_holds (loops P) (mix_due (length (claims rows)) P d)
  finds_der l s (loops P) (inr h) = der_more l s (loops P) h

  found_der : (k : ℕ) (c : Claim) → In k c → Der c
  unfolding found
  found_der zero c i = absurd (Memᴰ.not-nil i)
  found_der (suc k) c i = ⊎_elim (found_der k c) (λ x. finds_der (In k) (found_der k) c x.2) ((found_next k c).0 i)

  -- ---- what is derivable is found

  module _ (fit : AllFit rows) where
    abbrev Found : Claim → Type 0
    Found c = In all_sizes c

    found_dec : (c : Claim) → Dec (Found c)
    found_dec c = dec_decides (claim_in_decides (found rows all_sizes) c)

    -- a proper part of a set has fewer states
    part_smaller : (P Q : ℕ) → SetOf rows P → SetOf rows Q → Q ⊆ P → Q ≢ P → length (members Q) < length (members P)
    unfolding members
    part_smaller P Q hp hq h n = ⊎_elim (λ e. absurd (n (same Q P (fits Q hq) (fits P hp) h (back_in e)))) (λ l. l)
        (keep_grows (λ s. member s Q) (λ s. member s P) (range 0 64) (λ s i. h s))
      where
        fits : (R : ℕ) → SetOf rows R → R < 2 ^ 64
        fits R g = (set_fits rows fit R g).1

        back_in : members Q ≡ members P → P ⊆ Q
        back_in e s i = (members_iff Q s).0 (subst (λ l. s among l) (sym e) ((members_iff P s).1 i))

    -- inside P, of which no claim is found, only claims found before the visit to P are of use
    module _ (P : ℕ) (hp : SetOf rows P) (no_loop : ¬ Found (loops P)) (no_mix : ¬ Found (mixes P)) where
      abbrev Before : Claim → Type 0
      Before c = In (length (members P)) c

      other : (c : Claim) → Found c → set_of c ≢ P
      other (loops Q) i e = no_loop (subst (λ x. Found (loops x)) e i)
      other (mixes Q) i e = no_mix (subst (λ x. Found (mixes x)) e i)

      about : (c : Claim) → Found c → set_of c ⊆ P → Before c
      about c i h = let x = (found_iff all_sizes c).0 i in
          (found_iff (length (members P)) c).1 (x.0, part_smaller P (set_of c) hp x.0 h (other c i), x.2)

      step_inner : (p : ℕ) (l : Label) (q : ℕ) → InForce Found (needs l) → ((s : ℕ) → s among content p l q → s ∈ P) → InForce Before (needs l)
      step_inner p (letter a) q f h = tt
      step_inner p (ω Q) q f h = about (loops Q) f (λ s i. h s (Memᴰ.tail ((members_iff Q s).1 i)))
      step_inner p (back Q) q f h = about (loops Q) f (λ s i. h s (Memᴰ.tail ((members_iff Q s).1 i)))
      step_inner p (mix Q) q f h = about (mixes Q) f (λ s i. h s (Memᴰ.tail (Memᴰ.tail ((members_iff Q s).1 i))))

      walk_inner : (w : Walk) → Allowed S Found w → Inside P w → Allowed S Before w
      walk_inner [] h i = tt
      walk_inner (t ∷ w) h i = (h.0, step_inner t.from t.label t.to h.1 i.0, walk_inner w h.2 i.1)

      hand_inner : (w : Walk) → AtHand S Found w → Inside P w → AtHand S Before w
      hand_inner w h i = (h.0, walk_inner w h.1 i)

    visited : (c : Claim) → SetOf rows (set_of c) → VisitFinds rows (In (size c)) c → Found c
    visited c s h = (found_iff all_sizes c).1 (s, size_most c, h)

    -- a claim that holds with what is found is found
    holds_found : (c : Claim) → Holds S Found c → Found c
    holds_found (loops P) h = go (found_dec (loops P)) (found_dec (mixes P))
      where
        go : Dec (Found (loops P)) → Dec (Found (mixes P)) → Found (loops P)
        go (yes i) m = i
        go (no n) (yes j) = visited (loops P) h.0 (inl ((found_iff all_sizes (mixes P)).0 j).2)
        go (no n) (no k) = visited (loops P) h.0 (inr (h.0, says_inside rows (loops P) (hand_inner P h.0 n k) h.1))
    holds_found (mixes P) h = go (found_dec (loops P)) (found_dec (mixes P))
      where
        go : Dec (Found (loops P)) → Dec (Found (mixes P)) → Found (mixes P)
        go l (yes j) = j
        go (no n) (no k) = visited (mixes P) h.0 (h.0, says_inside rows (mixes P) (hand_inner P h.0 n k) h.1)
        go (yes i) (no k) = let p = h.1.stepped in visited (mixes P) h.0 (⊎_elim (λ m. m)
            (λ l. (h.0, loops_mixes (In (length (members P))) P p.0 p.1 p.2 p.3 l.1)) ((found_iff all_sizes (loops P)).0 i).2)

    open_found : (k : ℕ) (c : Claim) → OpenBy S k c → Found c
    unfolding OpenBy
    open_found zero c o = absurd o
    open_found (suc k) c (inl o) = open_found k c o
    open_found (suc k) c (inr h) = holds_found c (holds_more S (lawful rows) (open_found k) c h)

    -- what is found when all sets are visited is what is derivable
    pub found_derivable : (c : Claim) → c among found rows all_sizes ↔ Derivable S c
    found_derivable c = let d = rest_derivable rows c in ((λ i. d.1 (found_der all_sizes c i)), λ x. open_found (length (claims rows)) c (d.0 x))

    -- so a walk leads from an initial to a final state with what is found exactly where one does in some derivation
    pub rising_decides : Decides (rising? rows) (Accepts S)
    unfolding rising?
    rising_decides = let n = nonempty_iff S (lawful rows) in iff_decides
        (λ (w, a, h). n.1 (length (claims rows), (w, (a, allowed_more S (found_der all_sizes) w h))))
        (λ x. let r = n.0 x in (r.1.0, r.1.1.0, allowed_more S (open_found r.0) r.1.0 r.1.1.1))
        (accepts_decides rows (found rows all_sizes))

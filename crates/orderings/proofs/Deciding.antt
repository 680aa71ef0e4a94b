-- The tests of specs/Decide say what the definitions say: `steps_allowed` (the steps), `holds_decides` (a claim), `accepts_decides` (a walk from an
-- initial to a final state).
use Prim.Native.Nat.{ℕ}
use mathlib.Core.Path.{◌≡◌, refl, ap, sym, ◌∙◌, subst}
use mathlib.Core.Bool.{Bool, true, false, ◌||◌}
use mathlib.Core.Option.{Option, none, some}
use mathlib.Core.Logic.{◌⊎◌, inl, inr, ⊎_elim, ◌↔◌, ◌≢◌}
use mathlib.Core.List.Memᴰ
use mathlib.Core.List.{List, [], ◌∷◌, ◌++◌, map, cons≢nil, append-ne-nil_of_right_ne-nil}
use lib.Dec.{eqb}
use native.Mathlib.Omega.{arith}
use Rattle.lists.specs.Tests.{Decides, ◌among◌, ◌part_of◌, any, all, put, keep, gather}
use Rattle.lists.proofs.Deciding.{iff_decides, and_decides, or_decides, not_decides, eqb_decides, any_decides, all_decides, keep_decides, has_decides, test_decides, yes_decides, no_decides, gather_in, gather_out, map_in, map_out}
use Rattle.masks.specs.Mask.{member, ◌∈◌}
use Rattle.rows.specs.declared.Row.{Row}
use Rattle.rows.specs.declared.Row.TheVariants.{Initial, Final, Successor, LeftLimit, RightLimit, Strike}
use Rattle.rows.specs.Rows.{SetOf, standing_sets}
use Rattle.rows.proofs.Same.{stands_decides}
use Rattle.rows.proofs.Sets.{sets_iff}
use Rattle.orderings.specs.Steps.{Claim, loops, mixes, set_of, Label, letter, ω, back, mix, Step, HasRows, Struck, Possible, needs, members, content, Walk, Leads, Inside, On}
use Rattle.orderings.specs.Claims.{Through, Piece, OnPiece, Gap, Says}
use Rattle.orderings.specs.Systems.{InForce, Allowed, AtHand, Holds}
use Rattle.orderings.specs.Timelines.{same, IsInitial, IsFinal, Accepting, timelines}
use Rattle.orderings.specs.Decide.{yes?, same_claim, claim_in?, step, mix_steps, steps_of, unstruck?, in_force?, steps, steps_in, reaches?, between?, on_piece?, gap?, says?, holds?, initial_of, final_of, initials, finals, accepts?}
use Rattle.orderings.proofs.Timelines.{members_iff}
use Rattle.orderings.proofs.Walks.{allowed_append}
use Rattle.orderings.proofs.Steps.{leads_append, inside_append, on_start, on_middle, on_end}
use Rattle.orderings.proofs.Reach.{reach_decides}

is_decides : {A : Type 0} (d : Dec A) → Decides (yes? d) A
is_decides (yes a) = record { to = λ t. a; of = λ x. refl }
is_decides (no n) = record { to = λ t. let z : ◌≡◌ {A = ℕ} 0 1 = cc in absurd (omega arith); of = λ a. absurd (n a) }

pub same_claim_decides : (c d : Claim) → Decides (same_claim c d) (c ≡ d)
same_claim_decides c d = is_decides (same c d)

pub claim_in_decides : (l : List Claim) (c : Claim) → Decides (claim_in? l c) (c among l)
claim_in_decides l c = has_decides same_claim_decides c l

-- a test for all states of P, and for some that pass another test
all_in_decides : {f : ℕ → Bool} {A : ℕ → Type 0} (P : ℕ) → ((s : ℕ) → s ∈ P → Decides (f s) (A s)) → Decides (all f (members P)) ((s : ℕ) → s ∈ P → A s)
all_in_decides {f} P d = iff_decides
    (λ h s i. (d s i).to (h s ((members_iff P s).1 i)))
    (λ h s m. let i = (members_iff P s).0 m in (d s i).of (h s i)) (all_decides (λ s. test_decides (f s)) (members P))

some_in_decides : {f g : ℕ → Bool} {A B : ℕ → Type 0} (P : ℕ) → ((s : ℕ) → Decides (g s) (B s)) → ((s : ℕ) → Decides (f s) (A s))
    → Decides (any f (keep g (members P))) ((s : ℕ) × ((s ∈ P) × B s) × A s)
some_in_decides {g = g} P e d = iff_decides
    (λ p. let k = (keep_decides e (members P) p.0).0 p.1 in (p.0, ((members_iff P _).0 k.0, k.1), p.2))
    (λ p. (p.0, (keep_decides e (members P) p.0).1 ((members_iff P _).1 p.1.0, p.1.1), p.2)) (any_decides d (keep g (members P)))

module _ (rows : List Row) where
  abbrev Can : Step → Type 0
  Can t = HasRows rows t.from t.label t.to

  mix_out : (P q : ℕ) → LeftLimit P q among rows → (r : Row) → r among rows → (t : Step) → t among mix_steps P q r → Can t
  mix_out P q l (Initial s) m t i = absurd (Memᴰ.not-nil i)
  mix_out P q l (Final s) m t i = absurd (Memᴰ.not-nil i)
  mix_out P q l (Successor a b c) m t i = absurd (Memᴰ.not-nil i)
  mix_out P q l (LeftLimit Q r) m t i = absurd (Memᴰ.not-nil i)
  mix_out P q l (RightLimit p Q) m t i = go (eqb P Q) (eqb_decides P Q) i
    where
      go : (b : Bool) → Decides b (P ≡ Q) → t among put b (step p (mix P) q) [] → Can t
      go true d i = rw (Memᴰ.eq_of_singleton i) (subst (λ x. RightLimit p x among rows) (sym (yes_decides d)) m, l)
      go false d i = absurd (Memᴰ.not-nil i)
  mix_out P q l (Strike s) m t i = absurd (Memᴰ.not-nil i)

  mix_in : (P p q : ℕ) → step p (mix P) q among mix_steps P q (RightLimit p P)
  mix_in P p q = go (eqb P P) (eqb_decides P P)
    where
      go : (b : Bool) → Decides b (P ≡ P) → step p (mix P) q among put b (step p (mix P) q) []
      go true d = Memᴰ.head refl
      go false d = absurd (no_decides d refl)

  steps_out : (r : Row) → r among rows → (t : Step) → t among steps_of rows r → Can t
  steps_out (Initial s) m t i = absurd (Memᴰ.not-nil i)
  steps_out (Final s) m t i = absurd (Memᴰ.not-nil i)
  steps_out (Successor p a q) m t i = rw (Memᴰ.eq_of_singleton i) m
  steps_out (LeftLimit P q) m t i = ⊎_elim
      (λ j. let k = map_out _ t (members P) j in rw k.2 (m, (members_iff P k.0).0 k.1))
      (λ j. let k = gather_out (mix_steps P q) t rows j in mix_out P q m k.0 k.1 t k.2)
      (Memᴰ.append_cases (map _ (members P)) i)
  steps_out (RightLimit p P) m t i = let k = map_out _ t (members P) i in rw k.2 (m, (members_iff P k.0).0 k.1)
  steps_out (Strike s) m t i = absurd (Memᴰ.not-nil i)

  steps_from : (p : ℕ) (l : Label) (q : ℕ) → HasRows rows p l q → step p l q among gather (steps_of rows) rows
  steps_from p (letter a) q h = gather_in (steps_of rows) h (Memᴰ.head refl)
  steps_from p (ω P) q h = gather_in (steps_of rows) h.0 (Memᴰ.append_left _ (map_in _ ((members_iff P p).1 h.1)))
  steps_from p (back P) q h = gather_in (steps_of rows) h.0 (map_in _ ((members_iff P q).1 h.1))
  steps_from p (mix P) q h = gather_in (steps_of rows) h.1 (Memᴰ.append_right (map _ (members P)) (gather_in (mix_steps P q) h.0 (mix_in P p q)))

  -- the steps that are computed are those whose rows stand
  rows_iff : (t : Step) → t among gather (steps_of rows) rows ↔ Can t
  rows_iff t = ((λ m. let r = gather_out (steps_of rows) t rows m in steps_out r.0 r.1 t r.2), λ h. steps_from t.from t.label t.to h)

  unstruck_decides : (s : ℕ) → Decides (unstruck? rows s) (¬ Struck rows s)
  unstruck_decides s = not_decides (stands_decides (Strike s) rows)

  module _ (l : List Claim) where
    abbrev Open : Claim → Type 0
    Open c = c among l

    in_force_decides : (o : Option Claim) → Decides (in_force? l o) (InForce Open o)
    in_force_decides none = record { to = λ t. tt; of = λ u. refl }
    in_force_decides (some c) = claim_in_decides l c

    pub steps_iff : (t : Step) → t among steps rows l ↔ (Possible rows t.from t.label t.to × InForce Open (needs t.label))
    steps_iff t =
        let k = keep_decides (λ (t : Step). and_decides (in_force_decides (needs t.label)) (all_decides unstruck_decides (content t.from t.label t.to))) (gather (steps_of rows) rows) t in
        ((λ m. let r = k.0 m in (((rows_iff t).0 r.0, r.1.1), r.1.0)), λ h. k.1 ((rows_iff t).1 h.0.0, (h.1, h.0.1)))

    -- the walks of these steps are those that the claims allow
    pub steps_allowed : (w : Walk) → w part_of steps rows l ↔ Allowed (timelines rows) Open w
    steps_allowed [] = ((λ p. tt), λ a t m. absurd (Memᴰ.not-nil m))
    steps_allowed (t ∷ w) = let i = steps_allowed w in (
      (λ p. let h = (steps_iff t).0 (p t (Memᴰ.head refl)) in (h.0, h.1, i.0 (λ s m. p s (Memᴰ.tail m)))),
      λ a s m. ⊎_elim (λ e. Memᴰ.cast e ((steps_iff t).1 (a.0, a.1))) (i.1 a.2 s) (Memᴰ.cases_cons m),
    )

    abbrev Within : ℕ → Step → Type 0
    Within P t = (s : ℕ) → s among content t.from t.label t.to → s ∈ P

    step_inside : (P : ℕ) (t : Step) → t among steps_in rows l P ↔ (t among steps rows l × Within P t)
    step_inside P t = keep_decides {P = Within P} (λ (t : Step). all_decides (λ s. test_decides (member s P)) (content t.from t.label t.to)) (steps rows l) t

    pub inside_iff : (P : ℕ) (w : Walk) → w part_of steps_in rows l P ↔ (w part_of steps rows l × Inside P w)
    inside_iff P [] = ((λ p. ((λ t m. absurd (Memᴰ.not-nil m)), tt)), λ h t m. absurd (Memᴰ.not-nil m))
    inside_iff P (t ∷ w) = let i = inside_iff P w in (
      (λ p. let h = (step_inside P t).0 (p t (Memᴰ.head refl)) in let r = i.0 (λ s m. p s (Memᴰ.tail m)) in
          ((λ s m. ⊎_elim (λ e. Memᴰ.cast e h.0) (r.0 s) (Memᴰ.cases_cons m)), (h.1, r.1))),
      λ h s m. ⊎_elim (λ e. Memᴰ.cast e ((step_inside P t).1 (h.0 t (Memᴰ.head refl), h.1.0))) (i.1 ((λ x j. h.0 x (Memᴰ.tail j)), h.1.1) s) (Memᴰ.cases_cons m),
    )

    abbrev Hand : Walk → Type 0
    Hand w = AtHand (timelines rows) Open w

    through_decides : (P a b : ℕ) → Decides (reaches? (steps_in rows l P) a b) (Through Hand P a b)
    through_decides P a b = iff_decides
        (λ r. let i = (inside_iff P r.0).0 r.2 in (r.0, ((a, b, r.1), (steps_allowed r.0).0 i.0), r.1, i.1, r.3))
        (λ t. (t.0, t.2, (inside_iff P t.0).1 ((steps_allowed t.0).1 t.1.1, t.3), t.4)) (reach_decides (steps_in rows l P) a b)

    abbrev Leg : ℕ → ℕ → ℕ → Type 0
    Leg P a b = Through Hand P a b

    -- a walk inside P, cut at a state on it
    cut : (P s f a : ℕ) (w : Walk) → Allowed (timelines rows) Open w → Leads a w f → Inside P w → On s a w
        → ((s ≡ a) × (Leads s w f)) ⊎ ((v : Walk) × Leg P a s × (Allowed (timelines rows) Open v × Leads s v f × Inside P v))
    cut P s f a [] h l i o = inl (o, o ∙ l)
    cut P s f a (t ∷ w) h l i (inl e) = inl (e, (l.0 ∙ sym e, l.1))
    cut P s f a (t ∷ w) h l i (inr o) = ⊎_elim
        (λ c. inr (w, (t ∷ [], ((a, s, (l.0, sym c.0)), (h.0, h.1, tt)), (l.0, sym c.0), (i.0, tt), cons≢nil), (h.2, subst (λ x. Leads x w f) (sym c.0) l.1, i.1)))
        (λ c. let v = c.1 in inr (c.0, (t ∷ v.0, ((a, s, (l.0, v.2)), (h.0, h.1, v.1.1)), (l.0, v.2), (i.0, v.3), cons≢nil), c.2))
        (cut P s f t.to w h.2 l.1 i.1 o)

    join : (P a s b : ℕ) → Leg P a s → Leg P s b → (t : Leg P a b) × On s a t.0
    join P a s b v w = let l = leads_append a v.0 s w.0 b v.2 w.2 in (
      (v.0 ++ w.0, ((a, b, l), allowed_append (timelines rows) Open v.0 w.0 v.1.1 w.1.1), l, inside_append P v.0 w.0 v.3 w.3, append-ne-nil_of_right_ne-nil v.0 w.4),
      on_middle s a v.0 w.0 v.2,
    )

    -- s lies on a walk from e to f: it is the start, or the end, or between
    abbrev Between : ℕ → ℕ → ℕ → ℕ → Type 0
    Between P e f s = ((s ≡ e) × Leg P s f) ⊎ (Leg P e s × ((s ≡ f) ⊎ Leg P s f))

    between_iff : (P e f s : ℕ) → ((t : Leg P e f) × On s e t.0) ↔ Between P e f s
    between_iff P e f s = (
      (λ p. let t = p.0 in ⊎_elim (λ c. inl (c.0, (t.0, ((s, f, c.1), t.1.1), c.1, t.3, t.4))) (λ c. inr (c.1, rest c.0 c.2)) (cut P s f e t.0 t.1.1 t.2 t.3 p.1)),
      ⊎_elim (λ c. let v = c.1 in let l = subst (λ x. Leads x v.0 f) c.0 v.2 in ((v.0, ((e, f, l), v.1.1), l, v.3, v.4), on_start s e v.0 c.0))
          (λ c. ⊎_elim (λ d. let v = c.0 in let l = subst (λ x. Leads e v.0 x) d v.2 in ((v.0, ((e, f, l), v.1.1), l, v.3, v.4), on_end s e v.0 v.2))
          (λ d. join P e s f c.0 d) c.1),
    )
      where
        rest : (v : Walk) → (Allowed (timelines rows) Open v × Leads s v f × Inside P v) → (s ≡ f) ⊎ Leg P s f
        rest [] h = inl h.1
        rest (t ∷ v) h = inr (t ∷ v, ((s, f, h.1), h.0), h.1, h.2, cons≢nil)

    between_decides : (P e f s : ℕ) → Decides (between? (steps_in rows l P) e f s) ((t : Leg P e f) × On s e t.0)
    between_decides P e f s = iff_decides (between_iff P e f s).1 (between_iff P e f s).0
        (or_decides (and_decides (eqb_decides s e) (through_decides P s f)) (and_decides (through_decides P e s) (or_decides (eqb_decides s f) (through_decides P s f))))

    on_piece_decides : (P s : ℕ) → Decides (on_piece? rows (steps_in rows l P) P s) (OnPiece rows Hand P s)
    on_piece_decides P s = iff_decides
        (λ p. let q = p.2 in ((p.0, q.0, p.1, q.1, q.2.0), q.2.1))
        (λ o. let k = o.0 in (k.0, k.2, (k.1, k.3, (k.4, o.1))))
        (some_in_decides P (λ e. stands_decides (LeftLimit P e) rows) (λ e. some_in_decides P (λ f. stands_decides (RightLimit f P) rows) (λ f. between_decides P e f s)))

    -- a piece has its first state on it
    piece_decides : (P : ℕ) → Decides (any (on_piece? rows (steps_in rows l P) P) (members P)) (Piece rows Hand P)
    piece_decides P = iff_decides (λ p. p.2.0) (λ k. (k.0, (members_iff P k.0).1 k.2.0, (k, on_start k.0 k.0 k.4.0 refl))) (any_decides (on_piece_decides P) (members P))

    gap_decides : (P s : ℕ) → s ∈ P → Decides (gap? rows P s) (Gap rows P s)
    gap_decides P s i = iff_decides (λ p. ((i, p.0.0), (i, p.0.1), p.1)) (λ g. ((g.0.1, g.1.1), g.2))
        (and_decides (and_decides (stands_decides (LeftLimit P s) rows) (stands_decides (RightLimit s P) rows)) (unstruck_decides s))

    -- P loops, P mixes
    says_decides : (c : Claim) → Decides (says? rows (steps_in rows l (set_of c)) c) (Says rows Hand c)
    says_decides (loops P) = iff_decides (λ h a b p q. h a p b q) (λ h a p b q. h a b p q) (all_in_decides P (λ a i. all_in_decides P (λ b j. through_decides P a b)))
    says_decides (mixes P) = iff_decides (λ h. record { covered = h.0; stepped = h.1 }) (λ h. (h.covered, h.stepped))
        (and_decides (all_in_decides P (λ s i. or_decides (on_piece_decides P s) (gap_decides P s i))) (piece_decides P))

    subject_decides : (c : Claim) → Decides (any (eqb (set_of c)) (standing_sets rows)) (SetOf rows (set_of c))
    subject_decides c = iff_decides (sets_iff rows (set_of c)).0 (sets_iff rows (set_of c)).1 (has_decides eqb_decides (set_of c) (standing_sets rows))

    -- the claim holds with the claims of the list
    pub holds_decides : (c : Claim) → Decides (holds? rows l c) (Holds (timelines rows) Open c)
    unfolding holds?
    holds_decides c = and_decides (subject_decides c) (says_decides c)

    walk_decides : (a b : ℕ) → Decides (eqb a b || reaches? (steps rows l) a b) ((w : Walk) × Leads a w b × Allowed (timelines rows) Open w)
    walk_decides a b = iff_decides
        (⊎_elim (λ e. ([], e, tt)) (λ r. (r.0, r.1, (steps_allowed r.0).0 r.2)))
        (λ p. some_or_none p.0 p.1 ((steps_allowed p.0).1 p.2)) (or_decides (eqb_decides a b) (reach_decides (steps rows l) a b))
      where
        some_or_none : (w : Walk) → Leads a w b → w part_of steps rows l → (a ≡ b) ⊎ ((w : Walk) × Leads a w b × w part_of steps rows l × (w ≢ []))
        some_or_none [] h p = inl h
        some_or_none (t ∷ w) h p = inr (t ∷ w, h, p, cons≢nil)

-- the states that rows of one kind name and that are not struck, as lists
only_one : (f : Row → List ℕ) (make : ℕ → Row) (rows : List Row) → ((s : ℕ) → s among f (make s)) → ((r : Row) (s : ℕ) → s among f r → r ≡ make s)
    → (a : ℕ) → a among keep (unstruck? rows) (gather f rows) ↔ (make a among rows × ¬ Struck rows a)
only_one f make rows in_it is_it a = let k = keep_decides (unstruck_decides rows) (gather f rows) a in (
  (λ m. let r = gather_out f a rows (k.0 m).0 in (subst (λ x. x among rows) (is_it r.0 a r.2) r.1, (k.0 m).1)),
  λ h. k.1 (gather_in f h.0 (in_it a), h.1),
)

pub initials_iff : (rows : List Row) (a : ℕ) → a among initials rows ↔ IsInitial rows a
initials_iff rows = only_one initial_of Initial rows (λ s. Memᴰ.head refl) is_it
  where
    is_it : (r : Row) (s : ℕ) → s among initial_of r → r ≡ Initial s
    is_it (Initial x) s m = ap Initial (sym (Memᴰ.eq_of_singleton m))
    is_it (Final x) s m = absurd (Memᴰ.not-nil m)
    is_it (Successor p x q) s m = absurd (Memᴰ.not-nil m)
    is_it (LeftLimit P q) s m = absurd (Memᴰ.not-nil m)
    is_it (RightLimit q P) s m = absurd (Memᴰ.not-nil m)
    is_it (Strike x) s m = absurd (Memᴰ.not-nil m)

pub finals_iff : (rows : List Row) (a : ℕ) → a among finals rows ↔ IsFinal rows a
finals_iff rows = only_one final_of Final rows (λ s. Memᴰ.head refl) is_it
  where
    is_it : (r : Row) (s : ℕ) → s among final_of r → r ≡ Final s
    is_it (Initial x) s m = absurd (Memᴰ.not-nil m)
    is_it (Final x) s m = ap Final (sym (Memᴰ.eq_of_singleton m))
    is_it (Successor p x q) s m = absurd (Memᴰ.not-nil m)
    is_it (LeftLimit P q) s m = absurd (Memᴰ.not-nil m)
    is_it (RightLimit q P) s m = absurd (Memᴰ.not-nil m)
    is_it (Strike x) s m = absurd (Memᴰ.not-nil m)

-- a walk from an initial to a final state with the claims of the list
pub accepts_decides : (rows : List Row) (l : List Claim) → Decides (accepts? rows l) ((w : Walk) × Accepting rows w × Allowed (timelines rows) (λ c. c among l) w)
unfolding accepts?
accepts_decides rows l = iff_decides
    (λ p. let q = p.2 in let w = q.2 in (w.0, (p.0, q.0, (initials_iff rows _).0 p.1, (finals_iff rows _).0 q.1, w.1), w.2))
    (λ p. let h = p.1 in (h.0, (initials_iff rows _).1 h.2, (h.1, (finals_iff rows _).1 h.3, (p.0, h.4, p.2))))
    (any_decides (λ a. any_decides (λ b. walk_decides rows l a b) (finals rows)) (initials rows))

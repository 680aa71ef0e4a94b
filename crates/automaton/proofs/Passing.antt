-- The graph of the rows that were passed (`none_passed`, `pass_initial` to `pass_right`; of letters alone `letters_start`, `letters_in`, `letters_out`, `over_left`, `over_right`), and that nothing says yet which sets a state touches
-- (`none_unindexed` to `struck_unindexed`).
use Prim.Native.Nat.{ℕ, ◌+◌, ◌<◌, ◌≤◌}
use mathlib.Core.Path.{◌≡◌, refl, ap, ap₂, sym, ◌∙◌, subst}
use mathlib.Core.Logic.{◌⊎◌, inl, inr, ⊎_elim, ◌↔◌, ◌≢◌}
use mathlib.Core.List.Memᴰ
use mathlib.Core.List.{List, [], ◌∷◌, ◌++◌}
use lib.ListN.{length, get_or, take, replicate}
use lib.Seq.{length-take-le, get_or-take}
use native.Mathlib.Omega.{arith}
use Rattle.lists.specs.Tests.{◌among◌}
use Rattle.masks.specs.Mask.{◌∈◌}
use Rattle.masks.proofs.Member.{lt_or_le, in_none}
use Rattle.rows.specs.declared.Row.{Row}
use Rattle.rows.specs.declared.Row.TheVariants.{Initial, Final, Successor, LeftLimit, RightLimit, Strike}
use Rattle.sorted_keys.specs.Keys.{Rising}
use Rattle.search.specs.Graph.{Unindexed}
use Rattle.automaton.specs.declared.Seen.{Seen}
use Rattle.automaton.specs.Passed.{Some, Starts, Ends, Takes, Leads, Enters, Leaves, Marked, Passed, SetsPassed, LettersPassed}
use Rattle.automaton.specs.Promise.{Adds, AddsAt, HasSets}
use Rattle.automaton.specs.Striking.{Strikes}
use Rattle.automaton.proofs.Adding.{not_put, put_iff, no_sets}

-- ---- nothing passed

nobody : (P : Row → Type 0) (t : ℕ) {m : ℕ} → m ≡ 0 → (t ∈ m) ↔ Some P []
nobody P t e = ((λ i. absurd (in_none t (subst (λ m. t ∈ m) e i))), λ p. absurd (Memᴰ.not-nil p.1))

pub none_passed : (Order : Type 0) (sets : List ℕ) (n : ℕ) (graph : List ℕ) → n ≤ 64 → HasSets sets n graph → Passed Order sets n [] graph 0 0 0
none_passed Order sets n graph few has = record {
  size = has.length_is;
  kept = has.sets_are;
  marks = record { starts = λ t. nobody (Starts t) t refl; ends = λ t. nobody (Ends t) t refl; takes = λ t. nobody (Takes t) t refl };
  leads = λ p q h. nobody (Leads p q) q (has.others p (inl h));
  enters = λ o i t l. nobody (Enters (get_or sets i 0) t) t (has.others (128 + i) (inr (omega arith)));
  leaves = λ o i t l. nobody (Leaves (get_or sets i 0) t) t (has.others (192 + i) (inr (omega arith)));
}

-- ---- one row more

never : ◌≡◌ {A = ℕ} 0 1 → ⊥
never e = omega arith

-- the rows of l' are those of l, and x
abbrev pub Grown : List Row → Row → List Row → Type 0
Grown l x l' = (y : Row) → y among l' ↔ ((y ≡ x) ⊎ y among l)

-- a row put behind the others
pub grown_last : (l : List Row) (x : Row) → Grown l x (l ++ (x ∷ []))
grown_last l x y = (
  (λ m. ⊎_elim inr (λ i. inl (Memᴰ.eq_of_singleton i)) (Memᴰ.append_cases l m)),
  ⊎_elim (λ e. Memᴰ.append_right l (Memᴰ.head e)) (Memᴰ.append_left (x ∷ [])),
)

module _ (P : Row → Type 0) {l l' : List Row} {x : Row} (g : Grown l x l') where
  more : Some P l' ↔ (Some P l ⊎ P x)
  more = (
    (λ s. ⊎_elim (λ e. inr (subst P e s.2)) (λ m. inl (s.0, m, s.2)) ((g s.0).0 s.1)),
    ⊎_elim (λ s. (s.0, (g s.0).1 (inr s.1), s.2)) (λ p. (x, (g x).1 (inl refl), p)),
  )

  -- the row adds to the mask
  own : {X Y : Type 0} → Y ↔ (X ⊎ P x) → X ↔ Some P l → Y ↔ Some P l'
  own f h = ((λ y. more.1 (⊎_elim (λ i. inl (h.0 i)) inr (f.0 y))), λ s. f.1 (⊎_elim (λ i. inl (h.1 i)) inr (more.0 s)))

  -- it does not
  other : {X : Type 0} → ¬ P x → X ↔ Some P l → X ↔ Some P l'
  other n h = ((λ i. more.1 (inl (h.0 i))), λ s. ⊎_elim h.1 (λ p. absurd (n p)) (more.0 s))

-- a row with one state, in the mask of its kind
state_own : (f : ℕ → Row) → ((s t : ℕ) → f s ≡ f t → s ≡ t) → {x : Row} (m s r : ℕ) → x ≡ f s → Adds m s r
    → (t : ℕ) → (t ∈ r) ↔ ((t ∈ m) ⊎ ((x ≡ f t) × (t < 64)))
state_own f only m s r e is t = (
  (λ i. ⊎_elim inl (λ p. inr (e ∙ ap f (sym p.0), omega (arith, p.0, p.1))) ((is t).0 i)),
  λ i. (is t).1 (⊎_elim inl (λ p. let g = only s t (sym e ∙ p.0) in inr (sym g, omega (arith, p.1, g))) i),
)

step_own : {x : Row} (graph new : List ℕ) {p a q : ℕ} → x ≡ Successor p a q → length graph ≡ 448 → AddsAt graph 0 p q new
    → (i t : ℕ) → (t ∈ get_or new i 0) ↔ ((t ∈ get_or graph i 0) ⊎ Leads i t x)
step_own graph new {p} {a} {q} e size put i t = let z : 0 + i ≡ i = omega arith in let is = rw z at (put_iff graph 0 p q new size put i t) in (
  (λ k. ⊎_elim inl (λ w. let g : Successor p a q ≡ Successor i a t = ap₂ (λ y z. Successor y a z) (sym w.0) (sym w.2) in
      inr (a, e ∙ g, omega (arith, w.0, w.1), omega (arith, w.2, w.3))) (is.0 k)),
  λ k. is.1 (⊎_elim inl (λ w. let g = sym e ∙ w.1 in let u : p ≡ i = cc in let v : q ≡ t = cc in
      inr (sym u, omega (arith, w.2), sym v, omega (arith, w.3))) k),
)

-- of n sets, x is the one at the place r and no other
abbrev pub Stands : Type 0 → List ℕ → ℕ → ℕ → ℕ → Type 0
Stands Order sets n x r = Order → (i : ℕ) → i < n → (i ≡ r) ↔ (get_or sets i 0 ≡ x)

-- a limit row, in the mask at the place of its set, in the part of its kind
limit_own : (f : ℕ → ℕ → Row) → ((P s Q t : ℕ) → f P s ≡ f Q t → (P ≡ Q) × (s ≡ t)) → (Order : Type 0) (sets : List ℕ) (n base : ℕ) → n ≤ 64 → {x : Row} (graph new : List ℕ) (P q at : ℕ)
    → x ≡ f P q → Stands Order sets n P at → length graph ≡ 448 → AddsAt graph base at q new
    → Order → (i t : ℕ) → i < n → (t ∈ get_or new (base + i) 0) ↔ ((t ∈ get_or graph (base + i) 0) ⊎ ((x ≡ f (get_or sets i 0) t) × (t < 64)))
limit_own f only Order sets n base few graph new P q at e there size put o i t l = let is = put_iff graph base at q new size put i t in (
  (λ k. ⊎_elim inl (λ w. inr (e ∙ ap₂ f (sym ((there o i l).0 w.0)) (sym w.2), omega (arith, w.2, w.3))) (is.0 k)),
  λ k. is.1 (⊎_elim inl (λ w. let g = only P q (get_or sets i 0) t (sym e ∙ w.0) in let u = (there o i l).1 (sym g.0) in
      inr (u, omega arith, sym g.1, omega (arith, w.1, g.1))) k),
)

module _ (Order : Type 0) (sets : List ℕ) (n : ℕ) (few : n ≤ 64) {l : List Row} {graph : List ℕ} {initials finals struck : ℕ} (h : Passed Order sets n l graph initials finals struck)
    {x : Row} {l' : List Row} (g : Grown l x l') where
  -- a row with one state: the graph stays
  pass_mark : {i f k : ℕ} → ((p q : ℕ) → ¬ Leads p q x) → ((P t : ℕ) → ¬ Enters P t x) → ((P t : ℕ) → ¬ Leaves P t x)
      → Marked l' i f k → Passed Order sets n l' graph i f k
  pass_mark no_step no_left no_right marked = record {
    size = h.size;
    kept = h.kept;
    marks = marked;
    leads = λ p q j. other (Leads p q) g (no_step p q) (h.leads p q j);
    enters = λ o i t k. other (Enters (get_or sets i 0) t) g (no_left (get_or sets i 0) t) (h.enters o i t k);
    leaves = λ o i t k. other (Leaves (get_or sets i 0) t) g (no_right (get_or sets i 0) t) (h.leaves o i t k);
  }

  pub pass_initial : {s r : ℕ} → x ≡ Initial s → Adds initials s r → Passed Order sets n l' graph r finals struck
  pass_initial {s} {r} e is = pass_mark (λ p q w. never (cc w.1)) (λ P t p. never (cc p.0)) (λ P t p. never (cc p.0)) (record {
    starts = λ t. own (Starts t) g (state_own Initial (λ a b i. cc) initials s r e is t) (h.marks.starts t);
    ends = λ t. other (Ends t) g (λ p. never (cc p.0)) (h.marks.ends t);
    takes = λ t. other (Takes t) g (λ p. never (cc p.0)) (h.marks.takes t);
  })

  pub pass_final : {s r : ℕ} → x ≡ Final s → Adds finals s r → Passed Order sets n l' graph initials r struck
  pass_final {s} {r} e is = pass_mark (λ p q w. never (cc w.1)) (λ P t p. never (cc p.0)) (λ P t p. never (cc p.0)) (record {
    starts = λ t. other (Starts t) g (λ p. never (cc p.0)) (h.marks.starts t);
    ends = λ t. own (Ends t) g (state_own Final (λ a b i. cc) finals s r e is t) (h.marks.ends t);
    takes = λ t. other (Takes t) g (λ p. never (cc p.0)) (h.marks.takes t);
  })

  pub pass_strike : {s r : ℕ} → x ≡ Strike s → Adds struck s r → Passed Order sets n l' graph initials finals r
  pass_strike {s} {r} e is = pass_mark (λ p q w. never (cc w.1)) (λ P t p. never (cc p.0)) (λ P t p. never (cc p.0)) (record {
    starts = λ t. other (Starts t) g (λ p. never (cc p.0)) (h.marks.starts t);
    ends = λ t. other (Ends t) g (λ p. never (cc p.0)) (h.marks.ends t);
    takes = λ t. own (Takes t) g (state_own Strike (λ a b i. cc) struck s r e is t) (h.marks.takes t);
  })

  -- a transition: the masks of states stay
  marks_stay : ((t : ℕ) → ¬ Starts t x) → ((t : ℕ) → ¬ Ends t x) → ((t : ℕ) → ¬ Takes t x) → Marked l' initials finals struck
  marks_stay no_start no_end no_strike = record {
    starts = λ t. other (Starts t) g (no_start t) (h.marks.starts t);
    ends = λ t. other (Ends t) g (no_end t) (h.marks.ends t);
    takes = λ t. other (Takes t) g (no_strike t) (h.marks.takes t);
  }

  -- the masks of the other parts
  stays : {base at s : ℕ} {new : List ℕ} → AddsAt graph base at s new → (j : ℕ) → (at < 64 → j ≢ base + at) → {S : Type 0} (t : ℕ) → (t ∈ get_or graph j 0) ↔ S → (t ∈ get_or new j 0) ↔ S
  stays is j apart t f = rw (is.others j apart) f

  pub pass_step : {p a q : ℕ} {new : List ℕ} → x ≡ Successor p a q → AddsAt graph 0 p q new → Passed Order sets n l' new initials finals struck
  pass_step {new = new} e is = record {
    size = is.length_is ∙ h.size;
    kept = λ i j. is.others (64 + i) (λ a b. omega (arith, few)) ∙ h.kept i j;
    marks = marks_stay (λ t p. never (cc p.0)) (λ t p. never (cc p.0)) (λ t p. never (cc p.0));
    leads = λ p q j. own (Leads p q) g (step_own graph new e h.size is p q) (h.leads p q j);
    enters = λ o i t k. stays is (128 + i) (λ a b. omega arith) t (other (Enters (get_or sets i 0) t) g (λ p. never (cc p.0)) (h.enters o i t k));
    leaves = λ o i t k. stays is (192 + i) (λ a b. omega arith) t (other (Leaves (get_or sets i 0) t) g (λ p. never (cc p.0)) (h.leaves o i t k));
  }

  pub pass_left : {P q : ℕ} (at : ℕ) {new : List ℕ} → x ≡ LeftLimit P q → Stands Order sets n P at → AddsAt graph 128 at q new → Passed Order sets n l' new initials finals struck
  pass_left {P} {q} at {new} e there is = record {
    size = is.length_is ∙ h.size;
    kept = λ i j. is.others (64 + i) (λ a b. omega (arith, few)) ∙ h.kept i j;
    marks = marks_stay (λ t p. never (cc p.0)) (λ t p. never (cc p.0)) (λ t p. never (cc p.0));
    leads = λ p q j. stays is p (λ a b. omega arith) q (other (Leads p q) g (λ w. never (cc w.1)) (h.leads p q j));
    enters = λ o i t k. own (Enters (get_or sets i 0) t) g (limit_own LeftLimit (λ a b c d i. (cc, cc)) Order sets n 128 few graph new P q at e there h.size is o i t k) (h.enters o i t k);
    leaves = λ o i t k. stays is (192 + i) (λ a b. omega arith) t (other (Leaves (get_or sets i 0) t) g (λ p. never (cc p.0)) (h.leaves o i t k));
  }

  pub pass_right : {P q : ℕ} (at : ℕ) {new : List ℕ} → x ≡ RightLimit q P → Stands Order sets n P at → AddsAt graph 192 at q new → Passed Order sets n l' new initials finals struck
  pass_right {P} {q} at {new} e there is = record {
    size = is.length_is ∙ h.size;
    kept = λ i j. is.others (64 + i) (λ a b. omega (arith, few)) ∙ h.kept i j;
    marks = marks_stay (λ t p. never (cc p.0)) (λ t p. never (cc p.0)) (λ t p. never (cc p.0));
    leads = λ p q j. stays is p (λ a b. omega arith) q (other (Leads p q) g (λ w. never (cc w.1)) (h.leads p q j));
    enters = λ o i t k. stays is (128 + i) (λ a b. omega arith) t (other (Enters (get_or sets i 0) t) g (λ p. never (cc p.0)) (h.enters o i t k));
    leaves = λ o i t k. own (Leaves (get_or sets i 0) t) g (limit_own (λ P q. RightLimit q P) (λ a b c d i. (cc, cc)) Order sets n 192 few graph new P q at e there h.size is o i t k) (h.leaves o i t k);
  }

-- ---- other sets

module _ {Order : Type 0} {sets : List ℕ} {n : ℕ} {l : List Row} {graph : List ℕ} {initials finals struck : ℕ} (h : Passed Order sets n l graph initials finals struck) where
  -- the same sets in another list
  pub passed_as : (sets' : List ℕ) → ((i : ℕ) → i < n → get_or sets' i 0 ≡ get_or sets i 0) → Passed Order sets' n l graph initials finals struck
  passed_as sets' same = record {
    size = h.size;
    kept = λ i k. h.kept i k ∙ sym (same i k);
    marks = h.marks;
    leads = h.leads;
    enters = λ o i t k. rw (same i k) (h.enters o i t k);
    leaves = λ o i t k. rw (same i k) (h.leaves o i t k);
  }

  -- what is assumed follows from something else
  pub passed_by : {Other : Type 0} → (Other → Order) → Passed Other sets n l graph initials finals struck
  passed_by f = record { size = h.size; kept = h.kept; marks = h.marks; leads = h.leads; enters = λ o. h.enters (f o); leaves = λ o. h.leaves (f o) }

  -- one set more, which no row has, and no limits at its place
  pub passed_set : (sets' graph' : List ℕ) → n < 64 → length graph' ≡ 448 → ((i : ℕ) → i < n → get_or sets' i 0 ≡ get_or sets i 0) → get_or graph' (64 + n) 0 ≡ get_or sets' n 0
      → ((j : ℕ) → j ≢ 64 + n → get_or graph' j 0 ≡ get_or graph j 0) → get_or graph (128 + n) 0 ≡ 0 → get_or graph (192 + n) 0 ≡ 0
      → ((t : ℕ) → ¬ Some (Enters (get_or sets' n 0) t) l) → ((t : ℕ) → ¬ Some (Leaves (get_or sets' n 0) t) l) → Passed Order sets' (n + 1) l graph' initials finals struck
  passed_set sets' graph' room size same own others no_left no_right no_enters no_leaves = record {
    size = size;
    kept = λ i k. ⊎_elim (λ g. others (64 + i) (λ e. omega arith) ∙ h.kept i g ∙ sym (same i g)) (λ g. let e : i ≡ n = omega arith in rw e own) (lt_or_le i n);
    marks = h.marks;
    leads = λ p q k. rw (others p (λ e. omega arith)) (h.leads p q k);
    enters = λ o i t k. rw (others (128 + i) (λ e. omega arith)) (⊎_elim (λ g. rw (same i g) (h.enters o i t g))
        (λ g. let e : i ≡ n = omega arith in rw (e, no_left) ((λ m. absurd (in_none t m)), λ s. absurd (no_enters t s))) (lt_or_le i n));
    leaves = λ o i t k. rw (others (192 + i) (λ e. omega arith)) (⊎_elim (λ g. rw (same i g) (h.leaves o i t g))
        (λ g. let e : i ≡ n = omega arith in rw (e, no_right) ((λ m. absurd (in_none t m)), λ s. absurd (no_leaves t s))) (lt_or_le i n));
  }

-- the first k sets of an array
pub passed_front : (sets : List ℕ) (k : ℕ) → k ≤ length sets → {l : List Row} {graph : List ℕ} {seen : Seen} → SetsPassed (take k sets) l graph seen
    → Passed (Rising (take k sets) k) sets k l graph seen.initials seen.finals seen.struck
passed_front sets k few {l} {graph} {seen} h = passed_as
    (subst (λ (m : ℕ). Passed (Rising (take k sets) m) (take k sets) m l graph seen.initials seen.finals seen.struck) (length-take-le k sets few) h)
    sets (λ i g. sym (get_or-take k sets i 0 g))

-- ---- letters alone

pub letters_start : LettersPassed [] (replicate 448 0) (record { initials = 0; finals = 0; struck = 0 })
letters_start = none_passed (Unit {0}) [] 0 (replicate 448 0) (omega arith) (no_sets [])

-- there are no sets that could stand out of order
pub letters_in : {l : List Row} {graph : List ℕ} {seen : Seen} → LettersPassed l graph seen → SetsPassed [] l graph seen
letters_in h = passed_by h (λ o. tt)

pub letters_out : {l : List Row} {graph : List ℕ} {seen : Seen} → SetsPassed [] l graph seen → LettersPassed l graph seen
letters_out h = passed_by h (λ o i j g k. absurd (omega arith))

-- a limit row, without sets: nothing is put
module _ {l : List Row} {graph : List ℕ} {seen : Seen} (h : LettersPassed l graph seen) {x : Row} {P q : ℕ} where
  pub over_left : x ≡ LeftLimit P q → LettersPassed (l ++ (x ∷ [])) graph seen
  over_left e = pass_left (Unit {0}) [] 0 (omega arith) h (grown_last l x) 64 e (λ o i k. absurd (omega arith)) (not_put graph 128 64 q (omega arith))

  pub over_right : x ≡ RightLimit q P → LettersPassed (l ++ (x ∷ [])) graph seen
  over_right e = pass_right (Unit {0}) [] 0 (omega arith) h (grown_last l x) 64 e (λ o i k. absurd (omega arith)) (not_put graph 192 64 q (omega arith))

-- ---- nothing stands behind the four parts, and no set from place n on has a limit

pub none_unindexed : (sets : List ℕ) (n : ℕ) (graph : List ℕ) → n ≤ 64 → HasSets sets n graph → Unindexed graph n
none_unindexed sets n graph few has = record {
  size = has.length_is;
  no_sets = λ i g h. has.others (64 + i) (inr (omega arith));
  no_lefts = λ i g h. has.others (128 + i) (inr (omega arith));
  no_rights = λ i g h. has.others (192 + i) (inr (omega arith));
  blank = λ j h. has.others j (inr (omega arith));
}

module _ {n : ℕ} {graph : List ℕ} (h : Unindexed graph n) where
  -- a state is put into a mask of another place
  put_before : {base at s : ℕ} {new : List ℕ} → AddsAt graph base at s new → base ≤ 192 → ((i : ℕ) → i < 64 → at < 64 → 64 + i ≢ base + at)
      → ((i : ℕ) → n ≤ i → i < 64 → at < 64 → 128 + i ≢ base + at) → ((i : ℕ) → n ≤ i → i < 64 → at < 64 → 192 + i ≢ base + at) → Unindexed new n
  put_before is low k f g = record {
    size = is.length_is ∙ h.size;
    no_sets = λ i a b. is.others (64 + i) (k i b) ∙ h.no_sets i a b;
    no_lefts = λ i a b. is.others (128 + i) (f i a b) ∙ h.no_lefts i a b;
    no_rights = λ i a b. is.others (192 + i) (g i a b) ∙ h.no_rights i a b;
    blank = λ j a. is.others j (λ b e. omega arith) ∙ h.blank j a;
  }

  pub letter_unindexed : {at s : ℕ} {new : List ℕ} → AddsAt graph 0 at s new → Unindexed new n
  letter_unindexed is = put_before is (omega arith) (λ i b c e. omega arith) (λ i a b c e. omega arith) (λ i a b c e. omega arith)

  pub limit_unindexed : {base at s : ℕ} {new : List ℕ} → (base ≡ 128) ⊎ (base ≡ 192) → (at < n) ⊎ (64 ≤ at) → AddsAt graph base at s new → Unindexed new n
  limit_unindexed {base} {at} w q is = put_before is (⊎_elim (λ u. omega arith) (λ u. omega arith) w) (λ i b c e. ⊎_elim (λ u. omega arith) (λ u. omega arith) w) (apart 128 (inl refl)) (apart 192 (inr refl))
    where
      apart : (k : ℕ) → (k ≡ 128) ⊎ (k ≡ 192) → (i : ℕ) → n ≤ i → i < 64 → at < 64 → k + i ≢ base + at
      apart k v i a b c e = ⊎_elim (λ u. ⊎_elim (λ x. ⊎_elim (λ y. omega arith) (λ y. omega arith) v) (λ x. ⊎_elim (λ y. omega arith) (λ y. omega arith) v) q) (λ u. ⊎_elim (λ x. ⊎_elim (λ y. omega arith) (λ y. omega arith) v) (λ x. ⊎_elim (λ y. omega arith) (λ y. omega arith) v) q) w

pub struck_unindexed : {n struck : ℕ} {old new : List ℕ} → n ≤ 64 → Strikes n struck old new → Unindexed old n → Unindexed new n
struck_unindexed few out h = record {
  size = out.length_is ∙ h.size;
  no_sets = λ i a b. out.others (64 + i) (inl (omega arith, omega arith)) ∙ h.no_sets i a b;
  no_lefts = λ i a b. out.others (128 + i) (inr (inl (omega arith, omega arith))) ∙ h.no_lefts i a b;
  no_rights = λ i a b. out.others (192 + i) (inr (inr (omega arith))) ∙ h.no_rights i a b;
  blank = λ j a. out.others j (inr (inr (omega arith))) ∙ h.blank j a;
}

-- With all rows passed and what is struck taken out, the graph is the one that the promise gives (`passed_all`), of letters alone
-- too (`letters_all`).
use Prim.Native.Nat.{ℕ, ◌+◌, ◌<◌, ◌≤◌}
use mathlib.Core.Path.{◌≡◌, refl, ap, sym, ◌∙◌, subst}
use mathlib.Core.Bool.{not, ◌&&◌}
use mathlib.Core.Logic.{inl, ⊎_elim, ◌↔◌}
use mathlib.Core.List.Memᴰ
use mathlib.Core.List.{List, [], ◌∷◌}
use lib.ListN.{length, take, get_or, length-take, length-drop, length-append, length-replicate}
use lib.Seq.{get_or-take, ext_get_or}
use native.Mathlib.Omega.{arith}
use Rattle.lists.specs.Tests.{◌among◌}
use Rattle.lists.proofs.Deciding.{ltb_decides, dec_decides}
use Rattle.masks.specs.Mask.{member, ◌∈◌}
use Rattle.masks.proofs.Member.{in_none, lt_or_le, difference_left, difference_not, difference_cases}
use Rattle.rows.specs.declared.Row.{Row}
use Rattle.rows.specs.declared.Row.TheVariants.{Initial, Final, Successor, LeftLimit, RightLimit, Strike}
use Rattle.rows.specs.Rows as Rows
use Rattle.rows.specs.Rows.{AllFit}
use Rattle.orderings.specs.Steps.{letter, members, Struck, Unstruck, Possible}
use Rattle.orderings.proofs.Timelines.{members_iff}
use Rattle.search.specs.Graph.{part, graph_of, Unindexed, Indexed}
use Rattle.search.specs.Masked.{Masked}
use Rattle.search.proofs.Parts.{past_part, letters_at, sets_at, lefts_at, rights_at}
use Rattle.row_table.specs.Arrays.{SetsIn}
use Rattle.automaton.specs.declared.Automaton.{Automaton}
use Rattle.automaton.specs.Promise.{Gives, GivesLetters, automaton_of}
use Rattle.automaton.specs.Passed.{Some, Passed}
use Rattle.automaton.specs.Striking.{Strikes, Finishes}
use Rattle.automaton.proofs.Adding.{past_padded}
use Rattle.automaton.proofs.Passing.{struck_unindexed}

-- r is m without the struck states
abbrev pub Without : ℕ → ℕ → ℕ → Type 0
Without m struck r = (t : ℕ) → member t r ≡ (member t m && not (member t struck))

module _ (rows : List Row) (fit : AllFit rows) (sets : List ℕ) (k : ℕ) (few : k ≤ 64) where
  -- a row whose state is below 64 where it stands
  one_row : (x : Row) (t : ℕ) → (x among rows → t < 64) → {X : Type 0} → X ↔ Some (λ y. (y ≡ x) × (t < 64)) rows → X ↔ x among rows
  one_row x t f h = ((λ i. let s = h.0 i in Memᴰ.cast (sym s.2.0) s.1), λ m. h.1 (x, m, (refl, f m)))

  -- the masks before anything was struck, and those of the automaton
  module _ (old : List ℕ) (initials finals struck : ℕ) {Order : Type 0} (h : Passed Order sets k rows old initials finals struck) (a : Automaton)
      (out : Strikes k struck old a.graph) (ini : Without initials struck a.initials) (fin : Without finals struck a.finals) where
    struck_iff : (s : ℕ) → (s ∈ struck) ↔ Struck rows s
    struck_iff s = one_row (Strike s) s (fit (Strike s)) (h.marks.takes s)

    set_is : (i : ℕ) → i < k → get_or (graph_of a.graph).sets i 0 ≡ get_or sets i 0
    set_is i l = sets_at a.graph i (omega arith) ∙ out.others (64 + i) (inl (omega arith, omega arith)) ∙ h.kept i l

    sets_length : length (graph_of a.graph).sets ≡ 64
    unfolding graph_of part
    sets_length = simp (length-take, length-drop) (omega (arith, h.size, out.length_is))

    letters_past : (p : ℕ) → 64 ≤ p → get_or (graph_of a.graph).letters p 0 ≡ 0
    unfolding graph_of
    letters_past p l = past_part a.graph 0 p l

    -- a state that is not struck, and others
    and_clear : (x : ℕ) (l : List ℕ) → ¬ (x ∈ struck) → Unstruck rows l → Unstruck rows (x ∷ l)
    and_clear x l n u s m g = ⊎_elim (λ e. n ((struck_iff x).1 (subst (Struck rows) e g))) (λ i. u s i g) (Memᴰ.cases_cons m)

    not_struck : (x : ℕ) (l : List ℕ) → Unstruck rows l → x among l → ¬ (x ∈ struck)
    not_struck x l u m i = u x m ((struck_iff x).0 i)

    letter_iff : (p q : ℕ) → Dec (p < 64) → (q ∈ get_or (graph_of a.graph).letters p 0) ↔ ((x : ℕ) × Possible rows p (letter x) q)
    letter_iff p q (yes l) = rw (letters_at a.graph p l) (
      (λ i. let w = (out.letters h.size p l q).0 i in let s = (h.leads p q l).0 w.0 in
          (s.2.0, (Memᴰ.cast (sym s.2.1) s.1, and_clear p (q ∷ []) w.1 (and_clear q [] w.2 (λ s m. absurd (Memᴰ.not-nil m)))))),
      λ (x, (m, u)). let f = fit (Successor p x q) m in (out.letters h.size p l q).1 (
        (h.leads p q l).1 (Successor p x q, m, (x, refl, f.0, f.2)),
        not_struck p (p ∷ q ∷ []) u (Memᴰ.head refl),
        not_struck q (p ∷ q ∷ []) u (Memᴰ.tail (Memᴰ.head refl)),
      ),
    )
    letter_iff p q (no n) =
        ((λ i. absurd (in_none q (subst (λ m. q ∈ m) (letters_past p (omega arith)) i))), λ i. absurd (n (fit (Successor p i.0 q) i.1.0).0))

    -- a limit row x of the state r and the set at place i
    limit_iff : (x : Row) (i r : ℕ) → i < k → (x among rows → r < 64) → (m m' : ℕ) → (r ∈ m) ↔ Some (λ y. (y ≡ x) × (r < 64)) rows
        → (r ∈ m') ↔ ((r ∈ m) × ¬ (i ∈ out.gone) × ¬ (r ∈ struck)) → (r ∈ m') ↔ (x among rows × Unstruck rows (r ∷ members (get_or sets i 0)))
    limit_iff x i r l f m m' is keeps = (
      (λ j. let w = keeps.0 j in
          ((one_row x r f is).0 w.0, and_clear r (members P) w.2 (λ s m g. w.1 ((out.is_gone i).1 (l, (s, subst (λ m. s ∈ m) (sym (h.kept i l)) ((members_iff P s).0 m), (struck_iff s).1 g)))))),
      λ (k, u). keeps.1 (
        (one_row x r f is).1 k,
        (λ g. let w = ((out.is_gone i).0 g).1 in not_struck w.0 (r ∷ members P) u (Memᴰ.tail ((members_iff P w.0).1 (subst (λ m. w.0 ∈ m) (h.kept i l) w.1))) w.2),
        not_struck r (r ∷ members P) u (Memᴰ.head refl),
      ),
    )
      where
        P : ℕ
        P = get_or sets i 0

    -- a row of one state that is not struck
    state_iff : (x : Row) (t : ℕ) → (x among rows → t < 64) → (m r : ℕ) → (t ∈ m) ↔ Some (λ y. (y ≡ x) × (t < 64)) rows → Without m struck r
        → (t ∈ r) ↔ (x among rows × ¬ Struck rows t)
    state_iff x t f m r is out = (
      (λ i. ((one_row x t f is).0 (difference_left m struck r out t i), λ g. difference_not m struck r out t i ((struck_iff t).1 g))),
      λ w. ⊎_elim (λ g. absurd (w.1 ((struck_iff t).0 g))) (λ i. i) (difference_cases m struck r out t ((one_row x t f is).1 w.0)),
    )

    -- letters alone, and the states that walks start from and end at
    pub letters_all : GivesLetters rows a
    letters_all = record {
      letters = λ p q. letter_iff p q (dec_decides (ltb_decides p 64));
      initial_iff = λ t. state_iff (Initial t) t (fit (Initial t)) initials a.initials (h.marks.starts t) ini;
      final_iff = λ t. state_iff (Final t) t (fit (Final t)) finals a.finals (h.marks.ends t) fin;
    }

    sized : SetsIn rows sets k → length sets ≡ 64
    sized w = ap length w.sets_are ∙ simp (length-append, length-replicate) (omega (arith, few, w.count))

    -- no set stands behind the first k
    alike : Unindexed old k → SetsIn rows sets k → (i : ℕ) → i < 64 → get_or (graph_of a.graph).sets i 0 ≡ get_or sets i 0
    alike bare w i l = ⊎_elim (set_is i)
        (λ g. sets_at a.graph i l ∙ out.others (64 + i) (inl (omega arith, omega arith)) ∙ bare.no_sets i g l
        ∙ sym (ap (λ (s : List ℕ). get_or s i 0) w.sets_are ∙ past_padded 64 (Rows.standing_sets rows) i (omega (arith, w.count))))
        (lt_or_le i k)

    -- the graph of all the rows
    pub passed_all : k ≡ length (Rows.standing_sets rows) → take k sets ≡ Rows.standing_sets rows → Unindexed old k → Order → Gives rows sets k a
    passed_all count are bare o = record {
      masked = record {
        few = few;
        sets_are = ext_get_or 0 (take k (graph_of a.graph).sets) (take k sets)
            (omega (arith, length-take k (graph_of a.graph).sets, sets_length, ap length are, count))
            (λ i l. let g : i < k = omega (arith, length-take k (graph_of a.graph).sets) in
            get_or-take k (graph_of a.graph).sets i 0 g ∙ set_is i g ∙ sym (get_or-take k sets i 0 g)) ∙ are;
        letter_iff = letters_all.letters;
        left_iff = λ i r l. rw (lefts_at a.graph i (omega arith), set_is i l)
            (let x = LeftLimit (get_or sets i 0) r in limit_iff x i r l (λ m. (fit x m).2) _ _ (h.enters o i r l) (out.lefts h.size i l r));
        right_iff = λ i r l. rw (rights_at a.graph i (omega arith), set_is i l)
            (let x = RightLimit r (get_or sets i 0) in limit_iff x i r l (λ m. (fit x m).2) _ _ (h.leaves o i r l) (out.rights h.size i l r));
      };
      sets_in = λ w. record {
        count = w.count;
        sets_are = ext_get_or 0 (graph_of a.graph).sets sets (sets_length ∙ sym (sized w)) (λ i l. alike bare w i (omega (arith, sets_length))) ∙ w.sets_are;
      };
      initial_iff = letters_all.initial_iff;
      final_iff = letters_all.final_iff;
    }

-- the same of another array with the same graph
pub gives_as : {rows : List Row} {sets : List ℕ} {k : ℕ} (graph new : List ℕ) (initials finals : ℕ) → graph_of new ≡ graph_of graph
    → Gives rows sets k (record { graph = graph; initials = initials; finals = finals }) → Gives rows sets k (record { graph = new; initials = initials; finals = finals })
gives_as {rows} {sets} {k} graph new initials finals e g = record {
  masked = subst (λ x. Masked rows x k) (sym e) g.masked;
  sets_in = λ w. subst (λ x. SetsIn rows x.sets k) (sym e) (g.sets_in w);
  initial_iff = g.initial_iff;
  final_iff = g.final_iff;
}

-- with all rows passed, what was made of the graph
pub finished : {rows : List Row} → AllFit rows → {sets : List ℕ} {k : ℕ} → k ≡ length (Rows.standing_sets rows) → take k sets ≡ Rows.standing_sets rows → k ≤ 64
    → {old : List ℕ} {initials finals struck : ℕ} → Unindexed old k → {Order : Type 0} → Order → Passed Order sets k rows old initials finals struck
    → {new : List ℕ} {i f : ℕ} → Finishes k struck old new → Without initials struck i → Without finals struck f → Gives rows sets k (automaton_of new i f)
finished {rows} fit {sets} {k} count are few {old} {initials} {finals} {struck} bare o h {new} {i} {f} out ini fin =
    gives_as out.left new i f out.indexes.graph_stays (passed_all rows fit sets k few old initials finals struck h (automaton_of out.left i f) out.strikes ini fin count are bare o)

pub finished_indexed : {k struck : ℕ} {old new : List ℕ} → k ≤ 64 → Unindexed old k → Finishes k struck old new → Indexed new
finished_indexed few bare out = out.indexes.indexed (struck_unindexed few out.strikes bare)

-- the graph holds the sets as the array did that they came from
pub graph_sets_in : (rows : List Row) (sets : List ℕ) (k : ℕ) (a : Automaton) → Gives rows sets k a → SetsIn rows sets k → SetsIn rows (graph_of a.graph).sets k
graph_sets_in rows sets k a gives w = gives.sets_in w

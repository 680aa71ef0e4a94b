-- Request C-11: what is kept under a name (`kept-iff`, `kept_in`, `kept_new`, `kept_other`); calls make marked machines that are well formed
-- (`calls_formed`); a call is refused exactly by a cause (`marked_refusals`), and then nothing changes (`refused_same`); a mark, whatever is called but a mark
-- under its name, and a return bring back the machine that was marked (`every_return`, `mark_and_return`).
use Prim.Native.Nat.{ℕ, suc, ◌≤◌}
use mathlib.Core.Path.{◌≡◌, refl, ap, sym, ◌∙◌, subst}
use mathlib.Core.Bool.{Bool, true, false, cond}
use mathlib.Core.Logic.{◌⊎◌, inl, inr, ⊎_elim, ◌↔◌, ◌≢◌}
use mathlib.Core.Option.{Option, none, some}
use mathlib.Core.List.Memᴰ
use mathlib.Core.List.{List, [], ◌∷◌, ◌++◌, map}
use lib.Dec.{leb}
use lib.ListN.{length, length-map}
use native.Mathlib.Omega.{arith}
use Rattle.lists.specs.Tests.{Decides, ◌among◌, Once}
use Rattle.lists.proofs.Deciding.{so, not_so, yes_decides, no_decides, iff_decides, and_decides, all_decides, leb_decides, map_in, map_out}
use Rattle.rows.specs.Rows.{same_numbers}
use Rattle.rows.proofs.Same.{same_numbers_decides}
use Rattle.machine.specs.Machine.{Machine}
use Rattle.machine.specs.Calls.{Call, Outcome, done, wrote, decided, refused, call, run}
use Rattle.machine.specs.WellFormed.{WellFormed}
use Rattle.machine.specs.Marks.{most_marks, longest_name, Name, name?, Mark, Marked, fresh_marked, names, kept_under, mark_under, MarkedCall, on, mark, return_to, MarkedNext, accept_marked, refuse_marked, call_now, marks_to, brings_back, marked_call, marked_run, MarkedBrings, BringsName, marking, returning, MarkedCause, by_table, no_name, no_mark, fifth_name, MarkedFormed}
use Rattle.machine.specs.Statements.{AllBring, after_calls, EveryReturn, MarkAndReturn}
use Rattle.machine.proofs.Tables.{no_rows}
use Rattle.machine.proofs.Outcomes.{refused_keeps}
use Rattle.machine.proofs.Answers.{Numbered, Known}
use Rattle.machine.proofs.Causes.{refusals, numbered}
use Rattle.machine.proofs.History.{opened_formed, call_formed}

-- ---- names

pub name_decides : (l : List ℕ) → Decides (name? l) (Name l)
unfolding name?
name_decides l = iff_decides
    (λ p. record { some_byte = p.0; short = p.1.0; letters = p.1.1 })
    (λ n. (n.some_byte, (n.short, n.letters)))
    (and_decides (leb_decides 1 (length l)) (and_decides (leb_decides (length l) longest_name) (all_decides (λ b. and_decides (leb_decides 97 b) (leb_decides b 122)) l)))

-- ---- what is kept under a name

module _ (name : List ℕ) where
  kept_none : (l : List Mark) → ¬ (name among names l) → kept_under name l ≡ none
  kept_none [] n = refl
  kept_none (k ∷ l) n = rw (not_so (same_numbers_decides name k.name) (λ e. n (Memᴰ.head e))) (kept_none l (λ i. n (Memᴰ.tail i)))

  kept_some : (l : List Mark) → name among names l → (m : Machine) × (kept_under name l ≡ some m) × record { name = name; kept = m } among l
  kept_some [] i = absurd (Memᴰ.not-nil i)
  kept_some (k ∷ l) i = by (same_numbers name k.name) (same_numbers_decides name k.name) (kept_some l)
    where
      by : (b : Bool) → Decides b (name ≡ k.name) → (name among names l → (m : Machine) × (kept_under name l ≡ some m) × record { name = name; kept = m } among l) → (m : Machine) × (cond b (some k.kept) (kept_under name l) ≡ some m) × record { name = name; kept = m } among (k ∷ l)
      by true d more = (k.kept, refl, Memᴰ.head (ap (λ (x : List ℕ). record { name = x; kept = k.kept }) (yes_decides d)))
      by false d more = let r = more (⊎_elim (λ e. absurd (no_decides d e)) (λ j. j) (Memᴰ.cases_cons i)) in (r.0, r.1, Memᴰ.tail r.2)

  -- there is a mark, or none
  pub named_or_not : (l : List Mark) → (name among names l) ⊎ (¬ (name among names l))
  named_or_not [] = inr Memᴰ.not-nil
  named_or_not (k ∷ l) = by (same_numbers name k.name) (same_numbers_decides name k.name) (named_or_not l)
    where
      by : (b : Bool) → Decides b (name ≡ k.name) → (name among names l) ⊎ (¬ (name among names l)) → (name among names (k ∷ l)) ⊎ (¬ (name among names (k ∷ l)))
      by true d r = inl (Memᴰ.head (yes_decides d))
      by false d (inl i) = inl (Memᴰ.tail i)
      by false d (inr n) = inr (λ i. ⊎_elim (no_decides d) n (Memᴰ.cases_cons i))

  -- what is kept is one of the marks
  pub kept_in : (l : List Mark) (m : Machine) → kept_under name l ≡ some m → record { name = name; kept = m } among l
  kept_in l m e = ⊎_elim
      (λ i. let r = kept_some l i in let f : r.0 ≡ m = cc r.1 in subst (λ (x : Machine). record { name = name; kept = x } among l) f r.2)
      (λ n. let f = kept_none l n in let z : ◌≡◌ {A = ℕ} 0 1 = cc in absurd (omega arith))
      (named_or_not l)

  module _ (m : Machine) where
    -- a mark keeps the machine
    pub kept_new : (l : List Mark) → kept_under name (mark_under name m l) ≡ some m
    kept_new [] = rw (so (same_numbers_decides name name) refl) refl
    kept_new (k ∷ l) = by (same_numbers name k.name) (same_numbers_decides name k.name) (kept_new l)
      where
        by : (b : Bool) → Decides b (name ≡ k.name) → kept_under name (mark_under name m l) ≡ some m → kept_under name (cond b (record { name = name; kept = m } ∷ l) (k ∷ mark_under name m l)) ≡ some m
        by true d more = rw (so (same_numbers_decides name name) refl) refl
        by false d more = rw (not_so (same_numbers_decides name k.name) (no_decides d)) more

    -- and leaves what is kept under other names
    pub kept_other : (other : List ℕ) → other ≢ name → (l : List Mark) → kept_under other (mark_under name m l) ≡ kept_under other l
    kept_other other n [] = rw (not_so (same_numbers_decides other name) n) refl
    kept_other other n (k ∷ l) = by (same_numbers name k.name) (same_numbers_decides name k.name) (kept_other other n l)
      where
        by : (b : Bool) → Decides b (name ≡ k.name) → kept_under other (mark_under name m l) ≡ kept_under other l → kept_under other (cond b (record { name = name; kept = m } ∷ l) (k ∷ mark_under name m l)) ≡ kept_under other (k ∷ l)
        by true d more = rw (not_so (same_numbers_decides other name) n, not_so (same_numbers_decides other k.name) (λ e. n (e ∙ sym (yes_decides d)))) refl
        by false d more = ap (cond (same_numbers other k.name) (some k.kept)) more

    -- the marks then are those before and the new one
    pub marks_then : (l : List Mark) (k : Mark) → k among mark_under name m l → (k ≡ record { name = name; kept = m }) ⊎ (k among l)
    marks_then [] k i = ⊎_elim inl (λ j. absurd (Memᴰ.not-nil j)) (Memᴰ.cases_cons i)
    marks_then (h ∷ l) k i = by (same_numbers name h.name) i (marks_then l k)
      where
        by : (b : Bool) → k among cond b (record { name = name; kept = m } ∷ l) (h ∷ mark_under name m l) → (k among mark_under name m l → (k ≡ record { name = name; kept = m }) ⊎ (k among l)) → (k ≡ record { name = name; kept = m }) ⊎ (k among (h ∷ l))
        by true j more = ⊎_elim inl (λ t. inr (Memᴰ.tail t)) (Memᴰ.cases_cons j)
        by false j more = ⊎_elim (λ e. inr (Memᴰ.head e)) (λ t. ⊎_elim inl (λ u. inr (Memᴰ.tail u)) (more t)) (Memᴰ.cases_cons j)

    -- the same names where there is a mark, else one more behind them
    same_names : (l : List Mark) → name among names l → names (mark_under name m l) ≡ names l
    same_names [] i = absurd (Memᴰ.not-nil i)
    same_names (k ∷ l) i = by (same_numbers name k.name) (same_numbers_decides name k.name) (same_names l)
      where
        by : (b : Bool) → Decides b (name ≡ k.name) → (name among names l → names (mark_under name m l) ≡ names l) → names (cond b (record { name = name; kept = m } ∷ l) (k ∷ mark_under name m l)) ≡ names (k ∷ l)
        by true d more = ap (λ (x : List ℕ). x ∷ names l) (yes_decides d)
        by false d more = ap (λ (x : List (List ℕ)). k.name ∷ x) (more (⊎_elim (λ e. absurd (no_decides d e)) (λ j. j) (Memᴰ.cases_cons i)))

    names_then : (l : List Mark) (x : List ℕ) → x among names (mark_under name m l) → (x ≡ name) ⊎ (x among names l)
    names_then l x i = let r = map_out (λ (k : Mark). k.name) x (mark_under name m l) i in
        ⊎_elim (λ e. inl (r.2 ∙ ap (λ (k : Mark). k.name) e)) (λ j. inr (rw r.2 (map_in (λ (k : Mark). k.name) j))) (marks_then l r.0 r.1)

    new_once : (l : List Mark) → ¬ (name among names l) → Once (names l) → Once (names (mark_under name m l))
    new_once [] n o = (Memᴰ.not-nil, tt)
    new_once (k ∷ l) n o = rw (not_so (same_numbers_decides name k.name) (λ e. n (Memᴰ.head e)))
        ((λ i. ⊎_elim (λ e. n (Memᴰ.head (sym e))) o.0 (names_then l k.name i)), new_once l (λ i. n (Memᴰ.tail i)) o.1)

    new_length : (l : List Mark) → ¬ (name among names l) → length (mark_under name m l) ≡ suc (length l)
    new_length [] n = refl
    new_length (k ∷ l) n = rw (not_so (same_numbers_decides name k.name) (λ e. n (Memᴰ.head e))) (ap suc (new_length l (λ i. n (Memᴰ.tail i))))

    -- each name once, as before
    once_then : (l : List Mark) → Once (names l) → Once (names (mark_under name m l))
    once_then l o = ⊎_elim (λ i. subst Once (sym (same_names l i)) o) (λ n. new_once l n o) (named_or_not l)

    -- too many only where the name is new and as many as may be stand
    marks_few : (l : List Mark) → length l ≤ most_marks → ¬ (length (mark_under name m l) ≤ most_marks) → (¬ (name among names l)) × (most_marks ≤ length l)
    marks_few l f n = (
      (λ i. n (omega (arith, f, length-map (mark_under name m l) (λ (k : Mark). k.name), length-map l (λ (k : Mark). k.name), ap length (same_names l i)))),
      ⊎_elim (λ i. absurd (n (omega (arith, f, length-map (mark_under name m l) (λ (k : Mark). k.name), length-map l (λ (k : Mark). k.name), ap length (same_names l i)))))
          (λ i. omega (arith, n, new_length l i)) (named_or_not l),
    )

-- ---- what a call comes to

pub data Came (x : Marked) : MarkedCall → MarkedNext → Type 0 where
  came_on : (c : Call) → Came x (on c) (call_now x c)
  came_misnamed : (c : MarkedCall) (name : List ℕ) → BringsName c name → ¬ Name name → Came x c (refuse_marked x 14)
  came_marked : (name : List ℕ) → Name name → length (mark_under name x.now x.marks) ≤ most_marks → Came x (mark name) (accept_marked (record { now = x.now; marks = mark_under name x.now x.marks }))
  came_full : (name : List ℕ) → Name name → ¬ (length (mark_under name x.now x.marks) ≤ most_marks) → Came x (mark name) (refuse_marked x 16)
  came_back : (name : List ℕ) (m : Machine) → Name name → kept_under name x.marks ≡ some m → Came x (return_to name) (accept_marked (record { now = m; marks = x.marks }))
  came_absent : (name : List ℕ) → Name name → ¬ (name among names x.marks) → Came x (return_to name) (refuse_marked x 15)

pub came : (x : Marked) (c : MarkedCall) → Came x c (marked_call x c)
unfolding marked_call
came x (on c) = came_on c
came x (mark name) = by (name? name) (name_decides name)
  where
    fits : (b : Bool) → Decides b (length (mark_under name x.now x.marks) ≤ most_marks) → Name name
        → Came x (mark name) (cond b (accept_marked (record { now = x.now; marks = mark_under name x.now x.marks })) (refuse_marked x 16))
    fits true d n = came_marked name n (yes_decides d)
    fits false d n = came_full name n (no_decides d)

    by : (b : Bool) → Decides b (Name name) → Came x (mark name) (cond b (marks_to x (mark_under name x.now x.marks)) (refuse_marked x 14))
    by true d = fits (leb (length (mark_under name x.now x.marks)) most_marks) (leb_decides (length (mark_under name x.now x.marks)) most_marks) (yes_decides d)
    by false d = came_misnamed (mark name) name (marking name) (no_decides d)
came x (return_to name) = by (name? name) (name_decides name)
  where
    found : (o : Option Machine) → kept_under name x.marks ≡ o → Name name → Came x (return_to name) (brings_back x o)
    found none e n = came_absent name n (λ i. let k = kept_some name x.marks i in let f = k.1 in let z : ◌≡◌ {A = ℕ} 0 1 = cc in omega arith)
    found (some m) e n = came_back name m n e

    by : (b : Bool) → Decides b (Name name) → Came x (return_to name) (cond b (brings_back x (kept_under name x.marks)) (refuse_marked x 14))
    by true d = found (kept_under name x.marks) refl (yes_decides d)
    by false d = came_misnamed (return_to name) name (returning name) (no_decides d)

-- ---- calls make well-formed machines

module _ (x : Marked) (w : MarkedFormed x) where
  -- another well-formed machine, with these marks
  pub now_then : (m : Machine) → WellFormed m → MarkedFormed (record { now = m; marks = x.marks })
  now_then m f = record { now_formed = f; kept_formed = w.kept_formed; named = w.named; once = w.once; few = w.few }

  marks_formed : (name : List ℕ) → Name name → length (mark_under name x.now x.marks) ≤ most_marks → MarkedFormed (record { now = x.now; marks = mark_under name x.now x.marks })
  marks_formed name n l = record {
    now_formed = w.now_formed;
    kept_formed = λ k i. ⊎_elim (λ e. rw e w.now_formed) (w.kept_formed k) (marks_then name x.now x.marks k i);
    named = λ k i. ⊎_elim (λ e. rw e n) (w.named k) (marks_then name x.now x.marks k i);
    once = once_then name x.now x.marks w.once;
    few = l;
  }

  -- what is kept under a name is a machine that calls make
  pub back_formed : (name : List ℕ) (m : Machine) → kept_under name x.marks ≡ some m → WellFormed m
  back_formed name m e = w.kept_formed (record { name = name; kept = m }) (kept_in name x.marks m e)

  pub marked_formed : (c : MarkedCall) → MarkedBrings c → MarkedFormed (marked_call x c).machine
  marked_formed c b = by (came x c) b
    where
      by : {c : MarkedCall} {n : MarkedNext} → Came x c n → MarkedBrings c → MarkedFormed n.machine
      by (came_on c) b = now_then (call x.now c).machine (call_formed x.now c b w.now_formed)
      by (came_misnamed c name i n) b = w
      by (came_marked name n l) b = marks_formed name n l
      by (came_full name n l) b = w
      by (came_back name m n e) b = now_then m (back_formed name m e)
      by (came_absent name n i) b = w

marked_run_formed : (x : Marked) (cs : List MarkedCall) → AllBring cs → MarkedFormed x → MarkedFormed (marked_run x cs)
marked_run_formed x [] b w = w
marked_run_formed x (c ∷ cs) b w = marked_run_formed (marked_call x c).machine cs (λ d i. b d (Memᴰ.tail i)) (marked_formed x w c (b c (Memᴰ.head refl)))

pub fresh_formed : MarkedFormed fresh_marked
fresh_formed = record {
  now_formed = opened_formed [] no_rows;
  kept_formed = λ k i. absurd (Memᴰ.not-nil i);
  named = λ k i. absurd (Memᴰ.not-nil i);
  once = tt;
  few = omega arith;
}

-- the machines that calls make from a fresh one are well formed
pub calls_formed : (cs : List MarkedCall) → AllBring cs → WellFormed (after_calls cs)
calls_formed cs b = (marked_run_formed fresh_marked cs b fresh_formed).now_formed

-- ---- causes

module _ (x : Marked) (name : List ℕ) where
  pub misnamed_is : {c : MarkedCall} → BringsName c name → ¬ Name name → marked_call x c ≡ refuse_marked x 14
  unfolding marked_call
  misnamed_is (marking l) n = rw (not_so (name_decides name) n) refl
  misnamed_is (returning l) n = rw (not_so (name_decides name) n) refl

  module _ (n : Name name) where
    pub mark_is : length (mark_under name x.now x.marks) ≤ most_marks → marked_call x (mark name) ≡ accept_marked (record { now = x.now; marks = mark_under name x.now x.marks })
    unfolding marked_call
    mark_is l = rw (so (name_decides name) n, so (leb_decides (length (mark_under name x.now x.marks)) most_marks) l) refl

    pub fifth_is : ¬ (length (mark_under name x.now x.marks) ≤ most_marks) → marked_call x (mark name) ≡ refuse_marked x 16
    unfolding marked_call
    fifth_is l = rw (so (name_decides name) n, not_so (leb_decides (length (mark_under name x.now x.marks)) most_marks) l) refl

    pub return_is : (m : Machine) → kept_under name x.marks ≡ some m → marked_call x (return_to name) ≡ accept_marked (record { now = m; marks = x.marks })
    unfolding marked_call
    return_is m e = rw (so (name_decides name) n) (ap (brings_back x) e)

    pub unmarked_is : kept_under name x.marks ≡ none → marked_call x (return_to name) ≡ refuse_marked x 15
    unfolding marked_call
    unmarked_is e = rw (so (name_decides name) n) (ap (brings_back x) e)

-- a cause at the number and place that are told
at_number : {x : Marked} {c : MarkedCall} {n place : ℕ} (k : ℕ) → refused k 0 ≡ refused n place → MarkedCause x c k 0 → MarkedCause x c n place
at_number {x} {c} {n} {place} k e h = let i : k ≡ n = cc in let j : 0 ≡ place = cc in rw (← i, ← j) h

module _ (x : Marked) where
  pub marked_refusals : (c : MarkedCall) (n place : ℕ) → MarkedFormed x → MarkedBrings c → ((marked_call x c).answer ≡ refused n place) ↔ MarkedCause x c n place
  unfolding marked_call
  marked_refusals c n place w b = (has_cause (came x c) b, refuses b)
    where
      has_cause : {c : MarkedCall} {r : MarkedNext} → Came x c r → MarkedBrings c → r.answer ≡ refused n place → MarkedCause x c n place
      has_cause (came_on c) b e = by_table c n place ((refusals x.now c n place w.now_formed.table b).0 e)
      has_cause (came_misnamed c name i k) b e = at_number 14 e (no_name c name i k)
      has_cause (came_marked name k l) b e = let z : ◌≡◌ {A = ℕ} 0 1 = cc in absurd (omega arith)
      has_cause (came_full name k l) b e = let f = marks_few name x.now x.marks w.few l in at_number 16 e (fifth_name name k f.0 f.1)
      has_cause (came_back name m k f) b e = let z : ◌≡◌ {A = ℕ} 0 1 = cc in absurd (omega arith)
      has_cause (came_absent name k i) b e = at_number 15 e (no_mark name k i)

      refuses : {c : MarkedCall} {n place : ℕ} → MarkedBrings c → MarkedCause x c n place → (marked_call x c).answer ≡ refused n place
      refuses b (by_table c n place h) = (refusals x.now c n place w.now_formed.table b).1 h
      refuses b (no_name c name i k) = ap (λ (r : MarkedNext). r.answer) (misnamed_is x name i k)
      refuses b (no_mark name k i) = ap (λ (r : MarkedNext). r.answer) (unmarked_is x name k (kept_none name x.marks i))
      refuses b (fifth_name name k i l) = ap (λ (r : MarkedNext). r.answer) (fifth_is x name k (λ h. omega (arith, new_length name x.now x.marks i)))

  -- so the number of a refusal is that of a cause
  pub answer_known : (c : MarkedCall) → MarkedFormed x → MarkedBrings c → Known (marked_call x c).answer
  answer_known c w b = by (marked_call x c).answer refl
    where
      of_cause : {c : MarkedCall} {n place : ℕ} → MarkedCause x c n place → Numbered n
      of_cause (by_table c n place h) = numbered h
      of_cause (no_name c name i k) = refl
      of_cause (no_mark name k i) = refl
      of_cause (fifth_name name k i l) = refl

      by : (o : Outcome) → (marked_call x c).answer ≡ o → Known o
      by done e = tt
      by (wrote l) e = tt
      by (decided v) e = tt
      by (refused n place) e = of_cause ((marked_refusals c n place w b).0 e)

  -- a refusal changes nothing
  pub refused_same : (c : MarkedCall) (n place : ℕ) → (marked_call x c).answer ≡ refused n place → (marked_call x c).machine ≡ x
  refused_same c n place e = by (came x c) e
    where
      by : {c : MarkedCall} {r : MarkedNext} → Came x c r → r.answer ≡ refused n place → r.machine ≡ x
      by (came_on c) e = ap (λ (m : Machine). record { now = m; marks = x.marks }) (refused_keeps x.now c n place e)
      by (came_misnamed c name i k) e = refl
      by (came_marked name k l) e = let z : ◌≡◌ {A = ℕ} 0 1 = cc in absurd (omega arith)
      by (came_full name k l) e = refl
      by (came_back name m k f) e = let z : ◌≡◌ {A = ℕ} 0 1 = cc in absurd (omega arith)
      by (came_absent name k i) e = refl

-- ---- lists of calls

pub run_append : (x : Marked) (cs ds : List MarkedCall) → marked_run x (cs ++ ds) ≡ marked_run (marked_run x cs) ds
run_append x [] ds = refl
run_append x (c ∷ cs) ds = run_append (marked_call x c).machine cs ds

-- without marks and returns among them they are those of the plain machine, and keep the marks
pub run_on : (x : Marked) (cs : List Call) → marked_run x (map on cs) ≡ record { now = run x.now cs; marks = x.marks }
unfolding marked_call
run_on x [] = refl
run_on x (c ∷ cs) = run_on (record { now = (call x.now c).machine; marks = x.marks }) cs

-- ---- returns

-- what an accepted mark leaves
mark_kept : (x : Marked) (name : List ℕ) → (marked_call x (mark name)).answer ≡ done → Name name × (kept_under name (marked_call x (mark name)).machine.marks ≡ some x.now)
mark_kept x name e = by (came x (mark name)) e
  where
    by : {r : MarkedNext} → Came x (mark name) r → r.answer ≡ done → Name name × (kept_under name r.machine.marks ≡ some x.now)
    by (came_misnamed c l i k) e = let z : ◌≡◌ {A = ℕ} 0 1 = cc in absurd (omega arith)
    by (came_marked l k h) e = (k, kept_new l x.now x.marks)
    by (came_full l k h) e = let z : ◌≡◌ {A = ℕ} 0 1 = cc in absurd (omega arith)

-- a call that does not mark under the name leaves what is kept under it
call_keeps : (x : Marked) (name : List ℕ) (c : MarkedCall) → c ≢ mark name → kept_under name (marked_call x c).machine.marks ≡ kept_under name x.marks
call_keeps x name c d = by (came x c) d
  where
    by : {c : MarkedCall} {r : MarkedNext} → Came x c r → c ≢ mark name → kept_under name r.machine.marks ≡ kept_under name x.marks
    by (came_on c) d = refl
    by (came_misnamed c l i k) d = refl
    by (came_marked l k h) d = kept_other l x.now name (λ e. d (ap mark (sym e))) x.marks
    by (came_full l k h) d = refl
    by (came_back l m k e) d = refl
    by (came_absent l k i) d = refl

run_keeps : (x : Marked) (name : List ℕ) (cs : List MarkedCall) → ¬ (mark name among cs) → kept_under name (marked_run x cs).marks ≡ kept_under name x.marks
run_keeps x name [] n = refl
run_keeps x name (c ∷ cs) n = run_keeps (marked_call x c).machine name cs (λ i. n (Memᴰ.tail i)) ∙ call_keeps x name c (λ e. n (Memᴰ.head (sym e)))

pub every_return : EveryReturn
every_return x name cs e n =
    let y = marked_run (marked_call x (mark name)).machine cs in
    let k = mark_kept x name e in
    let r = return_is y name k.0 x.now (run_keeps (marked_call x (mark name)).machine name cs n ∙ k.1) in
    record {
      accepted = ap (λ (z : MarkedNext). z.answer) r;
      now_is = ap (λ (z : MarkedNext). z.machine.now) r;
      marks_are = ap (λ (z : MarkedNext). z.machine.marks) r;
    }

-- an accepted mark leaves the machine as it is now
mark_now : (x : Marked) (name : List ℕ) → (marked_call x (mark name)).machine.now ≡ x.now
mark_now x name = by (came x (mark name))
  where
    by : {r : MarkedNext} → Came x (mark name) r → r.machine.now ≡ x.now
    by (came_misnamed c l i k) = refl
    by (came_marked l k h) = refl
    by (came_full l k h) = refl

pub mark_and_return : MarkAndReturn
mark_and_return x name e =
    let y = (marked_call x (mark name)).machine in
    let k = mark_kept x name e in
    ap (λ (z : MarkedNext). z.machine) (return_is y name k.0 x.now k.1) ∙ ap (λ (m : Machine). record { now = m; marks = y.marks }) (sym (mark_now x name))

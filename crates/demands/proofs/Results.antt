-- Every list of calls has a result, and one only: a session is the record of one machine (`one_machine`) with its marks (`marks_of_one`,
-- `represents_one`), and what a call does for it is all that the call promises.
use Prim.Native.Nat.{ℕ}
use mathlib.Core.Path.{◌≡◌, refl, ap, sym, ◌∙◌, subst}
use mathlib.Core.List.Memᴰ
use mathlib.Core.List.{List, [], ◌∷◌, map}
use lib.ListN.{length, take, length-map}
use lib.Seq.{take_at}
use native.Mathlib.Omega.{arith}
use Rattle.lists.specs.Tests.{◌among◌}
use Rattle.rows.specs.declared.Row.{Row}
use Rattle.rows.specs.Rows.{AllFit}
use Rattle.rows.specs.Keys.{high, low}
use Rattle.rows.proofs.Keys.{key_apart}
use Rattle.machine.specs.Calls.{Answer}
use Rattle.machine.specs.declared.Phase.{Phase}
use Rattle.machine.specs.declared.Phase.TheVariants.{Open, Running, Settled}
use Rattle.machine.specs.Machine.{Machine, fresh, open_with}
use Rattle.machine.specs.Calls.{buffer_after}
use Rattle.machine.specs.WellFormed.{after, Worked, Made, WellFormed}
use Rattle.machine.specs.Marks.{most_marks, Name, Mark, Marked, fresh_marked, MarkedCall, marked_call, MarkedBrings}
use Rattle.machine.proofs.Answers.{answer_of, answer_returns, answer_by}
use Rattle.machine.proofs.Settling.{after_after}
use Rattle.row_table.specs.Arrays.{padded}
use Rattle.marks.specs.declared.Kept.{Kept}
use Rattle.marks.specs.declared.Marks.{Marks}
use Rattle.marks.specs.declared.Mark.{Mark as Entry}
use Rattle.machine.proofs.Marks.{answer_known}
use Rattle.marks.specs.Record.{kept_of, marks_of, mark_of}
use Rattle.marks.proofs.Naming.{number_only}
use Rattle.session.specs.declared.Session.{Session}
use Rattle.session.specs.declared.Reply.{Reply}
use Rattle.session.specs.Record.{record_of, Represents}
use Rattle.session.specs.Promise.{Does}
use Rattle.session.proofs.Whole.{standing_of, phase_of, rounds_count, marks_in}
use Rattle.demands.specs.Trace.{Exchange, Trace, lent, Served, onward}
use Rattle.demands.specs.Results.{Ask, asks, Proper, OneTrace, ResultExists}
use Rattle.demands.proofs.Reached.{marked_same, step, fresh_is}

-- ---- one machine

-- the machine of given rows, phase and count of rounds
abbrev made_of : List Row → Phase → ℕ → Machine
made_of rows Open k = open_with rows
made_of rows Running k = after rows k
made_of rows (Settled v) k = after rows k

module _ (m : Machine) where
  worked_of : Worked m → m ≡ after m.rows m.rounds
  worked_of k = k.1 ∙ ap (after m.rows) (sym (ap (λ (x : Machine). x.rounds) k.1 ∙ (after_after m.rows k.0).count))

  -- a machine that calls make is determined by them
  formed_of : (p : Phase) → Made m p → m ≡ made_of m.rows p m.rounds
  formed_of Open e = e
  formed_of Running k = worked_of k
  formed_of (Settled v) k = worked_of k

one_machine : (m m' : Machine) → WellFormed m → WellFormed m' → m.rows ≡ m'.rows → m.phase ≡ m'.phase → m.rounds ≡ m'.rounds → m ≡ m'
one_machine m m' w w' i j k =
    let f : made_of m.rows m.phase m.rounds ≡ made_of m'.rows m'.phase m'.rounds = rw (i, j, k) in
    formed_of m m.phase w.made ∙ f ∙ sym (formed_of m' m'.phase w'.made)

-- ---- one list of marks

-- a list is what its array has before the filling
padded_one : {A : Type 0} (n : ℕ) (d : A) (l l' : List A) → length l ≡ length l' → padded n d l ≡ padded n d l' → l ≡ l'
padded_one n d l l' e f = sym (take_at l _ (length l) refl) ∙ ap (take (length l)) f ∙ take_at l' _ (length l) (sym e)

-- keys are those of one list of rows
keys_one : (rows rows' : List Row) → AllFit rows → AllFit rows' → map high rows ≡ map high rows' → map low rows ≡ map low rows' → rows ≡ rows'
keys_one [] [] f g i j = refl
keys_one [] (r ∷ rows') f g i j = absurd (omega (arith, ap length i))
keys_one (r ∷ rows) [] f g i j = absurd (omega (arith, ap length i))
keys_one (r ∷ rows) (r' ∷ rows') f g i j =
    let e : r ≡ r' = key_apart r r' (f r (Memᴰ.head refl)) (g r' (Memᴰ.head refl)) (cc) (cc) in
    let rest = keys_one rows rows' (λ x m. f x (Memᴰ.tail m)) (λ x m. g x (Memᴰ.tail m)) (cc) (cc) in
    cc

kept_one : (m m' : Machine) → WellFormed m → WellFormed m' → kept_of m ≡ kept_of m' → m ≡ m'
unfolding kept_of
kept_one m m' w w' e = let n : length m.rows ≡ length m'.rows = ap (λ (k : Kept). k.row_count) e in
    one_machine m m' w w'
    (keys_one m.rows m'.rows w.table.fit w'.table.fit
    (padded_one 256 0 (map high m.rows) (map high m'.rows) (simp length-map n) (ap (λ (k : Kept). k.high) e))
    (padded_one 256 0 (map low m.rows) (map low m'.rows) (simp length-map n) (ap (λ (k : Kept). k.low) e)))
    (ap (λ (k : Kept). k.phase) e)
    (ap (λ (k : Kept). k.rounds) e)

mark_same : {k k' : Mark} → k.name ≡ k'.name → k.kept ≡ k'.kept → k ≡ k'
mark_same {k} {k'} i j = ap (λ (l : List ℕ). record { name = l; kept = k.kept }) i ∙ ap (λ (m : Machine). record { name = k'.name; kept = m }) j

-- the marks that calls make
abbrev Kind : List Mark → Type 0
Kind l = (k : Mark) → k among l → Name k.name × WellFormed k.kept

marks_one : (l l' : List Mark) → Kind l → Kind l' → map mark_of l ≡ map mark_of l' → l ≡ l'
marks_one [] [] p q e = refl
marks_one [] (k ∷ l) p q e = absurd (omega (arith, ap length e))
marks_one (k ∷ l) [] p q e = absurd (omega (arith, ap length e))
marks_one (k ∷ l) (k' ∷ l') p q e =
    let g = p k (Memᴰ.head refl) in let h = q k' (Memᴰ.head refl) in
    let f : mark_of k ≡ mark_of k' = cc in
    let i : k.name ≡ k'.name = number_only k.name k'.name g.0.letters h.0.letters (ap (λ (m : Entry). m.name) f) in
    let j : k.kept ≡ k'.kept = kept_one k.kept k'.kept g.1 h.1 (ap (λ (m : Entry). m.kept) f) in
    let r = marks_one l l' (λ x n. p x (Memᴰ.tail n)) (λ x n. q x (Memᴰ.tail n)) (cc) in
    let n : k ≡ k' = mark_same i j in
    cc

marks_of_one : (l l' : List Mark) → Kind l → Kind l' → marks_of l ≡ marks_of l' → l ≡ l'
unfolding marks_of
marks_of_one l l' p q e =
    let n : length l ≡ length l' = ap (λ (s : Marks). s.count) e in
    marks_one l l' p q (padded_one most_marks (record { name = 0; kept = kept_of fresh }) _ _ (simp length-map n) (ap (λ (s : Marks). s.marks) e))

pub represents_one : (x x' : Marked) (s : Session) → Represents x s → Represents x' s → x ≡ x'
represents_one x x' s h g =
    marked_same
    (one_machine x.now x'.now h.formed.now_formed g.formed.now_formed
    (sym (standing_of x s h) ∙ standing_of x' s g) (sym (phase_of x s h) ∙ phase_of x' s g) (sym (rounds_count x s h) ∙ rounds_count x' s g))
    (marks_of_one x.marks x'.marks (λ k n. (h.formed.named k n, h.formed.kept_formed k n)) (λ k n. (g.formed.named k n, g.formed.kept_formed k n))
    (sym (marks_in x s h) ∙ marks_in x' s g))

-- ---- one call

abbrev answered : Marked → MarkedCall → List ℕ → Exchange MarkedCall Reply
answered x c old = record {
  asked = c;
  old = old;
  new = buffer_after (marked_call x c).answer old;
  reply = record { session = record_of (marked_call x c).machine; answer = answer_of (marked_call x c).answer };
}

module _ (x : Marked) (s : Session) (h : Represents x s) where
  serves : (c : MarkedCall) (old : List ℕ) → MarkedBrings c → length old ≡ lent c → Served s (answered x c old)
  serves c old b l = record {
    brings = b;
    lends = l;
    keeps = λ x' g. subst (λ (y : Marked). Does y c old (buffer_after (marked_call x c).answer old) (answered x c old).reply) (represents_one x x' s h g)
        (record { session_is = refl; tells = record { answer_is = answer_returns (marked_call x c).answer (answer_known x c h.formed b); buffer_is = refl } });
  }

  -- nothing else keeps the promise
  serves_one : (e : Exchange MarkedCall Reply) → Served s e → e ≡ answered x e.asked e.old
  serves_one e k = let d = k.keeps x h in of e.new e.reply.session e.reply.answer d.tells.buffer_is d.session_is (answer_by d.tells)
    where
      of : (new : List ℕ) (t : Session) (a : Answer) → new ≡ buffer_after (marked_call x e.asked).answer e.old → t ≡ record_of (marked_call x e.asked).machine → a ≡ answer_of (marked_call x e.asked).answer
          → ◌≡◌ {A = Exchange MarkedCall Reply} (record { asked = e.asked; old = e.old; new = new; reply = record { session = t; answer = a } }) (answered x e.asked e.old)
      of new t a i j k = rw (i, j, k) refl

-- ---- a list of calls

one_trace : (l : List Ask) → Proper l → (x : Marked) (s : Session) → Represents x s → OneTrace s l
one_trace [] p x s h = record { exchanges = []; asked_are = refl; trace = tt; only = λ es i t. none es i }
  where
    none : (es : List (Exchange MarkedCall Reply)) → asks es ≡ [] → es ≡ []
    none [] i = refl
    none (e ∷ es) i = absurd (omega (arith, ap length i))
one_trace (a ∷ l) p x s h =
    let e = answered x a.0 a.1 in
    let k = serves x s h a.0 a.1 p.0 p.1 in
    let r = one_trace l p.2 (marked_call x a.0).machine e.reply.session (step (record { record_is = h; served = k })) in
    record {
      exchanges = e ∷ r.exchanges;
      asked_are = ap (λ (r : List Ask). a ∷ r) r.asked_are;
      trace = (k, r.trace);
      only = λ es i t. first es i t r.only;
    }
  where
    first : (es : List (Exchange MarkedCall Reply)) → asks es ≡ a ∷ l → Trace onward Served s es
        → {fs : List (Exchange MarkedCall Reply)} → ((es : List (Exchange MarkedCall Reply)) → asks es ≡ l → Trace onward Served (record_of (marked_call x a.0).machine) es → es ≡ fs)
        → es ≡ answered x a.0 a.1 ∷ fs
    first [] i t more = absurd (omega (arith, ap length i))
    first (d ∷ es) i t more =
        let f : ◌≡◌ {A = Ask} (d.asked, d.old) a = cc in
        let g : asks es ≡ l = cc in
        let k : d ≡ answered x a.0 a.1 = serves_one x s h d t.0 ∙ ap (λ (y : Ask). answered x y.0 y.1) f in
        let n = more es g (subst (λ (y : Exchange MarkedCall Reply). Trace onward Served y.reply.session es) k t.1) in
        cc

pub result_exists : ResultExists
result_exists s f l p = one_trace l p fresh_marked s (fresh_is s f)

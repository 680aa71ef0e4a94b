-- A file tells its automaton: no two have the same file (`one_buchi`). The lines of a body to the end (`to_end`), and those of a head and of some
-- states (`part_lines`).
use Prim.Native.Nat.{ℕ, suc, ◌+◌}
use mathlib.Core.Path.{◌≡◌, refl, ap, sym, ◌∙◌}
use mathlib.Core.Bool.{Bool, true, false}
use mathlib.Core.List.{List, [], ◌∷◌, ◌++◌, map, append_assoc, append-nil, append_cancel_left, head-eq_of_cons-eq, tail-eq_of_cons-eq}
use lib.ListN.{length, get_or, length-append}
use native.Mathlib.Omega.{arith}
use Rattle.lists.specs.Tests.{gather}
use Rattle.machine.specs.Text.{text, number_text}
use Rattle.machine.specs.Sheet.{line}
use Rattle.machine.proofs.Text.{number_once}
use Rattle.hoa_files.specs.Automata.{BuchiState, Buchi, state_line, edge_line, body_lines, end_line, lines, file_text, head_lines}
use Rattle.hoa_files.proofs.Breaks.{AllUnbroken, cut_once, lines_unbroken}

-- the same bytes are the same lines
lines_once : (ls ms : List (List ℕ)) → AllUnbroken ls → AllUnbroken ms → gather line ls ≡ gather line ms → ls ≡ ms
lines_once ls ms h k e = let c = cut_once ms [] ls k h (e ∙ sym (append-nil (gather line ms))) in c.1 ∙ none c.0 c.2
  where
    none : (later : List (List ℕ)) → [] ≡ gather line later → ms ++ later ≡ ms
    none [] q = append-nil ms
    none (l ∷ later) q = absurd (omega (arith, ap length q, length-append (line l) (gather line later), length-append l (10 ∷ [])))

-- the lines of the count of states and of the start, and what they tell
abbrev pub line_of_count : ℕ → List ℕ
line_of_count n = text "States: " ++ number_text n

abbrev pub line_of_start : ℕ → List ℕ
line_of_start s = text "Start: " ++ number_text s

pub count_once : (n m : ℕ) → line_of_count n ≡ line_of_count m → n ≡ m
count_once n m e = number_once n m (append_cancel_left (text "States: ") (number_text n) (number_text m) e)

pub start_once : (s t : ℕ) → line_of_start s ≡ line_of_start t → s ≡ t
start_once s t e = number_once s t (append_cancel_left (text "Start: ") (number_text s) (number_text t) e)

-- what those of an edge and of a state tell
pub edge_once : (q q' : ℕ) → edge_line q ≡ edge_line q' → q ≡ q'
edge_once q q' e = number_once q q' (append_cancel_left (text "[t] ") (number_text q) (number_text q') e)

marked_longer : (p : ℕ) → length (state_line p true) ≡ length (state_line p false) + 4
marked_longer p = omega (arith, length-append (text "State: ") (number_text p ++ text " {0}"), length-append (number_text p) (text " {0}"), length-append (text "State: ") (number_text p))

marked_once : (p : ℕ) (b c : Bool) → state_line p b ≡ state_line p c → b ≡ c
marked_once p false false e = refl
marked_once p false true e = absurd (omega (arith, ap length e, marked_longer p))
marked_once p true false e = absurd (omega (arith, ap length e, marked_longer p))
marked_once p true true e = refl

-- ---- lines of three kinds, by their first bytes

abbrev pub first_byte : List ℕ → ℕ
first_byte l = get_or l 0 0

pub state_first : (p : ℕ) (b : Bool) → first_byte (state_line p b) ≡ 83
state_first p false = refl
state_first p true = refl

-- lines of one kind are none of another
pub state_no_edge : (p q : ℕ) (marked : Bool) → ¬ (state_line p marked ≡ edge_line q)
state_no_edge p q marked e = omega (arith, state_first p marked, ap first_byte e)

pub edge_no_end : (q : ℕ) → ¬ (edge_line q ≡ end_line)
edge_no_end q e = let z : ◌≡◌ {A = ℕ} 91 45 = ap first_byte e in omega arith

pub end_no_state : (p : ℕ) (b : Bool) → ¬ (end_line ≡ state_line p b)
end_no_state p b e = omega (arith, state_first p b, ap first_byte e)

-- ---- the body

-- the lines of a body from some state on, to the end
abbrev pub to_end : ℕ → List BuchiState → List (List ℕ)
to_end p l = body_lines p l ++ (end_line ∷ [])

-- the lines of a head and of some states
abbrev pub part_lines : ℕ → ℕ → List BuchiState → List (List ℕ)
part_lines n s sts = head_lines n s ++ body_lines 0 sts

pub no_edge_first : (p q : ℕ) (l : List BuchiState) (more : List (List ℕ)) → ¬ (to_end p l ≡ edge_line q ∷ more)
no_edge_first p q [] more e = let z : ◌≡◌ {A = ℕ} 45 91 = ap first_byte (head-eq_of_cons-eq e) in omega arith
no_edge_first p q (s ∷ l) more e = omega (arith, state_first p s.marked, ap first_byte (head-eq_of_cons-eq e))

edges_once : (p : ℕ) (es fs : List ℕ) (l m : List BuchiState) → map edge_line es ++ to_end p l ≡ map edge_line fs ++ to_end p m → (es ≡ fs) × (to_end p l ≡ to_end p m)
edges_once p [] [] l m e = (refl, e)
edges_once p [] (f ∷ fs) l m e = absurd (no_edge_first p f l _ e)
edges_once p (x ∷ es) [] l m e = absurd (no_edge_first p x m _ (sym e))
edges_once p (x ∷ es) (f ∷ fs) l m e =
    let a = edge_once x f (head-eq_of_cons-eq e) in
    let r = edges_once p es fs l m (tail-eq_of_cons-eq e) in
    let b = r.0 in
    (cc, r.1)

states_once : (p : ℕ) (l m : List BuchiState) → to_end p l ≡ to_end p m → l ≡ m
states_once p [] [] e = refl
states_once p [] (t ∷ m) e = absurd (end_no_state p t.marked (head-eq_of_cons-eq e))
states_once p (s ∷ l) [] e = absurd (end_no_state p s.marked (sym (head-eq_of_cons-eq e)))
states_once p (s ∷ l) (t ∷ m) e =
    let a = marked_once p s.marked t.marked (head-eq_of_cons-eq e) in
    let r = edges_once (suc p) s.edges t.edges l m (sym (append_assoc (map edge_line s.edges) _ _) ∙ tail-eq_of_cons-eq e ∙ append_assoc (map edge_line t.edges) _ _) in
    let b = r.0 in
    let d = states_once (suc p) l m r.1 in
    λ x. record { marked = a x; edges = b x } ∷ d x

-- ---- the file

one_lines : (h h' : Buchi) → lines h ≡ lines h' → h ≡ h'
one_lines h h' e =
    let t = tail-eq_of_cons-eq (tail-eq_of_cons-eq e) in
    let a = start_once h.start h'.start (head-eq_of_cons-eq t) in
    let b = states_once 0 h.states h'.states (tail-eq_of_cons-eq (tail-eq_of_cons-eq (tail-eq_of_cons-eq (tail-eq_of_cons-eq (tail-eq_of_cons-eq t))))) in
    λ x. record { start = a x; states = b x }

pub one_buchi : (h h' : Buchi) → file_text h ≡ file_text h' → h ≡ h'
unfolding file_text
one_buchi h h' e = one_lines h h' (lines_once (lines h) (lines h') (lines_unbroken h) (lines_unbroken h') e)

-- Lines that begin a file: those of a head and of some states are without a cause where no number is outside (`part_without`), else of the form
-- (`part_form`), and so are those of which they begin with (`without_first`, `form_first`); with one line more, they are those of one state or edge
-- more (`lines_state`, `lines_edge`).
use Prim.Native.Nat.{ℕ, zero, suc, ◌+◌, ◌-◌, ◌≤◌, ◌<◌}
use mathlib.Core.Path.{◌≡◌, refl, ap, sym, ◌∙◌, subst}
use mathlib.Core.Bool.{Bool}
use mathlib.Core.Logic.{⊎_elim}
use mathlib.Core.List.Memᴰ
use mathlib.Core.List.{List, [], ◌∷◌, ◌++◌, map, append_assoc}
use lib.ListN.{length, length-append, replicate, length-replicate}
use native.Mathlib.Omega.{arith}
use Rattle.lists.specs.Tests.{◌among◌}
use Rattle.hoa_files.specs.Automata.{BuchiState, Buchi, Readable, state_line, edge_line, head_lines, body_lines, end_line, lines}
use Rattle.hoa_files.specs.Files.{OfTheForm, WithoutCause}
use Rattle.hoa_files.proofs.Telling.{part_lines}
use Rattle.hoa_files.proofs.States.{bare, state_with}

-- ---- one line more

body_append : (p k : ℕ) (a b : List BuchiState) → p + length a ≡ k → body_lines p (a ++ b) ≡ body_lines p a ++ body_lines k b
body_append p k [] b e = let i : p ≡ k = omega arith in ap (λ (x : ℕ). body_lines x b) i
body_append p k (s ∷ a) b e =
    let E : List (List ℕ) = map edge_line s.edges in
    ap (λ (t : List (List ℕ)). state_line p s.marked ∷ t)
    (ap (λ (t : List (List ℕ)). E ++ t) (body_append (suc p) k a b (omega arith)) ∙ sym (append_assoc E (body_lines (suc p) a) (body_lines k b)))

-- of one state more
pub lines_state : (sts : List BuchiState) (marked : Bool)
    → body_lines 0 sts ++ (state_line (length sts) marked ∷ []) ≡ body_lines 0 (sts ++ (state_with marked [] ∷ []))
lines_state sts marked = sym (body_append 0 (length sts) sts (state_with marked [] ∷ []) (omega arith))

edge_lines : (qs : List ℕ) (q : ℕ) → (map edge_line qs ++ []) ++ (edge_line q ∷ []) ≡ map edge_line (qs ++ (q ∷ [])) ++ []
edge_lines [] q = refl
edge_lines (x ∷ qs) q = ap (λ (t : List (List ℕ)). edge_line x ∷ t) (edge_lines qs q)

-- of one edge more
pub lines_edge : (sts : List BuchiState) (marked : Bool) (qs : List ℕ) (q : ℕ)
    → body_lines 0 (sts ++ (state_with marked qs ∷ [])) ++ (edge_line q ∷ []) ≡ body_lines 0 (sts ++ (state_with marked (qs ++ (q ∷ [])) ∷ []))
lines_edge sts marked qs q =
    let k = length sts in
    ap (λ (t : List (List ℕ)). t ++ (edge_line q ∷ [])) (body_append 0 k sts (state_with marked qs ∷ []) (omega arith))
    ∙ append_assoc (body_lines 0 sts) (state_line k marked ∷ (map edge_line qs ++ [])) (edge_line q ∷ [])
    ∙ ap (λ (t : List (List ℕ)). body_lines 0 sts ++ (state_line k marked ∷ t)) (edge_lines qs q)
    ∙ sym (body_append 0 k sts (state_with marked (qs ++ (q ∷ [])) ∷ []) (omega arith))

-- ---- the beginning of a file

-- the states, and bare ones up to n
abbrev completed : ℕ → ℕ → List BuchiState → Buchi
completed n s sts = record { start = s; states = sts ++ replicate (n - length sts) bare }

completed_count : (n s : ℕ) (sts : List BuchiState) → length sts ≤ n → length (completed n s sts).states ≡ n
completed_count n s sts h = omega (arith, length-append sts (replicate (n - length sts) bare), length-replicate (n - length sts) bare)

completed_lines : (n s : ℕ) (sts : List BuchiState) → length sts ≤ n → (later : List (List ℕ)) × (lines (completed n s sts) ≡ part_lines n s sts ++ later)
completed_lines n s sts h =
    let k = length sts in
    let B : List BuchiState = replicate (n - k) bare in (
      body_lines k B ++ (end_line ∷ []),
      ap (λ (x : ℕ). head_lines x s ++ (body_lines 0 (sts ++ B) ++ (end_line ∷ []))) (completed_count n s sts h)
          ∙ ap (λ (t : List (List ℕ)). head_lines n s ++ t)
          (ap (λ (t : List (List ℕ)). t ++ (end_line ∷ [])) (body_append 0 k sts B (omega arith)) ∙ append_assoc (body_lines 0 sts) (body_lines k B) (end_line ∷ [])),
    )

-- whatever the numbers
pub part_form : (n s : ℕ) (sts : List BuchiState) → length sts ≤ n → OfTheForm (part_lines n s sts)
part_form n s sts h = (completed n s sts, completed_lines n s sts h)

-- one to six states, no more of them than that, and no number outside them
pub record NumbersInside (n s : ℕ) (sts : List BuchiState) : Type 0 where
  pub some_states : 1 ≤ n
  pub at_most_six : n ≤ 6
  pub start_inside : s < n
  pub no_more : length sts ≤ n
  pub edges_inside : (a : BuchiState) (q : ℕ) → a among sts → q among a.edges → q < n

no_edges : (m : ℕ) (a : BuchiState) (q : ℕ) → a among replicate m bare → ¬ (q among a.edges)
no_edges zero a q i j = Memᴰ.not-nil i
no_edges (suc m) a q i j = ⊎_elim (λ e. Memᴰ.not-nil (subst (λ (x : BuchiState). q among x.edges) e j)) (λ k. no_edges m a q k j) (Memᴰ.cases_cons i)

completed_readable : (n s : ℕ) (sts : List BuchiState) → NumbersInside n s sts → Readable (completed n s sts)
completed_readable n s sts i =
    let c = completed_count n s sts i.no_more in
    record {
      some_states = omega (arith, i.some_states);
      at_most_six = omega (arith, i.at_most_six);
      start_inside = omega (arith, i.start_inside);
      edges_inside = λ a q m j. ⊎_elim (λ k. let b = i.edges_inside a q k j in omega arith) (λ k. absurd (no_edges (n - length sts) a q k j)) (Memᴰ.append_cases sts m);
    }

pub part_without : (n s : ℕ) (sts : List BuchiState) → NumbersInside n s sts → WithoutCause (part_lines n s sts)
part_without n s sts i = (completed n s sts, completed_readable n s sts i, completed_lines n s sts i.no_more)

-- a head alone
pub head_inside : (n s : ℕ) → 1 ≤ n → n ≤ 6 → s < n → NumbersInside n s []
head_inside n s a b c = record { some_states = a; at_most_six = b; start_inside = c; no_more = omega arith; edges_inside = λ x q i j. absurd (Memᴰ.not-nil i) }

pub head_without : (n s : ℕ) → 1 ≤ n → n ≤ 6 → s < n → WithoutCause (head_lines n s)
head_without n s a b c = part_without n s [] (head_inside n s a b c)

-- the first of such lines
pub form_first : (a b : List (List ℕ)) → OfTheForm (a ++ b) → OfTheForm a
form_first a b f = (f.0, (b ++ f.1.0, f.1.1 ∙ append_assoc a b f.1.0))

pub without_first : (a b : List (List ℕ)) → WithoutCause (a ++ b) → WithoutCause a
without_first a b w = (w.0, w.1, (b ++ w.2.0, w.2.1 ∙ append_assoc a b w.2.0))

-- ---- one state or edge more

pub inside_state : (n s : ℕ) (sts : List BuchiState) (marked : Bool) → NumbersInside n s sts → length sts < n → NumbersInside n s (sts ++ (state_with marked [] ∷ []))
inside_state n s sts marked i h = record {
  some_states = i.some_states;
  at_most_six = i.at_most_six;
  start_inside = i.start_inside;
  no_more = omega (arith, length-append sts (state_with marked [] ∷ []));
  edges_inside = λ a q m j. ⊎_elim (λ k. i.edges_inside a q k j)
      (λ k. absurd (Memᴰ.not-nil (subst (λ (x : BuchiState). q among x.edges) (Memᴰ.eq_of_singleton k) j))) (Memᴰ.append_cases sts m);
}

pub inside_edge : (n s : ℕ) (sts : List BuchiState) (marked : Bool) (qs : List ℕ) (q : ℕ) → q < n → NumbersInside n s (sts ++ (state_with marked qs ∷ []))
    → NumbersInside n s (sts ++ (state_with marked (qs ++ (q ∷ [])) ∷ []))
inside_edge n s sts marked qs q h i =
    let old : BuchiState = state_with marked qs in
    let new : BuchiState = state_with marked (qs ++ (q ∷ [])) in
    let one : (t : ℕ) → t among qs ++ (q ∷ []) → t < n = λ t j.
    ⊎_elim (i.edges_inside old t (Memᴰ.append_right sts (Memᴰ.head refl))) (λ k. let e = Memᴰ.eq_of_singleton k in omega arith) (Memᴰ.append_cases qs j) in
    record {
      some_states = i.some_states;
      at_most_six = i.at_most_six;
      start_inside = i.start_inside;
      no_more = omega (arith, i.no_more, length-append sts (old ∷ []), length-append sts (new ∷ []));
      edges_inside = λ a t m j. ⊎_elim (λ k. i.edges_inside a t (Memᴰ.append_left (old ∷ []) k) j)
          (λ k. one t (subst (λ (x : BuchiState). t among x.edges) (Memᴰ.eq_of_singleton k) j)) (Memᴰ.append_cases sts m);
    }

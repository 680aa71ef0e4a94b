-- Which line follows the lines read so far: what comes next in a body (`body_next`), behind a head (`lines_next`), and nothing behind the end (`body_ends`).
use Prim.Native.Nat.{ℕ, suc, ◌+◌, ◌<◌}
use mathlib.Core.Path.{◌≡◌, refl, ap, sym, ◌∙◌, subst}
use mathlib.Core.Bool.{Bool}
use mathlib.Core.Logic.{⊎_elim}
use mathlib.Core.List.Memᴰ
use mathlib.Core.List.{List, [], ◌∷◌, ◌++◌, map, append_assoc, append_cancel_left, head-eq_of_cons-eq, tail-eq_of_cons-eq}
use lib.ListN.{length}
use native.Mathlib.Omega.{arith}
use Rattle.lists.specs.Tests.{◌among◌}
use Rattle.lists.proofs.Deciding.{map_out}
use Rattle.lists.proofs.Places.{split_once}
use Rattle.machine.specs.Text.{text}
use Rattle.hoa_files.specs.Automata.{BuchiState, Buchi, state_line, edge_line, head_lines, body_lines, end_line, lines}
use Rattle.hoa_files.specs.Reading as r
use Rattle.hoa_files.specs.Reading.{NextLine}
use Rattle.hoa_files.proofs.Telling.{edge_once, to_end, no_edge_first, end_no_state, part_lines, count_once, start_once, state_no_edge, edge_no_end}

-- ---- the next line of a body

-- a line that comes where k of n states have come, an edge being one of theirs
pub data ComesNext (n k : ℕ) (all : List BuchiState) : List ℕ → Type 0 where
  a_state : (marked : Bool) → k < n → ComesNext n k all (state_line k marked)
  an_edge : (q : ℕ) (s : BuchiState) → 0 < k → s among all → q among s.edges → ComesNext n k all (edge_line q)
  the_end : k ≡ n → ComesNext n k all end_line

comes_more : {n k : ℕ} {all : List BuchiState} {t : List ℕ} (a : BuchiState) → ComesNext n k all t → ComesNext n k (a ∷ all) t
comes_more a (a_state marked h) = a_state marked h
comes_more a (an_edge q s h i j) = an_edge q s h (Memᴰ.tail i) j
comes_more a (the_end h) = the_end h

pub comes_next : {n k : ℕ} {all : List BuchiState} {t : List ℕ} → ComesNext n k all t → NextLine n k t
comes_next (a_state marked h) = r.a_state marked h
comes_next (an_edge q s h i j) = r.an_edge q h
comes_next (the_end h) = r.the_end h

-- an edge that comes is one of a state
pub comes_edge : {n k : ℕ} {all : List BuchiState} {t : List ℕ} (q : ℕ) → ComesNext n k all t → t ≡ edge_line q → (s : BuchiState) × s among all × q among s.edges
comes_edge {k = k} q (a_state marked h) e = absurd (state_no_edge k q marked e)
comes_edge q (an_edge p s h i j) e = (s, i, subst (λ (x : ℕ). x among s.edges) (edge_once p q e) j)
comes_edge q (the_end h) e = absurd (edge_no_end q (sym e))

-- an edge comes before a state
edge_comes : (n k p : ℕ) (a : BuchiState) (q : ℕ) (sts all : List BuchiState) (next : List ℕ) (later more : List (List ℕ)) → 0 < k → q among a.edges
    → edge_line q ∷ more ≡ body_lines p sts ++ (next ∷ later) → ComesNext n k (a ∷ all) next
edge_comes n k p a q [] all next later more h i e = subst (ComesNext n k (a ∷ all)) (head-eq_of_cons-eq e) (an_edge q a h (Memᴰ.head refl) i)
edge_comes n k p a q (s ∷ sts) all next later more h i e = absurd (state_no_edge p q s.marked (sym (head-eq_of_cons-eq e)))

-- the edges of a state that is read, and what follows them
edges_next : (n k p : ℕ) (a : BuchiState) (qs ts : List ℕ) (sts all : List BuchiState) (next : List ℕ) (later : List (List ℕ)) → 0 < k → ((q : ℕ) → q among qs → q among a.edges)
    → (to_end p all ≡ body_lines p sts ++ (next ∷ later) → ComesNext n k all next)
    → map edge_line qs ++ to_end p all ≡ map edge_line ts ++ (body_lines p sts ++ (next ∷ later)) → ComesNext n k (a ∷ all) next
edges_next n k p a [] [] sts all next later h i rest e = comes_more a (rest e)
edges_next n k p a [] (t ∷ ts) sts all next later h i rest e = absurd (no_edge_first p t all _ e)
edges_next n k p a (q ∷ qs) [] sts all next later h i rest e = edge_comes n k p a q sts all next later _ h (i q (Memᴰ.head refl)) e
edges_next n k p a (q ∷ qs) (t ∷ ts) sts all next later h i rest e = edges_next n k p a qs ts sts all next later h (λ x j. i x (Memᴰ.tail j)) rest (tail-eq_of_cons-eq e)

-- behind the lines of some states
pub body_next : (n k p : ℕ) (sts all : List BuchiState) (next : List ℕ) (later : List (List ℕ)) → p + length sts ≡ k → p + length all ≡ n
    → to_end p all ≡ body_lines p sts ++ (next ∷ later) → ComesNext n k all next
body_next n k p [] [] next later ek en e = subst (ComesNext n k []) (head-eq_of_cons-eq e) (the_end (omega arith))
body_next n k p [] (a ∷ all) next later ek en e =
    let same : k ≡ p = omega arith in
    subst (ComesNext n k (a ∷ all)) (ap (λ (x : ℕ). state_line x a.marked) same ∙ head-eq_of_cons-eq e) (a_state a.marked (omega arith))
body_next n k p (s ∷ sts) [] next later ek en e = absurd (end_no_state p s.marked (head-eq_of_cons-eq e))
body_next n k p (s ∷ sts) (a ∷ all) next later ek en e =
    edges_next n k (suc p) a a.edges s.edges sts all next later (omega arith) (λ q i. i) (body_next n k (suc p) sts all next later (omega arith) (omega arith))
    (sym (append_assoc (map edge_line a.edges) (body_lines (suc p) all) (end_line ∷ [])) ∙ tail-eq_of_cons-eq e ∙ append_assoc (map edge_line s.edges) (body_lines (suc p) sts) (next ∷ later))

-- ---- the end of a body

end_not_in : (p : ℕ) (sts : List BuchiState) → ¬ (end_line among body_lines p sts)
end_not_in p [] i = Memᴰ.not-nil i
end_not_in p (s ∷ sts) i = ⊎_elim (end_no_state p s.marked)
    (λ j. ⊎_elim (λ k. let o = map_out edge_line end_line s.edges k in edge_no_end o.0 (sym o.2)) (end_not_in (suc p) sts) (Memᴰ.append_cases (map edge_line s.edges) j))
    (Memᴰ.cases_cons i)

-- the lines of states alone are no whole body
pub no_whole_body : (p : ℕ) (sts all : List BuchiState) → ¬ (to_end p all ≡ body_lines p sts)
no_whole_body p sts all e = end_not_in p sts (subst (λ (l : List (List ℕ)). end_line among l) e (Memᴰ.append_right (body_lines p all) (Memᴰ.head refl)))

-- nothing follows the end
pub body_ends : (p : ℕ) (sts all : List BuchiState) (later : List (List ℕ)) → to_end p all ≡ body_lines p sts ++ (end_line ∷ later) → [] ≡ later
body_ends p sts all later e = (split_once end_line (body_lines p all) (body_lines p sts) [] later (end_not_in p all) (end_not_in p sts) e).1

-- ---- behind the head

-- two heads are the same, and so is what follows them
pub behind_head : (n s m t : ℕ) (a b : List (List ℕ)) → head_lines n s ++ a ≡ head_lines m t ++ b → (n ≡ m) × (s ≡ t) × (a ≡ b)
behind_head n s m t a b e =
    let e₁ = tail-eq_of_cons-eq e in
    let e₂ = tail-eq_of_cons-eq e₁ in
    let e₃ = tail-eq_of_cons-eq e₂ in (
      count_once n m (head-eq_of_cons-eq e₁),
      start_once s t (head-eq_of_cons-eq e₂),
      append_cancel_left (text "AP: 0" ∷ text "acc-name: Buchi" ∷ text "Acceptance: 1 Inf(0)" ∷ text "--BODY--" ∷ []) a b e₃,
    )

-- the line behind a head and some states
pub record LineFollows (h : Buchi) (n s k : ℕ) (next : List ℕ) : Type 0 where
  pub count_is : length h.states ≡ n
  pub start_is : h.start ≡ s
  pub comes : ComesNext n k h.states next

pub lines_next : (h : Buchi) (n s : ℕ) (sts : List BuchiState) (next : List ℕ) (later : List (List ℕ)) → lines h ≡ part_lines n s sts ++ (next ∷ later) → LineFollows h n s (length sts) next
lines_next h n s sts next later e =
    let b = behind_head (length h.states) h.start n s (to_end 0 h.states) (body_lines 0 sts ++ (next ∷ later)) e in
    let c = b.0 in
    record { count_is = b.0; start_is = b.1; comes = body_next n (length sts) 0 sts h.states next later (omega arith) (omega arith) b.2 }

-- What the loop over a body keeps: the lines of the head and of some states stand, and no number in them is outside (`PartRead`). It begins behind the
-- head (`part_start`), goes on by a state or an edge (`part_state`, `part_edge`), and gives a cause (`part_refused`, `part_more`) or the file (`part_end`).
use Prim.Native.Nat.{ℕ, ◌+◌, ◌≤◌, ◌<◌}
use mathlib.Core.Path.{◌≡◌, refl, ap, sym, ◌∙◌, subst}
use mathlib.Core.Bool.{Bool}
use mathlib.Core.List.{List, [], ◌∷◌, ◌++◌, append_assoc, append-nil, nil≢cons}
use lib.ListN.{length, drop, length-append, drop_of_length-le}
use native.Mathlib.Omega.{arith}
use Rattle.lists.specs.Tests.{gather}
use Rattle.lists.proofs.Places.{last_of}
use Rattle.machine.specs.Sheet.{line}
use Rattle.hoa_files.specs.Automata.{BuchiState, Buchi, Readable, state_line, edge_line, head_lines, body_lines, end_line, lines, file_text}
use Rattle.hoa_files.specs.Files.{IsFileOf, OfTheForm, WithoutCause, FileCause, number_outside}
use Rattle.hoa_files.specs.Reading.{◌begin_with◌, RefusesLine, none_comes, beyond, TakesHead}
use Rattle.hoa_files.proofs.Starting.{behind_text, begins_more, count_more}
use Rattle.hoa_files.proofs.Causes.{no_line_found}
use Rattle.hoa_files.proofs.Telling.{part_lines}
use Rattle.hoa_files.proofs.Following.{lines_next, comes_edge, no_whole_body, behind_head, comes_next, body_ends}
use Rattle.hoa_files.proofs.States.{state_with}
use Rattle.hoa_files.proofs.Completing.{NumbersInside, head_inside, inside_state, lines_state, inside_edge, lines_edge, part_form, part_without}

-- the lines of a head and of some states stand at the start of the bytes, up to the place
pub record PartRead (l : List ℕ) (n s at : ℕ) (sts : List BuchiState) : Type 0 where
  pub inside : NumbersInside n s sts
  pub stands : l begin_with gather line (part_lines n s sts)
  pub place_is : at ≡ length (gather line (part_lines n s sts))

pub part_start : {l : List ℕ} {n s count : ℕ} → TakesHead l n s count → PartRead l n s count []
part_start {n = n} {s = s} h = record { inside = head_inside n s h.some_states h.at_most_six h.start_inside; stands = h.stands; place_is = h.length_is }

pub part_within : {l : List ℕ} {n s at : ℕ} {sts : List BuchiState} → PartRead l n s at sts → at ≤ length l
part_within {l} {n} {s} {at} {sts} p =
    omega (arith, p.place_is, ap (length {A = ℕ}) p.stands.1, length-append (gather line (part_lines n s sts)) p.stands.0)

-- what is left
part_rest : {l : List ℕ} {n s at : ℕ} {sts : List BuchiState} (p : PartRead l n s at sts) → drop at l ≡ p.stands.0
part_rest {l} {n} {s} {at} {sts} p = behind_text l (gather line (part_lines n s sts)) p.stands.0 at p.stands.1 p.place_is

-- one line more
part_next : {l : List ℕ} {n s at : ℕ} {sts : List BuchiState} (new : List BuchiState) (t : List ℕ) → PartRead l n s at sts → drop at l begin_with line t → NumbersInside n s new
    → part_lines n s sts ++ (t ∷ []) ≡ part_lines n s new → PartRead l n s (at + length (line t)) new
part_next {l} {n} {s} {at} {sts} new t p b i e = record {
  inside = i;
  stands = (b.0, subst (λ (x : List (List ℕ)). l ≡ gather line x ++ b.0) e (begins_more l (part_lines n s sts) t p.stands.0 b.0 p.stands.1 (sym (part_rest p) ∙ b.1)));
  place_is = ap (λ (x : ℕ). x + length (line t)) p.place_is ∙ sym (count_more (part_lines n s sts) t) ∙ ap (λ (x : List (List ℕ)). length (gather line x)) e;
}

pub part_state : {l : List ℕ} {n s at : ℕ} {sts : List BuchiState} → PartRead l n s at sts → length sts < n → (marked : Bool) → drop at l begin_with line (state_line (length sts) marked)
    → PartRead l n s (at + length (line (state_line (length sts) marked))) (sts ++ (state_with marked [] ∷ []))
part_state {n = n} {s = s} {sts = sts} p h marked b =
    part_next _ (state_line (length sts) marked) p b (inside_state n s sts marked p.inside h) (ap (λ (t : List (List ℕ)). head_lines n s ++ t) (lines_state sts marked))

pub part_edge : {l : List ℕ} {n s at : ℕ} (sts : List BuchiState) (m : Bool) (qs : List ℕ) (q : ℕ) → PartRead l n s at (sts ++ (state_with m qs ∷ [])) → q < n
    → drop at l begin_with line (edge_line q) → PartRead l n s (at + length (line (edge_line q))) (sts ++ (state_with m (qs ++ (q ∷ [])) ∷ []))
part_edge {n = n} {s = s} sts m qs q p h b =
    part_next _ (edge_line q) p b (inside_edge n s sts m qs q h p.inside) (ap (λ (t : List (List ℕ)). head_lines n s ++ t) (lines_edge sts m qs q))

-- ---- a line that refuses

-- behind a state an edge may come, whatever its number
form_edge : (n s q : ℕ) (sts : List BuchiState) → 0 < length sts → length sts ≤ n → OfTheForm (part_lines n s sts ++ (edge_line q ∷ []))
form_edge n s q sts h k =
    let r = last_of sts h in
    let a = r.0 in
    let x = r.1 in
    let e : sts ≡ a ++ (x ∷ []) = r.2 in
    let new : BuchiState = record { marked = x.marked; edges = x.edges ++ (q ∷ []) } in
    let c : length (a ++ (new ∷ [])) ≤ n = omega (arith, ap (length {A = BuchiState}) e, length-append a (x ∷ []), length-append a (new ∷ [])) in
    subst (λ (t : List BuchiState). OfTheForm (part_lines n s t ++ (edge_line q ∷ []))) (sym e)
    (subst (λ (t : List (List ℕ)). OfTheForm (head_lines n s ++ t)) (sym (lines_edge a x.marked x.edges q)) (part_form n s (a ++ (new ∷ [])) c))

-- but of a readable automaton it is inside
edge_outside : (n s q : ℕ) (sts : List BuchiState) → n ≤ q → ¬ WithoutCause (part_lines n s sts ++ (edge_line q ∷ []))
edge_outside n s q sts h (b, r, (later, e)) =
    let f = lines_next b n s sts (edge_line q) later (e ∙ append_assoc (part_lines n s sts) (edge_line q ∷ []) later) in
    let i = comes_edge q f.comes refl in
    omega (arith, f.count_is, r.edges_inside i.0 q i.1 i.2)

pub part_refused : {l : List ℕ} {n s at : ℕ} {sts : List BuchiState} → PartRead l n s at sts → (c : ℕ) → RefusesLine (drop at l) n (length sts) c → FileCause l c at
part_refused {l} {n} {s} {at} {sts} p c (none_comes f) = subst (FileCause l 20) (sym p.place_is)
    (no_line_found l (part_lines n s sts) p.stands.0 p.stands.1 (part_without n s sts p.inside) partial none)
  where
    partial : (h : Buchi) → lines h ≡ part_lines n s sts → ¬ (p.stands.0 ≡ [])
    partial h e q = no_whole_body 0 sts h.states (behind_head (length h.states) h.start n s _ _ e).2

    none : (next more : List ℕ) → p.stands.0 ≡ line next ++ more → ¬ OfTheForm (part_lines n s sts ++ (next ∷ []))
    none next more q (h, (later, e)) = f next (more, part_rest p ∙ q)
        (comes_next (lines_next h n s sts next later (e ∙ append_assoc (part_lines n s sts) (next ∷ []) later)).comes)
part_refused {l} {n} {s} {at} {sts} p c (beyond q k h b) = subst (FileCause l 21) (sym p.place_is)
    (number_outside (part_lines n s sts) (edge_line q) b.0 (p.stands.1 ∙ ap (λ (t : List ℕ). gather line (part_lines n s sts) ++ t) (sym (part_rest p) ∙ b.1)) (part_without n s sts p.inside)
    (form_edge n s q sts k p.inside.no_more) (edge_outside n s q sts h))

-- ---- the end

-- the automaton of all the states
abbrev whole : ℕ → List BuchiState → Buchi
whole s sts = record { start = s; states = sts }

whole_readable : (n s : ℕ) (sts : List BuchiState) → NumbersInside n s sts → length sts ≡ n → Readable (whole s sts)
whole_readable n s sts i e = record {
  some_states = omega (arith, i.some_states);
  at_most_six = omega (arith, i.at_most_six);
  start_inside = omega (arith, i.start_inside);
  edges_inside = λ a q m j. let b = i.edges_inside a q m j in omega arith;
}

-- its lines are those read, and the end
whole_lines : (n s : ℕ) (sts : List BuchiState) → length sts ≡ n → lines (whole s sts) ≡ part_lines n s sts ++ (end_line ∷ [])
whole_lines n s sts e = ap (λ (x : ℕ). head_lines x s ++ (body_lines 0 sts ++ (end_line ∷ []))) e

-- what stands up to the end
end_stands : {l : List ℕ} {n s at : ℕ} {sts : List BuchiState} → PartRead l n s at sts → (b : drop at l begin_with line end_line)
    → (l ≡ gather line (part_lines n s sts ++ (end_line ∷ [])) ++ b.0) × (at + 8 ≡ length (gather line (part_lines n s sts ++ (end_line ∷ []))))
end_stands {l} {n} {s} {at} {sts} p b =
    (begins_more l (part_lines n s sts) end_line p.stands.0 b.0 p.stands.1 (sym (part_rest p) ∙ b.1), omega (arith, p.place_is, count_more (part_lines n s sts) end_line))

pub part_end : {l : List ℕ} {n s at : ℕ} {sts : List BuchiState} → PartRead l n s at sts → length sts ≡ n → drop at l begin_with line end_line → at + 8 ≡ length l
    → IsFileOf l (record { start = s; states = sts })
unfolding file_text
part_end {l} {n} {s} {at} {sts} p e b h =
    let G : List ℕ = gather line (part_lines n s sts ++ (end_line ∷ [])) in
    let a = end_stands p b in
    let none : b.0 ≡ [] = drop_of_length-le b.0 {i = 0} (omega (arith, ap (length {A = ℕ}) a.0, length-append G b.0, a.1)) in (
      whole_readable n s sts p.inside e,
      a.0 ∙ ap (λ (t : List ℕ). G ++ t) none ∙ append-nil G ∙ ap (gather line) (sym (whole_lines n s sts e)),
    )

-- 20 where something stands behind the end
pub part_more : {l : List ℕ} {n s at : ℕ} {sts : List BuchiState} → PartRead l n s at sts → length sts ≡ n → drop at l begin_with line end_line → at + 8 < length l → FileCause l 20 (at + 8)
part_more {l} {n} {s} {at} {sts} p e b h = subst (FileCause l 20) (sym (end_stands p b).1) (no_line_found l all b.0 (end_stands p b).0 without partial none)
  where
    all : List (List ℕ)
    all = part_lines n s sts ++ (end_line ∷ [])

    without : WithoutCause all
    without = (whole s sts, whole_readable n s sts p.inside e, ([], whole_lines n s sts e ∙ sym (append-nil all)))

    partial : (h : Buchi) → lines h ≡ all → ¬ (b.0 ≡ [])
    partial _ _ q = omega (arith, h, ap (length {A = ℕ}) (end_stands p b).0, length-append (gather line all) b.0, (end_stands p b).1, ap (length {A = ℕ}) q)

    none : (next more : List ℕ) → b.0 ≡ line next ++ more → ¬ OfTheForm (all ++ (next ∷ []))
    none next more q (g, (later, i)) = nil≢cons (body_ends 0 sts g.states (next ∷ later)
        (behind_head (length g.states) g.start n s _ _ (i ∙ append_assoc all (next ∷ []) later ∙ append_assoc (part_lines n s sts) (end_line ∷ []) (next ∷ later))).2)

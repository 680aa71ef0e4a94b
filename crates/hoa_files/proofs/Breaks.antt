-- The lines of a file have no line end in them (`lines_unbroken`), so of two ways to cut bytes into whole lines and a rest one goes on from the other
-- (`cut_both`, `cut_once`).
use Prim.Native.Nat.{ℕ, suc, ◌<◌}
use mathlib.Core.Path.{◌≡◌, refl, ap, sym, ◌∙◌, subst}
use mathlib.Core.Logic.{◌⊎◌, inl, inr, ⊎_elim, ◌≢◌}
use mathlib.Core.Bool.{Bool, true, false}
use mathlib.Core.List.Memᴰ
use mathlib.Core.List.{List, [], ◌∷◌, ◌++◌, map, append_assoc}
use lib.Dec.{ltb}
use lib.ListN.{length, length-append}
use native.Mathlib.Omega.{arith}
use Rattle.lists.specs.Tests.{◌among◌, all, gather}
use Rattle.lists.proofs.Deciding.{ltb_decides, all_decides, map_out}
use Rattle.machine.specs.Text.{text, number_text}
use Rattle.machine.specs.Sheet.{line}
use Rattle.machine.proofs.Text.{digits_only}
use Rattle.machine.proofs.Sheet.{line_split}
use Rattle.hoa_files.specs.Automata.{BuchiState, Buchi, state_line, edge_line, head_lines, body_lines, end_line, lines}

-- no line end in the line
abbrev pub Unbroken : List ℕ → Type 0
Unbroken l = (b : ℕ) → b among l → b ≢ 10

-- in none of the lines
abbrev pub AllUnbroken : List (List ℕ) → Type 0
AllUnbroken ls = (l : List ℕ) → l among ls → Unbroken l

-- ---- the lines of a file

text_unbroken : (l : List ℕ) → all (λ b. ltb 10 b) l ≡ true → Unbroken l
text_unbroken l e b i q = let h : 10 < b = (all_decides (λ b. ltb_decides 10 b) l).to e b i in omega arith

append_unbroken : (l m : List ℕ) → Unbroken l → Unbroken m → Unbroken (l ++ m)
append_unbroken l m h k b i = ⊎_elim (h b) (k b) (Memᴰ.append_cases l i)

number_unbroken : (x : ℕ) → Unbroken (number_text x)
number_unbroken x b i q = omega (arith, (digits_only x b i).0)

state_unbroken : (p : ℕ) (marked : Bool) → Unbroken (state_line p marked)
state_unbroken p false = append_unbroken (text "State: ") _ (text_unbroken (text "State: ") refl) (number_unbroken p)
state_unbroken p true = append_unbroken (text "State: ") _ (text_unbroken (text "State: ") refl) (append_unbroken (number_text p) _ (number_unbroken p) (text_unbroken (text " {0}") refl))

edge_unbroken : (q : ℕ) → Unbroken (edge_line q)
edge_unbroken q = append_unbroken (text "[t] ") _ (text_unbroken (text "[t] ") refl) (number_unbroken q)

none_unbroken : AllUnbroken []
none_unbroken l i = absurd (Memᴰ.not-nil i)

one_more : (l : List ℕ) (ls : List (List ℕ)) → Unbroken l → AllUnbroken ls → AllUnbroken (l ∷ ls)
one_more l ls u h m i = ⊎_elim (λ e. subst Unbroken (sym e) u) (h m) (Memᴰ.cases_cons i)

both_unbroken : (ls ms : List (List ℕ)) → AllUnbroken ls → AllUnbroken ms → AllUnbroken (ls ++ ms)
both_unbroken ls ms h k l i = ⊎_elim (h l) (k l) (Memᴰ.append_cases ls i)

edges_unbroken : (l : List ℕ) → AllUnbroken (map edge_line l)
edges_unbroken l m i = let r = map_out edge_line m l i in subst Unbroken (sym r.2) (edge_unbroken r.0)

head_unbroken : (n s : ℕ) → AllUnbroken (head_lines n s)
head_unbroken n s =
    one_more _ _ (text_unbroken (text "HOA: v1") refl)
    (one_more _ _ (append_unbroken (text "States: ") _ (text_unbroken (text "States: ") refl) (number_unbroken n))
    (one_more _ _ (append_unbroken (text "Start: ") _ (text_unbroken (text "Start: ") refl) (number_unbroken s))
    (one_more _ _ (text_unbroken (text "AP: 0") refl)
    (one_more _ _ (text_unbroken (text "acc-name: Buchi") refl)
    (one_more _ _ (text_unbroken (text "Acceptance: 1 Inf(0)") refl)
    (one_more _ _ (text_unbroken (text "--BODY--") refl) none_unbroken))))))

body_unbroken : (p : ℕ) (l : List BuchiState) → AllUnbroken (body_lines p l)
body_unbroken p [] = none_unbroken
body_unbroken p (s ∷ l) = one_more _ _ (state_unbroken p s.marked) (both_unbroken (map edge_line s.edges) _ (edges_unbroken s.edges) (body_unbroken (suc p) l))

pub lines_unbroken : (h : Buchi) → AllUnbroken (lines h)
lines_unbroken h = both_unbroken (head_lines (length h.states) h.start) _ (head_unbroken (length h.states) h.start)
    (both_unbroken (body_lines 0 h.states) _ (body_unbroken 0 h.states) (one_more end_line [] (text_unbroken end_line refl) none_unbroken))

-- the first of unbroken lines are unbroken
pub first_unbroken : (ls ms later : List (List ℕ)) → ms ≡ ls ++ later → AllUnbroken ms → AllUnbroken ls
first_unbroken ls ms later e h l i = h l (subst (λ (k : List (List ℕ)). l among k) (sym e) (Memᴰ.append_left later i))

-- ---- the cut

-- equal lines, and what follows them
pub unbroken_split : (l m r s : List ℕ) → Unbroken l → Unbroken m → line l ++ r ≡ line m ++ s → (l ≡ m) × (r ≡ s)
unbroken_split l m r s h k = line_split l m r s (λ i. h 10 i refl) (λ i. k 10 i refl)

lines_split : (l m : List ℕ) (ls ms : List (List ℕ)) (r s : List ℕ) → Unbroken l → Unbroken m → gather line (l ∷ ls) ++ r ≡ gather line (m ∷ ms) ++ s
    → (l ≡ m) × (gather line ls ++ r ≡ gather line ms ++ s)
lines_split l m ls ms r s h k e = unbroken_split l m _ _ h k (sym (append_assoc (line l) (gather line ls) r) ∙ e ∙ append_assoc (line m) (gather line ms) s)

-- the second lines go on from the first, and what is left behind these begins with what they have more
abbrev pub GoesOn : List (List ℕ) → List ℕ → List (List ℕ) → List ℕ → Type 0
GoesOn ls r ms s = (later : List (List ℕ)) × (ms ≡ ls ++ later) × (r ≡ gather line later ++ s)

goes_behind : (l m : List ℕ) (ls ms : List (List ℕ)) (r s : List ℕ) → l ≡ m → GoesOn ls r ms s → GoesOn (l ∷ ls) r (m ∷ ms) s
goes_behind l m ls ms r s e g = let p = g.1 in (g.0, cc, g.2)

-- of two ways to cut the same bytes into whole lines and a rest, one goes on from the other
pub cut_both : (ls ms : List (List ℕ)) (r s : List ℕ) → AllUnbroken ls → AllUnbroken ms → gather line ls ++ r ≡ gather line ms ++ s → GoesOn ls r ms s ⊎ GoesOn ms s ls r
cut_both [] ms r s h k e = inl (ms, refl, e)
cut_both (l ∷ ls) [] r s h k e = inr (l ∷ ls, refl, sym e)
cut_both (l ∷ ls) (m ∷ ms) r s h k e =
    let p = lines_split l m ls ms r s (h l (Memᴰ.head refl)) (k m (Memᴰ.head refl)) e in
    ⊎_elim (λ g. inl (goes_behind l m ls ms r s p.0 g)) (λ g. inr (goes_behind m l ms ls s r (sym p.0) g))
    (cut_both ls ms r s (λ x i. h x (Memᴰ.tail i)) (λ x i. k x (Memᴰ.tail i)) p.1)

-- whole lines go on from some with a rest
pub cut_once : (before : List (List ℕ)) (rest : List ℕ) (ls : List (List ℕ)) → AllUnbroken before → AllUnbroken ls → gather line ls ≡ gather line before ++ rest
    → (later : List (List ℕ)) × (ls ≡ before ++ later) × (rest ≡ gather line later)
cut_once [] rest ls h k e = (ls, refl, sym e)
cut_once (b ∷ before) rest [] h k e = absurd (omega (arith, ap length e, length-append (gather line (b ∷ before)) rest, length-append (line b) (gather line before), length-append b (10 ∷ [])))
cut_once (b ∷ before) rest (l ∷ ls) h k e =
    let p = unbroken_split l b _ _ (k l (Memᴰ.head refl)) (h b (Memᴰ.head refl)) (e ∙ append_assoc (line b) (gather line before) rest) in
    let r = cut_once before rest ls (λ x i. h x (Memᴰ.tail i)) (λ x i. k x (Memᴰ.tail i)) p.1 in
    let a = p.0 in
    let c = r.1 in
    (r.0, cc, r.2)

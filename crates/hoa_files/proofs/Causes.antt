-- Bytes have one cause at most (`cause_once`), and the file of a readable automaton has none (`file_has_no_cause`). They have cause 20 where none of the
-- lines that could come is found behind those before (`no_line_found`).
use Prim.Native.Nat.{ℕ}
use mathlib.Core.Path.{◌≡◌, refl, ap, sym, ◌∙◌, subst}
use mathlib.Core.Logic.{⊎_elim}
use mathlib.Core.List.Memᴰ
use mathlib.Core.List.{List, [], ◌∷◌, ◌++◌, append_assoc, append-nil, append_cancel_left}
use lib.ListN.{length}
use Rattle.lists.specs.Tests.{gather}
use Rattle.machine.specs.Sheet.{line}
use Rattle.hoa_files.specs.Automata.{Buchi, lines, file_text}
use Rattle.hoa_files.specs.Files.{IsFileOf, OfTheForm, WithoutCause, FileCause, other_form, number_outside}
use Rattle.hoa_files.proofs.Starting.{next_cut}
use Rattle.hoa_files.proofs.Breaks.{AllUnbroken, Unbroken, first_unbroken, lines_unbroken, GoesOn, cut_both, unbroken_split, cut_once}

-- lines without a cause are of the form
of_the_form : (ls : List (List ℕ)) → WithoutCause ls → OfTheForm ls
of_the_form ls w = (w.0, w.2)

-- and lines of the form are unbroken
form_unbroken : (ls : List (List ℕ)) → OfTheForm ls → AllUnbroken ls
form_unbroken ls f = first_unbroken ls (lines f.0) f.1.0 f.1.1 (lines_unbroken f.0)

last_unbroken : (ls : List (List ℕ)) (l : List ℕ) → OfTheForm (ls ++ (l ∷ [])) → Unbroken l
last_unbroken ls l f = form_unbroken (ls ++ (l ∷ [])) f l (Memᴰ.append_right ls (Memᴰ.head refl))

-- so are those up to any of them
up_to_next : (ls later : List (List ℕ)) (next : List ℕ) → WithoutCause (ls ++ (next ∷ later)) → WithoutCause (ls ++ (next ∷ []))
up_to_next ls later next (h, r, (more, e)) = (h, r, (later ++ more, e ∙ append_assoc ls (next ∷ later) more ∙ sym (append_assoc ls (next ∷ []) (later ++ more))))

-- lines without a cause, and what is found behind them begins with none that could go on so
record Stops (l : List ℕ) (before : List (List ℕ)) (rest : List ℕ) : Type 0 where
  is_cut : l ≡ gather line before ++ rest
  without : WithoutCause before
  no_further : (next more : List ℕ) → rest ≡ line next ++ more → ¬ WithoutCause (before ++ (next ∷ []))

no_longer : (l r s : List ℕ) (ls ms : List (List ℕ)) → Stops l ls r → Stops l ms s → GoesOn ls r ms s → ls ≡ ms
no_longer l r s ls ms a b ([], e, q) = sym (e ∙ append-nil ls)
no_longer l r s ls ms a b (next ∷ later, e, q) = absurd (a.no_further next (gather line later ++ s) (q ∙ append_assoc (line next) (gather line later) s) (up_to_next ls later next (subst WithoutCause e b.without)))

stops_once : (l r s : List ℕ) (ls ms : List (List ℕ)) → Stops l ls r → Stops l ms s → ls ≡ ms
stops_once l r s ls ms a b =
    ⊎_elim (no_longer l r s ls ms a b) (λ g. sym (no_longer l s r ms ls b a g))
    (cut_both ls ms r s (form_unbroken ls (of_the_form ls a.without)) (form_unbroken ms (of_the_form ms b.without)) (sym a.is_cut ∙ b.is_cut))

-- a cause of either number stops the lines
stops_20 : (l rest : List ℕ) (before : List (List ℕ)) → l ≡ gather line before ++ rest → WithoutCause before
    → ((next more : List ℕ) → rest ≡ line next ++ more → ¬ OfTheForm (before ++ (next ∷ []))) → Stops l before rest
stops_20 l rest before e w none = record { is_cut = e; without = w; no_further = λ next more q v. none next more q (of_the_form (before ++ (next ∷ [])) v) }

stops_21 : (l next more : List ℕ) (before : List (List ℕ)) → l ≡ gather line before ++ (line next ++ more) → WithoutCause before
    → OfTheForm (before ++ (next ∷ [])) → ¬ WithoutCause (before ++ (next ∷ [])) → Stops l before (line next ++ more)
stops_21 l next more before e w f out = record {
  is_cut = e;
  without = w;
  no_further = λ next' more' q v.
      let p = unbroken_split next next' more more' (last_unbroken before next f) (last_unbroken before next' (of_the_form (before ++ (next' ∷ [])) v)) q in
      out (subst (λ (n : List ℕ). WithoutCause (before ++ (n ∷ []))) (sym p.0) v);
}

-- behind the same lines, the one that could come next is found or not
found_or_not : (l rest next more : List ℕ) (ls ms : List (List ℕ)) → ls ≡ ms → l ≡ gather line ls ++ rest → l ≡ gather line ms ++ (line next ++ more)
    → ((next more : List ℕ) → rest ≡ line next ++ more → ¬ OfTheForm (ls ++ (next ∷ []))) → OfTheForm (ms ++ (next ∷ [])) → ⊥
found_or_not l rest next more ls ms e p q none f =
    none next more (append_cancel_left (gather line ls) rest (line next ++ more) (sym p ∙ q ∙ ap (λ (t : List (List ℕ)). gather line t ++ (line next ++ more)) (sym e)))
    (subst (λ (t : List (List ℕ)). OfTheForm (t ++ (next ∷ []))) (sym e) f)

same_place : (ls ms : List (List ℕ)) → ls ≡ ms → length (gather line ls) ≡ length (gather line ms)
same_place ls ms e = ap (λ (t : List (List ℕ)). length (gather line t)) e

pub cause_once : (l : List ℕ) (n n' place place' : ℕ) → FileCause l n place → FileCause l n' place' → (n ≡ n') × (place ≡ place')
cause_once l n n' place place' (other_form ls r e w no_file none) (other_form ms s e' w' no_file' none') =
    (refl, same_place ls ms (stops_once l r s ls ms (stops_20 l r ls e w none) (stops_20 l s ms e' w' none')))
cause_once l n n' place place' (other_form ls r e w no_file none) (number_outside ms next more e' w' f out) =
    absurd (found_or_not l r next more ls ms (stops_once l r _ ls ms (stops_20 l r ls e w none) (stops_21 l next more ms e' w' f out)) e e' none f)
cause_once l n n' place place' (number_outside ls next more e w f out) (other_form ms s e' w' no_file none) =
    absurd (found_or_not l s next more ms ls (stops_once l s _ ms ls (stops_20 l s ms e' w' none) (stops_21 l next more ls e w f out)) e' e none f)
cause_once l n n' place place' (number_outside ls next more e w f out) (number_outside ms next' more' e' w' f' out') =
    (refl, same_place ls ms (stops_once l _ _ ls ms (stops_21 l next more ls e w f out) (stops_21 l next' more' ms e' w' f' out')))

pub file_has_no_cause : (l : List ℕ) (h : Buchi) (n place : ℕ) → IsFileOf l h → ¬ FileCause l n place
unfolding file_text
file_has_no_cause l h n place i (other_form ls r e w no_file none) = no_file h i
file_has_no_cause l h n place i (number_outside ls next more e w f out) =
    let c = cut_once (ls ++ (next ∷ [])) more (lines h) (form_unbroken (ls ++ (next ∷ [])) f) (lines_unbroken h) (sym i.1 ∙ e ∙ next_cut ls next more) in
    out (h, i.0, (c.0, c.1))

-- ---- what refuses a file at a line

-- 20: the lines before are no whole file with nothing behind them, and none that could come next is found there
pub no_line_found : (l : List ℕ) (before : List (List ℕ)) (rest : List ℕ) → l ≡ gather line before ++ rest → WithoutCause before
    → ((h : Buchi) → lines h ≡ before → ¬ (rest ≡ [])) → ((next more : List ℕ) → rest ≡ line next ++ more → ¬ OfTheForm (before ++ (next ∷ [])))
    → FileCause l 20 (length (gather line before))
unfolding file_text
no_line_found l before rest e w partial none = other_form before rest e w no_file none
  where
    behind : (h : Buchi) (later : List (List ℕ)) → lines h ≡ before ++ later → ¬ (rest ≡ gather line later)
    behind h [] p q = partial h (p ∙ append-nil before) q
    behind h (next ∷ later) p q = none next (gather line later) q (h, (later, p ∙ sym (append_assoc before (next ∷ []) later)))

    no_file : (h : Buchi) → ¬ IsFileOf l h
    no_file h i = let c = cut_once before rest (lines h) (form_unbroken before (of_the_form before w)) (lines_unbroken h) (sym i.1 ∙ e) in behind h c.0 c.1 c.2

-- The head of a file, line by line: what its lines tell (`head_first`, `head_count`, `head_outside`, `head_counted`; `start_none`, `start_outside`,
-- `start_fixed`, `start_all`), and the same from what is found at its places: the count of states (`no_count`, `count_outside`,
-- `count_taken`), the start (`no_start`, `start_beyond`) and the lines behind it (`fixed_missing`, `head_taken`);
-- and how these are passed one after another (`passed_more`, `passed_up_to`).
use Prim.Native.Nat.{ℕ, ◌+◌, ◌≤◌, ◌<◌}
use mathlib.Core.Path.{◌≡◌, refl, ap, sym, ◌∙◌, subst}
use mathlib.Core.Logic.{◌⊎◌, ⊎_elim, inl, inr}
use mathlib.Core.List.{List, [], ◌∷◌, ◌++◌, append_assoc, append_cancel_left, head-eq_of_cons-eq, tail-eq_of_cons-eq}
use lib.ListN.{length, drop, length-append}
use native.Mathlib.Omega.{arith}
use Rattle.lists.specs.Tests.{gather}
use Rattle.machine.specs.Text.{text, number_text}
use Rattle.machine.specs.Sheet.{line}
use Rattle.std.specs.Prelude.{Option, Some, None, Ok, Err}
use Rattle.causes.specs.declared.Cause.TheVariants.{BadLine}
use Rattle.machine.specs.declared.Refusal.{Refusal}
use Rattle.hoa_files.specs.declared.Numbered.{Numbered}
use Rattle.hoa_files.specs.Automata.{Buchi, head_lines, lines}
use Rattle.hoa_files.specs.Files.{OfTheForm, WithoutCause, FileCause, number_outside}
use Rattle.hoa_files.specs.Reading.{◌begin_with◌, fixed_lines, PassesLine, TellsFixed, Stopped, up_to, TakesCount, TakesHead, FindsNumbered}
use Rattle.hoa_files.proofs.Starting.{behind_text, begins_more, count_more, count_all, begins_all, next_stands, next_missing}
use Rattle.hoa_files.proofs.LineTexts.{outside, up_to_ten}
use Rattle.hoa_files.proofs.Causes.{no_line_found}
use Rattle.hoa_files.proofs.Telling.{to_end, line_of_count, line_of_start, count_once, start_once}
use Rattle.hoa_files.proofs.Completing.{without_first, head_without, form_first, part_form}

-- the first line, the first two, and the first three
abbrev first_line : List (List ℕ)
first_line = text "HOA: v1" ∷ []

abbrev two_lines : ℕ → List (List ℕ)
two_lines n = text "HOA: v1" ∷ line_of_count n ∷ []

abbrev three_lines : ℕ → ℕ → List (List ℕ)
three_lines n s = text "HOA: v1" ∷ line_of_count n ∷ line_of_start s ∷ []

-- ---- the first line

pub head_first : (l : List ℕ) → ¬ (l begin_with line (text "HOA: v1")) → FileCause l 20 0
head_first l never = no_line_found l [] l refl (without_first [] (head_lines 1 0) (head_without 1 0 (omega arith) (omega arith) (omega arith))) (λ h e q. omega (arith, ap length e))
    (λ next more q f. never (more, q ∙ ap (λ (t : List ℕ). line t ++ more) (sym (head-eq_of_cons-eq f.1.1))))

-- ---- the count of states

behind_first : (l more : List ℕ) → l ≡ line (text "HOA: v1") ++ more → drop 8 l ≡ more
behind_first l more e = behind_text l (line (text "HOA: v1")) more 8 e refl

first_without : WithoutCause first_line
first_without = without_first first_line (line_of_count 1 ∷ line_of_start 0 ∷ fixed_lines) (head_without 1 0 (omega arith) (omega arith) (omega arith))

head_count : (l : List ℕ) → l begin_with line (text "HOA: v1") → ((x : ℕ) → ¬ (drop 8 l begin_with (text "States: " ++ (number_text x ++ (10 ∷ []))))) → FileCause l 20 8
head_count l b never = no_line_found l first_line b.0 b.1 first_without (λ h e q. omega (arith, ap length e))
    (λ next more q f. never (length f.0.states) (more, behind_first l b.0 b.1 ∙ q ∙ ap (λ (t : List ℕ). line t ++ more) (sym (head-eq_of_cons-eq (tail-eq_of_cons-eq f.1.1)))))

-- the lines tell how many states there are
counted : (h : Buchi) (n : ℕ) (later : List (List ℕ)) → lines h ≡ two_lines n ++ later → length h.states ≡ n
counted h n later e = count_once (length h.states) n (head-eq_of_cons-eq (tail-eq_of_cons-eq e))

head_outside : (l : List ℕ) → l begin_with line (text "HOA: v1") → (x : ℕ) → drop 8 l begin_with (text "States: " ++ (number_text x ++ (10 ∷ []))) → (x ≡ 0) ⊎ (6 < x) → FileCause l 21 8
head_outside l b x c out = number_outside first_line (line_of_count x) c.0 (b.1 ∙ ap (λ (t : List ℕ). line (text "HOA: v1") ++ t) (sym (behind_first l b.0 b.1) ∙ c.1)) first_without
    (form_first (two_lines x) (line_of_start 0 ∷ fixed_lines) (part_form x 0 [] (omega arith)))
    (λ w. let e = counted w.0 x w.2.0 w.2.1 in ⊎_elim (λ z. omega (arith, w.1.some_states)) (λ z. omega (arith, w.1.at_most_six)) out)

head_counted : (l : List ℕ) → l begin_with line (text "HOA: v1") → (x : ℕ) → drop 8 l begin_with (text "States: " ++ (number_text x ++ (10 ∷ []))) → 1 ≤ x → x ≤ 6
    → TakesCount l x (8 + length (text "States: " ++ (number_text x ++ (10 ∷ []))))
head_counted l b x c h k = record {
  some_states = h;
  at_most_six = k;
  stands = (c.0, begins_more l first_line (line_of_count x) b.0 c.0 b.1 (sym (behind_first l b.0 b.1) ∙ c.1));
  length_is = sym (count_more first_line (line_of_count x));
}

-- ---- the start

module _ {l : List ℕ} {n at : ℕ} (c : TakesCount l n at) where
  count_rest : drop at l ≡ c.stands.0
  count_rest = behind_text l (gather line (two_lines n)) c.stands.0 at c.stands.1 c.length_is

  two_without : WithoutCause (two_lines n)
  two_without = without_first (two_lines n) (line_of_start 0 ∷ fixed_lines) (head_without n 0 c.some_states c.at_most_six c.some_states)

  start_none : ((x : ℕ) → ¬ (drop at l begin_with (text "Start: " ++ (number_text x ++ (10 ∷ []))))) → FileCause l 20 at
  start_none never = subst (FileCause l 20) (sym c.length_is) (no_line_found l (two_lines n) c.stands.0 c.stands.1 two_without (λ h e q. omega (arith, ap length e))
      (λ next more q f. never f.0.start (more, count_rest ∙ q ∙ ap (λ (t : List ℕ). line t ++ more) (sym (head-eq_of_cons-eq (tail-eq_of_cons-eq (tail-eq_of_cons-eq f.1.1)))))))

  module _ (x : ℕ) (b : drop at l begin_with (text "Start: " ++ (number_text x ++ (10 ∷ [])))) where
    line_stands : c.stands.0 ≡ line (line_of_start x) ++ b.0
    line_stands = sym count_rest ∙ b.1

    start_outside : n ≤ x → FileCause l 21 at
    start_outside h = subst (FileCause l 21) (sym c.length_is)
        (number_outside (two_lines n) (line_of_start x) b.0 (c.stands.1 ∙ ap (λ (t : List ℕ). gather line (two_lines n) ++ t) line_stands) two_without
        (form_first (three_lines n x) fixed_lines (part_form n x [] (omega arith)))
        (λ w. let e = counted w.0 n (line_of_start x ∷ w.2.0) w.2.1 in let s = start_once w.0.start x (head-eq_of_cons-eq (tail-eq_of_cons-eq (tail-eq_of_cons-eq w.2.1))) in
        omega (arith, w.1.start_inside)))

    -- behind the line of the start
    abbrev next : ℕ
    next = at + length (text "Start: " ++ (number_text x ++ (10 ∷ [])))

    three_stand : l ≡ gather line (three_lines n x) ++ b.0
    three_stand = begins_more l (two_lines n) (line_of_start x) c.stands.0 b.0 c.stands.1 line_stands

    next_is : next ≡ length (gather line (three_lines n x))
    next_is = omega (arith, c.length_is, count_more (two_lines n) (line_of_start x))

    start_rest : drop next l ≡ b.0
    start_rest = behind_text l (gather line (three_lines n x)) b.0 next three_stand next_is

    -- ---- the lines that are the same in every file

    fixed_stops : x < n → (before later : List (List ℕ)) (t : List ℕ) → fixed_lines ≡ before ++ (t ∷ later) → b.0 begin_with gather line before
        → ¬ (b.0 begin_with gather line (before ++ (t ∷ []))) → FileCause l 20 (next + length (gather line before))
    fixed_stops h before later t e (r, i) never =
        subst (FileCause l 20) (sym (omega (arith, next_is, count_all (three_lines n x) before)))
        (no_line_found l (three_lines n x ++ before) r (begins_all l (three_lines n x) before b.0 r three_stand i)
        (without_first (three_lines n x ++ before) (t ∷ later) (subst (λ (f : List (List ℕ)). WithoutCause (three_lines n x ++ f)) e (head_without n x c.some_states c.at_most_six h)))
        (λ g p q. omega (arith, ap length p, ap length e, length-append before (t ∷ later)))
        none)
      where
        none : (u more : List ℕ) → r ≡ line u ++ more → ¬ OfTheForm ((three_lines n x ++ before) ++ (u ∷ []))
        none u more q (g, (rest, p)) =
            let T : List (List ℕ) = to_end 0 g.states in
            let same : t ∷ (later ++ T) ≡ u ∷ rest = append_cancel_left before _ _ (sym (append_assoc before (t ∷ later) T) ∙ ap (λ (f : List (List ℕ)). f ++ T) (sym e)
            ∙ tail-eq_of_cons-eq (tail-eq_of_cons-eq (tail-eq_of_cons-eq p)) ∙ append_assoc before (u ∷ []) rest) in
            never (more, begins_more b.0 before t r more i (q ∙ ap (λ (v : List ℕ). line v ++ more) (sym (head-eq_of_cons-eq same))))

    -- a line of them does not stand
    start_fixed : x < n → (r : ℕ) → Stopped (drop next l) r → FileCause l 20 (next + r)
    start_fixed h r (up_to before later t e s never) = fixed_stops h before later t e (s.0, sym start_rest ∙ s.1) (λ v. never (v.0, start_rest ∙ v.1))

    -- they all stand
    start_all : x < n → drop next l begin_with gather line fixed_lines → TakesHead l n x (next + 52)
    start_all h s = record {
      some_states = c.some_states;
      at_most_six = c.at_most_six;
      start_inside = h;
      stands = (s.0, begins_all l (three_lines n x) fixed_lines b.0 s.0 three_stand (sym start_rest ∙ s.1));
      length_is = omega (arith, next_is, count_all (three_lines n x) fixed_lines);
    }

-- ---- the four lines, one after another

-- the first of them stand from a place on, up to another
abbrev pub Passed : List ℕ → ℕ → List (List ℕ) → ℕ → Type 0
Passed l at before next = (drop at l begin_with gather line before) × (next ≡ at + length (gather line before))

pub passed_none : (l : List ℕ) (at : ℕ) → Passed l at [] at
passed_none l at = ((drop at l, refl), omega arith)

module _ (l : List ℕ) (at : ℕ) (before : List (List ℕ)) (t : List ℕ) {next : ℕ} (p : Passed l at before next) where
  pub passed_more : (n : ℕ) → PassesLine l next (line t) (Ok n) → Passed l at (before ++ (t ∷ [])) n
  passed_more n q = (
    next_stands l at before t p.0 (subst (λ (k : ℕ). drop k l begin_with line t) p.1 q.0),
    omega (arith, p.1, q.1, count_more before t),
  )

  pub passed_up_to : (later : List (List ℕ)) (r : Refusal) → fixed_lines ≡ before ++ (t ∷ later) → PassesLine l next (line t) (Err r) → TellsFixed l at (Err r)
  passed_up_to later r e q = (
    length (gather line before),
    up_to before later t e p.0 (next_missing l at before t (subst (λ (k : ℕ). ¬ (drop k l begin_with line t)) p.1 q.1)),
    q.0 ∙ ap (λ (k : ℕ). record { cause = BadLine; place = k }) p.1,
  )

-- ---- what is found at a place lies within the file

-- ---- the count of states, from what is found

module _ {l : List ℕ} (b : l begin_with line (text "HOA: v1")) {r : Option Numbered} (f : FindsNumbered (text "States: ") (10 ∷ []) (drop 8 l) r) where
  pub no_count : r ≡ None → FileCause l 20 8
  no_count z = head_count l b (λ x p. let e = f.every x p in absurd (cc (e.1, z)))

  module _ (m : Numbered) (is : r ≡ Some m) where
    pub count_outside : (m.number ≡ 0) ⊎ (6 < m.number) → FileCause l 21 8
    count_outside o = let p = f.found m is in
        head_outside l b p.0 p.1.stands (⊎_elim
        (λ z. inl (omega (arith, up_to_ten p.0 m.number p.1.number_is (omega arith))))
        (λ k. inr (omega (arith, outside p.0 m.number 7 p.1.number_is (omega arith) (omega arith)))) o)

-- ---- the start and the lines behind it, from what is found

module _ {l : List ℕ} {n at : ℕ} (c : TakesCount l n at) {r : Option Numbered} (f : FindsNumbered (text "Start: ") (10 ∷ []) (drop at l) r) where
  pub no_start : r ≡ None → FileCause l 20 at
  no_start z = start_none c (λ x p. let e = f.every x p in absurd (cc (e.1, z)))

  module _ (m : Numbered) (is : r ≡ Some m) where
    pub start_beyond : n ≤ m.number → FileCause l 21 at
    start_beyond k = let p = f.found m is in
        start_outside c p.0 p.1.stands (outside p.0 m.number n p.1.number_is k (omega (arith, c.at_most_six)))

    module _ (k : m.number < n) where
      start_told : (f.found m is).0 ≡ m.number
      start_told = let p = f.found m is in up_to_ten p.0 m.number p.1.number_is (omega (arith, c.at_most_six))

      pub fixed_missing : (stop : ℕ) → Stopped (drop (at + m.length) l) stop → FileCause l 20 (at + m.length + stop)
      fixed_missing stop s = let p = f.found m is in
          subst (λ (k : ℕ). Stopped (drop (at + k) l) stop → FileCause l 20 (at + k + stop)) (sym p.1.length_is)
          (λ t. start_fixed c p.0 p.1.stands (omega (arith, start_told)) stop t) s

      pub head_taken : drop (at + m.length) l begin_with gather line fixed_lines → TakesHead l n m.number (at + m.length + 52)
      head_taken s = let p = f.found m is in
          subst (λ (x : ℕ). TakesHead l n x (at + m.length + 52)) start_told
          (subst (λ (k : ℕ). drop (at + k) l begin_with gather line fixed_lines → TakesHead l n p.0 (at + k + 52)) (sym p.1.length_is)
          (start_all c p.0 p.1.stands (omega (arith, start_told))) s)

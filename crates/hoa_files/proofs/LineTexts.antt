-- Lines of the body as bytes: a state's is missing (`state_missing`), or stands with another number (`other_found`, `plain_other`; `neither_found`), and so is an
-- edge's (`no_edge`, `beyond_edge`); a line that may come next is one of these or the end (`state_comes`, `end_missing`, `line_of`).
use Prim.Native.Nat.{ℕ, ◌≤◌, ◌<◌}
use mathlib.Core.Path.{◌≡◌, refl, ap, sym, ◌∙◌, subst}
use mathlib.Core.Bool.{Bool, true, false}
use mathlib.Core.Logic.{◌≢◌}
use mathlib.Core.List.{List, [], ◌∷◌, ◌++◌, append_assoc, append_cancel_left}
use native.Mathlib.Decide.{dec_lt}
use native.Mathlib.Omega.{arith}
use Rattle.machine.specs.Text.{text, number_text}
use Rattle.machine.specs.Sheet.{line}
use Rattle.hoa_files.specs.declared.Numbered.{Numbered}
use Rattle.hoa_files.specs.declared.BodyLine.{BodyLine}
use Rattle.hoa_files.specs.declared.BodyLine.TheVariants.{State, Edge, End}
use Rattle.std.specs.Prelude.{Option, Some, None, Result, Ok, Err}
use Rattle.causes.specs.declared.Cause.{Cause}
use Rattle.hoa_files.specs.Automata.{state_line, edge_line, end_line}
use Rattle.hoa_files.specs.Reading.{◌begin_with◌, UpToTen, FindsNumbered, FindsState, FindsEdge, NextLine, a_state, an_edge, the_end, RefusesLine, none_comes, beyond, TellsState, TellsStateOrEnd, TellsLine}
use Rattle.hoa_files.proofs.Numerals.{numbers_end}
use Rattle.hoa_files.proofs.Telling.{state_no_edge, edge_no_end}

-- a number below ten is told
pub up_to_ten : (x n : ℕ) → UpToTen x n → n < 10 → x ≡ n
up_to_ten x n u h = go (dec_lt x 10)
  where
    go : Dec (x < 10) → x ≡ n
    go (yes s) = sym (u.0 s)
    go (no s) = omega (arith, u.1 (omega arith))

-- one that is at least as many as the states is outside of them
pub outside : (x n states : ℕ) → UpToTen x n → states ≤ n → states ≤ 10 → states ≤ x
outside x n states u h k = go (dec_lt x 10)
  where
    go : Dec (x < 10) → states ≤ x
    go (yes s) = omega (arith, u.0 s)
    go (no s) = omega arith

-- what stands behind the number of a state
abbrev state_tail : Bool → List ℕ
state_tail false = 10 ∷ []
state_tail true = 32 ∷ 123 ∷ 48 ∷ 125 ∷ 10 ∷ []

state_text : (k : ℕ) (m : Bool) → line (state_line k m) ≡ text "State: " ++ (number_text k ++ state_tail m)
state_text k false = refl
state_text k true = ap (λ (t : List ℕ). text "State: " ++ t) (append_assoc (number_text k) (text " {0}") (10 ∷ []))

-- a number below ten is found behind the word of a state, or not
module _ (l tail : List ℕ) (k : ℕ) (small : k < 10) {r : Option Numbered} (f : FindsNumbered (text "State: ") tail l r) where
  pub state_missing : r ≡ None → FindsState tail l k None
  state_missing z p = let q = f.every k p in absurd (cc (q.1, z))

  pub other_found : (n : Numbered) → r ≡ Some n → n.number ≢ k → FindsState tail l k None
  other_found n e i p = let q = f.every k p in let same : q.0 ≡ n = cc in i (ap (λ (n : Numbered). n.number) (sym same) ∙ q.2.number_is.0 small)

-- a plain line is no marked one
plain_marked : (l : List ℕ) (x k : ℕ) → l begin_with (text "State: " ++ (number_text x ++ state_tail false)) → ¬ (l begin_with (text "State: " ++ (number_text k ++ state_tail true)))
plain_marked l x k p q =
    let s : number_text x ++ (10 ∷ p.0) ≡ number_text k ++ (state_tail true ++ q.0) =
    sym (append_assoc (number_text x) (10 ∷ []) p.0)
    ∙ append_cancel_left (text "State: ") ((number_text x ++ (10 ∷ [])) ++ p.0) ((number_text k ++ state_tail true) ++ q.0) (sym p.1 ∙ q.1)
    ∙ append_assoc (number_text k) (state_tail true) q.0 in
    let e = (numbers_end x k (10 ∷ p.0) (state_tail true ++ q.0) (λ d. omega arith) (λ d. omega arith) s).1 in
    let z : ◌≡◌ {A = ℕ} 10 32 = cc in
    omega arith

pub neither_state : (l : List ℕ) (k : ℕ) → ¬ (l begin_with line (state_line k false)) → ¬ (l begin_with line (state_line k true)) → (m : Bool) → ¬ (l begin_with line (state_line k m))
neither_state l k p q false = p
neither_state l k p q true = q

-- where a plain line stands, no marked one does
pub plain_only : (l : List ℕ) (k : ℕ) {r : Option Numbered} → FindsNumbered (text "State: ") (state_tail false) l r → (n : Numbered) → r ≡ Some n
    → ¬ (l begin_with line (state_line k true))
plain_only l k f n e q = let p = f.found n e in plain_marked l p.0 k p.1.stands (subst (λ (s : List ℕ). l begin_with s) (state_text k true) q)

-- where a plain line has another number, no line of the state stands
pub plain_other : (l : List ℕ) (k : ℕ) → k < 10 → {r : Option Numbered} → FindsNumbered (text "State: ") (state_tail false) l r → (n : Numbered) → r ≡ Some n → n.number ≢ k
    → (m : Bool) → ¬ (l begin_with line (state_line k m))
plain_other l k small f n e i = neither_state l k (other_found l (state_tail false) k small f n e i) (plain_only l k f n e)

-- and none where neither a plain line with a number stands nor the marked one
pub neither_found : (l : List ℕ) (k : ℕ) → k < 10 → {r : Option Numbered} → FindsNumbered (text "State: ") (state_tail false) l r → r ≡ None → FindsState (state_tail true) l k None
    → (m : Bool) → ¬ (l begin_with line (state_line k m))
neither_found l k small f z none =
    neither_state l k (state_missing l (state_tail false) k small f z) (λ q. none (subst (λ (s : List ℕ). l begin_with s) (state_text k true) q))

module _ (l : List ℕ) {r : Option Numbered} (finds : FindsEdge l r) where
  pub no_edge : r ≡ None → (q : ℕ) → ¬ (l begin_with line (edge_line q))
  no_edge z q p = let e = finds.every q p in absurd (cc (e.1, z))

  module _ (n : Numbered) (is : r ≡ Some n) where
    pub beyond_edge : (states k : ℕ) → 0 < k → states ≤ 6 → states ≤ n.number → RefusesLine l states k 21
    beyond_edge states k g s o = let p = finds.found n is in beyond p.0 g (outside p.0 n.number states p.1.number_is o (omega arith)) p.1.stands

module _ (l : List ℕ) (n k : ℕ) where
  -- where states are to come there is no end
  pub state_comes : k < n → (r : Result BodyLine Cause) → TellsState l k r → TellsStateOrEnd l n k r
  state_comes h (Ok (State m count)) t = (h, t)
  state_comes h (Ok (Edge q count)) t = absurd t
  state_comes h (Ok End) t = absurd t
  state_comes h (Err cause) t = (t.0, λ next p i. edges i p)
    where
      edges : {next : List ℕ} → NextLine n k next → l begin_with line next → (q : ℕ) × (next ≡ edge_line q)
      edges (a_state m g) p = absurd (t.1 m p)
      edges (an_edge q g) p = (q, refl)
      edges (the_end e) p = absurd (omega arith)

  -- where none is to come the end is missing
  pub end_missing : n ≤ k → ¬ (l begin_with line end_line) → (next : List ℕ) → l begin_with line next → NextLine n k next → (q : ℕ) × (next ≡ edge_line q)
  end_missing h f next p i = edges i p
    where
      edges : {next : List ℕ} → NextLine n k next → l begin_with line next → (q : ℕ) × (next ≡ edge_line q)
      edges (a_state m g) p = absurd (omega arith)
      edges (an_edge q g) p = (q, refl)
      edges (the_end e) p = absurd (f p)

  -- an edge comes behind a state
  edge_after : (q : ℕ) {next : List ℕ} → NextLine n k next → next ≡ edge_line q → 0 < k
  edge_after q (a_state m g) e = absurd (state_no_edge k q m e)
  edge_after q (an_edge o g) e = g
  edge_after q (the_end f) e = absurd (edge_no_end q (sym e))

  -- the line, where no edge stands that may
  pub line_of : (0 < k → (q : ℕ) → ¬ (l begin_with line (edge_line q))) → (r : Result BodyLine Cause) → TellsStateOrEnd l n k r → TellsLine l n k r
  line_of f (Ok (State m count)) t = t
  line_of f (Ok (Edge q count)) t = absurd t
  line_of f (Ok End) t = t
  line_of f (Err cause) t = rw t.0 (none_comes none)
    where
      none : (next : List ℕ) → l begin_with line next → ¬ NextLine n k next
      none next p i = let e = t.1 next p i in f (edge_after e.0 i e.1) e.0 (subst (λ (s : List ℕ). l begin_with line s) e.1 p)

-- Bytes that begin with a text: place by place (`begin_more`, `begin_all`, `begin_place`), in parts (`begin_both`, `begin_first`, `begin_behind`),
-- and with lines: one more, and what is left behind it (`begins_more`, `count_more`, `next_cut`; `next_stands`, `next_missing`).
use Prim.Native.Nat.{ℕ, ◌+◌, ◌-◌, ◌≤◌}
use mathlib.Core.Path.{◌≡◌, ap, sym, ◌∙◌, subst}
use mathlib.Core.List.{List, [], ◌∷◌, ◌++◌, append_assoc}
use lib.ListN.{length, take, drop, length-append, length-drop}
use lib.Seq.{take_all, drop_at, drop-drop, drop-append_seam}
use denote.Ref.{Bor}
use lib.Dec.{eqb}
use Rattle.std.specs.Prelude.{Option, Some, None, MatchOption, ◌≢◌, true, false}
use Rattle.std.specs.Cmp.Lexicographic.{pointwise}
use Rattle.std.proofs.lemmas.Slice.Eq.{strip_prefix_is}
use Rattle.std.proofs.lemmas.Bool.Decides.{Decides-eqb}
use native.Mathlib.Omega.{arith}
use Rattle.lists.specs.Tests.{gather}
use Rattle.lists.proofs.Places.{gather_append, gather_last}
use Rattle.machine.specs.Sheet.{line}
use Rattle.hoa_files.specs.Reading.{◌begin_with◌}

-- with a text and another behind it
pub begin_both : (l s t : List ℕ) → l begin_with s → drop (length s) l begin_with t → l begin_with (s ++ t)
begin_both l s t p q =
    let e : p.0 ≡ t ++ q.0 = sym (ap (drop (length s)) p.1 ∙ drop-append_seam s p.0) ∙ q.1 in
    (q.0, p.1 ∙ ap (λ (m : List ℕ). s ++ m) e ∙ sym (append_assoc s t q.0))

pub begin_behind : (l s t : List ℕ) → l begin_with (s ++ t) → drop (length s) l begin_with t
begin_behind l s t p = (p.0, ap (drop (length s)) (p.1 ∙ append_assoc s t p.0) ∙ drop-append_seam s (t ++ p.0))

pub begin_room : (l t : List ℕ) (at : ℕ) → at ≤ length l → drop at l begin_with t → at + length t ≤ length l
begin_room l t at h p = omega (arith, length-drop at l, length-append t p.0, ap length p.1)

-- what `strip_prefix` tells
abbrev pub Strips : List ℕ → List ℕ → Option (Bor (List ℕ)) → Type 0
Strips l t r = MatchOption r (pointwise eqb (take (length t) l) t ≡ false) (λ x. (pointwise eqb (take (length t) l) t ≡ true) × (x.now ≡ drop (length t) l) × (length x.now + length t ≡ length l))

pub stripped : (l t : List ℕ) (r : Option (Bor (List ℕ))) (x : Bor (List ℕ)) → Strips l t r → r ≡ Some x → l ≡ t ++ x.now
stripped l t r x s e = subst (λ (r : Option (Bor (List ℕ))). MatchOption r ((more : List ℕ) → l ≢ t ++ more) (λ x. l ≡ t ++ x.now)) e (strip_prefix_is Decides-eqb l t r s)

pub not_stripped : (l t : List ℕ) (r : Option (Bor (List ℕ))) → Strips l t r → r ≡ None → (more : List ℕ) → l ≢ t ++ more
not_stripped l t r s e = subst (λ (r : Option (Bor (List ℕ))). MatchOption r ((more : List ℕ) → l ≢ t ++ more) (λ x. l ≡ t ++ x.now)) e (strip_prefix_is Decides-eqb l t r s)

-- of the bytes from a place on
pub from_place : (l : List ℕ) (k : ℕ) → take (length l - k) (drop k l) ≡ drop k l
from_place l k = take_all (length l - k) (drop k l) (simp length-drop (omega arith))

pub stripped_from : (l : List ℕ) (k : ℕ) (t : List ℕ) (r : Option (Bor (List ℕ))) (x : Bor (List ℕ)) → Strips (take (length l - k) (drop k l)) t r → r ≡ Some x → drop k l ≡ t ++ x.now
stripped_from l k t r x s e = sym (from_place l k) ∙ stripped _ t r x s e

pub not_stripped_from : (l : List ℕ) (k : ℕ) (t : List ℕ) (r : Option (Bor (List ℕ))) → Strips (take (length l - k) (drop k l)) t r → r ≡ None → (more : List ℕ) → drop k l ≢ t ++ more
not_stripped_from l k t r s e more i = not_stripped _ t r s e more (from_place l k ∙ i)

-- from a place behind a place
pub begin_further : (l t : List ℕ) (at n : ℕ) → drop (at + n) l begin_with t → drop n (drop at l) begin_with t
begin_further l t at n p = subst (λ (m : List ℕ). m begin_with t) (sym (drop-drop n at l)) p

pub begin_nearer : (l t : List ℕ) (at n : ℕ) → drop n (drop at l) begin_with t → drop (at + n) l begin_with t
begin_nearer l t at n p = subst (λ (m : List ℕ). m begin_with t) (drop-drop n at l) p

-- what stands behind a text
pub behind_text : (l t more : List ℕ) (at : ℕ) → l ≡ t ++ more → at ≡ length t → drop at l ≡ more
behind_text l t more at e a = ap (drop at) e ∙ drop_at t more at (sym a)

-- ---- lines

-- the bytes of some lines and more, of which there is one
pub count_all : (a b : List (List ℕ)) → length (gather line (a ++ b)) ≡ length (gather line a) + length (gather line b)
count_all a b = ap length (gather_append line a b) ∙ length-append (gather line a) (gather line b)

pub count_more : (before : List (List ℕ)) (t : List ℕ) → length (gather line (before ++ (t ∷ []))) ≡ length (gather line before) + length (line t)
count_more before t = ap length (gather_last line before t) ∙ length-append (gather line before) (line t)

-- one line more is cut off
pub next_cut : (before : List (List ℕ)) (next more : List ℕ) → gather line before ++ (line next ++ more) ≡ gather line (before ++ (next ∷ [])) ++ more
next_cut before next more = sym (append_assoc (gather line before) (line next) more) ∙ ap (λ (t : List ℕ). t ++ more) (sym (gather_last line before next))

-- some lines and more stand, or one more
pub begins_all : (l : List ℕ) (a b : List (List ℕ)) (rest more : List ℕ) → l ≡ gather line a ++ rest → rest ≡ gather line b ++ more → l ≡ gather line (a ++ b) ++ more
begins_all l a b rest more e i =
    e ∙ ap (λ (x : List ℕ). gather line a ++ x) i ∙ sym (append_assoc (gather line a) (gather line b) more) ∙ ap (λ (x : List ℕ). x ++ more) (sym (gather_append line a b))

pub begins_more : (l : List ℕ) (before : List (List ℕ)) (t rest more : List ℕ) → l ≡ gather line before ++ rest → rest ≡ line t ++ more → l ≡ gather line (before ++ (t ∷ [])) ++ more
begins_more l before t rest more e i = e ∙ ap (λ (x : List ℕ). gather line before ++ x) i ∙ next_cut before t more

-- one line more stands from a place on, or does not
module _ (l : List ℕ) (at : ℕ) (before : List (List ℕ)) (next : List ℕ) where
  pub next_stands : drop at l begin_with gather line before → drop (at + length (gather line before)) l begin_with line next → drop at l begin_with gather line (before ++ (next ∷ []))
  next_stands p q =
      subst (λ (t : List ℕ). drop at l begin_with t) (sym (gather_last line before next))
      (begin_both (drop at l) (gather line before) (line next) p (begin_further l (line next) at (length (gather line before)) q))

  pub next_missing : ¬ (drop (at + length (gather line before)) l begin_with line next) → ¬ (drop at l begin_with gather line (before ++ (next ∷ [])))
  next_missing n p =
      n (begin_nearer l (line next) at (length (gather line before))
      (begin_behind (drop at l) (gather line before) (line next) (subst (λ (t : List ℕ). drop at l begin_with t) (gather_last line before next) p)))

-- The place of a name: that of its number (`place_in`), where one is found or at the end (`first_or_end`); what is marked there (`put_count`,
-- `put_marks`) and brought back from there (`kept_back`).
use Prim.Native.Nat.{ℕ, suc, zero, ◌+◌, ◌≤◌, ◌<◌}
use mathlib.Core.Path.{◌≡◌, refl, ap}
use mathlib.Core.Bool.{Bool, true, false, cond, not}
use mathlib.Core.Logic.{◌⊎◌, inl, inr, ⊎_elim}
use mathlib.Core.Option.{none, some}
use mathlib.Core.List.Memᴰ
use mathlib.Core.List.{List, [], ◌∷◌, ◌++◌, map}
use native.Mathlib.Omega.{arith}
use native.Mathlib.Numerals.{unary_clauses}
use lib.ListN.{length, get_or, take, set, length-map}
use lib.Seq.{take_at}
use Rattle.lists.specs.Tests.{◌among◌}
use Rattle.std.specs.Prelude.{◌==◌, Some, None, position, nat_lt}
use Rattle.std.specs.List.{position_or_len}
use Rattle.std.specs.Option.{unwrap_or}
use Rattle.std.proofs.lemmas.List.Sums.{prefix_len-le-length}
use Rattle.lists.specs.Tests.{Decides}
use Rattle.lists.proofs.Deciding.{no_decides, ltb_decides}
use Rattle.rows.specs.Rows.{same_numbers}
use Rattle.machine.specs.Machine.{Machine, fresh}
use Rattle.machine.specs.Marks.{Name, Mark, kept_under, mark_under}
use Rattle.row_table.specs.Arrays.{padded}
use Rattle.marks.specs.declared.Kept.{Kept}
use Rattle.marks.specs.declared.Mark.{Mark as Entry}
use Rattle.marks.specs.declared.Marks.{Marks}
use Rattle.marks.specs.Record.{name_number, kept_of, mark_of, marks_of}
use Rattle.marks.specs.Promise.{place_under, StandsFor}
use Rattle.marks.proofs.Naming.{one_name}

-- names are found where their numbers are
place_found : (name : List ℕ) (l : List Mark) → Name name → ((k : Mark) → k among l → Name k.name)
    → position_or_len (λ k. k.name == name_number name) (map mark_of l) ≡ place_under name l
place_found name [] n h = refl
place_found name (k ∷ l) n h = rw (one_name name k.name n (h k (Memᴰ.head refl)), place_found name l n (λ x i. h x (Memᴰ.tail i))) (go (same_numbers name k.name))
  where
    go : (b : Bool) → cond (not b) (1 + place_under name l) 0 ≡ cond b 0 (suc (place_under name l))
    go true = refl
    go false = omega arith

pub place_in : (s : Marks) (name : List ℕ) (l : List Mark) → StandsFor s l → Name name
    → position_or_len (λ k. k.name == name_number name) (take s.count s.marks) ≡ place_under name l
unfolding marks_of
place_in s name l st n = rw (st.whole, take_at (map mark_of l) _ (length l) (length-map l mark_of)) (place_found name l n st.named)

-- the place of the first that passes, or the length
pub first_or_end : {A : Type 0} (p : A → Bool) (l : List A) (n : ℕ) → length l ≡ n → unwrap_or (position p l) n ≡ position_or_len p l
first_or_end p l n e = go (nat_lt i (length l)) (ltb_decides i (length l))
  where
    i : ℕ
    i = position_or_len p l

    go : (b : Bool) → Decides b (i < length l) → unwrap_or (cond b (Some i) None) n ≡ i
    go true d = refl
    go false d = let most : i ≤ length l = prefix_len-le-length (λ x. not (p x)) l in let none = no_decides d in omega arith

-- of so many marks at first and then: one more where the place is behind them
abbrev pub Counted : ℕ → ℕ → ℕ → Type 0
Counted at old new = ((at ≡ old) × (new ≡ suc old)) ⊎ ((at < old) × (new ≡ old))

module _ (name : List ℕ) (m : Machine) where
  -- the mark that is made
  abbrev made : Mark
  made = record { name = name; kept = m }

  -- marking stores at the place
  put_at : {A : Type 0} (g : Mark → A) (n : ℕ) (d : A) (l : List Mark) → place_under name l < n
      → padded n d (map g (mark_under name m l)) ≡ set (padded n d (map g l)) (place_under name l) (g made)
  put_at g zero d l h = absurd (omega arith)
  put_at g (suc n) d [] h = simp unary_clauses
  put_at {A} g (suc n) d (k ∷ l) h = go (same_numbers name k.name) h (put_at g n d l)
    where
      go : (b : Bool) → cond b 0 (suc (place_under name l)) < suc n
          → (place_under name l < n → padded n d (map g (mark_under name m l)) ≡ set (padded n d (map g l)) (place_under name l) (g made))
          → padded (suc n) d (map g (cond b (made ∷ l) (k ∷ mark_under name m l))) ≡ set (padded (suc n) d (map g (k ∷ l))) (cond b 0 (suc (place_under name l))) (g made)
      go true h i = refl
      go false h i = simp unary_clauses (ap (λ (x : List A). g k ∷ x) (i (omega arith)))

  -- and adds a mark where the place is that of a new one
  pub put_count : (l : List Mark) → Counted (place_under name l) (length l) (length (mark_under name m l))
  put_count [] = inl (refl, refl)
  put_count (k ∷ l) = go (same_numbers name k.name) (put_count l)
    where
      go : (b : Bool) → Counted (place_under name l) (length l) (length (mark_under name m l))
          → Counted (cond b 0 (suc (place_under name l))) (suc (length l)) (length (cond b (made ∷ l) (k ∷ mark_under name m l)))
      go true h = inr (omega arith, refl)
      go false h = ⊎_elim (λ p. inl (ap suc p.0, ap suc p.1)) (λ p. inr (omega arith, ap suc p.1)) h

  -- so the record with a mark stored there, and one counted more at a new place, is that of the marks then
  pub put_marks : (s : Marks) (l : List Mark) (at x n : ℕ) (k : Kept) → StandsFor s l → at < 4 → at ≡ place_under name l → x ≡ name_number name → k ≡ kept_of m
      → (at ≡ s.count → n ≡ at + 1) → (¬ (at ≡ s.count) → n ≡ s.count)
      → record { marks = set s.marks at (record { name = x; kept = k }); count = n } ≡ marks_of (mark_under name m l)
  unfolding marks_of
  put_marks s l at x n k st h p q r new old =
      let g : place_under name l < 4 = omega arith in
      let c : s.count ≡ length l = ap (λ (s : Marks). s.count) st.whole in
      let e : n ≡ length (mark_under name m l) = ⊎_elim (λ t. omega (arith, new (omega arith))) (λ t. omega (arith, old (λ u. omega arith))) (put_count l) in
      rw (st.whole, p, q, r, e, put_at mark_of 4 (record { name = 0; kept = kept_of fresh }) l g)

-- what is kept under a name lies at its place
pub kept_back : (t : List Entry) (d : Entry) (name : List ℕ) (m : Machine) (l : List Mark) → kept_under name l ≡ some m
    → (get_or (map mark_of l ++ t) (place_under name l) d).kept ≡ kept_of m
kept_back t d name m [] e = let z : ◌≡◌ {A = ℕ} 0 1 = cc in absurd (omega arith)
kept_back t d name m (k ∷ l) e = go (same_numbers name k.name) e (kept_back t d name m l)
  where
    go : (b : Bool) → cond b (some k.kept) (kept_under name l) ≡ some m
        → (kept_under name l ≡ some m → (get_or (map mark_of l ++ t) (place_under name l) d).kept ≡ kept_of m)
        → (get_or (map mark_of (k ∷ l) ++ t) (cond b 0 (suc (place_under name l))) d).kept ≡ kept_of m
    go true e i = cc
    go false e i = i e

-- there is a mark at the place, or the place is a new one's
pub data Place (name : List ℕ) (l : List Mark) : Type 0 where
  new_place : place_under name l ≡ length l → kept_under name l ≡ none → Place name l
  mark_place : (m : Machine) → place_under name l < length l → kept_under name l ≡ some m → Place name l

pub place_kept : (name : List ℕ) (l : List Mark) → Place name l
place_kept name [] = new_place refl refl
place_kept name (k ∷ l) = go (same_numbers name k.name) refl (place_kept name l)
  where
    go : (b : Bool) → same_numbers name k.name ≡ b → Place name l → Place name (k ∷ l)
    go true e h = mark_place k.kept (rw e (omega arith)) (rw e refl)
    go false e (new_place i j) = new_place (rw e (ap suc i)) (rw e j)
    go false e (mark_place m i j) = mark_place m (rw e (omega arith)) (rw e j)

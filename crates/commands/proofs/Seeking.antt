-- The words as a table of lines, read byte by byte: it finds the first word that the line starts with (`tells`). Numbers that are past all places of a
-- table, and a word that takes no text.
use Prim.Native.Nat.{ℕ, zero, suc, ◌+◌, ◌<◌, ◌≤◌}
use mathlib.Core.Path.{◌≡◌, refl, ap, ◌∙◌}
use mathlib.Core.Bool.{Bool, true, false, not, ◌&&◌, cond}
use mathlib.Core.List.{List, [], ◌∷◌, ◌++◌}
use lib.Dec.{eqb, ltb}
use lib.ListN.{length, get_or, drop, drop_of_length-le}
use lib.Seq.{drop-cons}
use native.Mathlib.Numerals.{add-one}
use native.Mathlib.Decide.{dec_lt}
use native.Mathlib.Omega.{arith}
use borrow.Author.Tests.{eq-eqb, ne_eqb, lt-ltb, le-ltb}
use types.Run.{OneOf}
use Rattle.std.specs.Prelude.{Result, Ok, Err}
use Rattle.lists.specs.Tests.{all}
use Rattle.commands.specs.declared.Change.{Change}
use Rattle.commands.specs.declared.Report.{Report}
use Rattle.commands.specs.declared.Naming.{Naming}
use Rattle.commands.specs.declared.Call.{Call}
use Rattle.commands.specs.declared.Call.TheVariants.{Changes, Reports, Moves, Names}
use Rattle.commands.specs.declared.NoCall.{NoCall}
use Rattle.commands.specs.declared.NoCall.TheVariants.{Nothing, BadHex, TooLong, Unknown}
use Rattle.commands.specs.Meaning.{Meaning, unknown, Word, says, words, with_text, behind, starts, called}
use Rattle.commands.specs.Promise.{Asks}
use Rattle.commands.proofs.Words.{never, both}

-- the words, each on a line of its own
unfoldable pub table : List Word → List ℕ
table [] = []
table (says w m ∷ ws) = w ++ (10 ∷ table ws)

-- what the word at a place means alone
abbrev pub alone_at : List Word → ℕ → Meaning
alone_at [] k = unknown
alone_at (says w m ∷ ws) zero = m
alone_at (says w m ∷ ws) (suc k) = alone_at ws k

-- the place in the table of the word that a line starts with, and where it ends in the line; past the last word for none
pub record Found : Type 0 where
  pub place : ℕ
  pub end : ℕ

-- at i the line ends, or a space stands there
unfoldable pub ends : List ℕ → ℕ → Bool
ends l i = cond (ltb i (length l)) (eqb (get_or l i 0) 32) (eqb i (length l))

-- the place after i where the byte stands there, else one past the end, from which nothing goes on
unfoldable pub further : List ℕ → ℕ → ℕ → ℕ
further l i c = cond (ltb i (length l) && eqb (get_or l i 0) c) (i + 1) (length l + 1)

-- where the rest of the table leads from word k, of which the line has the bytes before place i
unfoldable pub seek : List ℕ → List ℕ → ℕ → ℕ → Found
seek l [] k i = record { place = k; end = length l }
seek l (c ∷ t) k i = cond (eqb c 10) (cond (ends l i) (record { place = k; end = i }) (seek l t (k + 1) 0)) (seek l t k (further l i c))

-- the word at a place tells, with what stands in the line from the word's end on
pub record TellsWord (l : List ℕ) (r : Found) : Type 0 where
  pub within : r.end ≤ length l
  pub told : (room : ℕ) → called words room l ≡ behind (alone_at words r.place) room (drop r.end l)

-- one byte more of the table, and its end
pub seek_letter : (l t : List ℕ) (at k i : ℕ) → at < length t → ¬ (get_or t at 0 ≡ 10) → seek l (drop at t) k i ≡ seek l (drop (at + 1) t) k (further l i (get_or t at 0))
unfolding seek
seek_letter l t at k i h g = rw (add-one, drop-cons t at 0 h, ne_eqb (get_or t at 0) 10 g)

pub seek_next : (l t : List ℕ) (at k i : ℕ) → at < length t → get_or t at 0 ≡ 10 → ends l i ≡ false → seek l (drop at t) k i ≡ seek l (drop (at + 1) t) (k + 1) 0
unfolding seek
seek_next l t at k i h g e = rw (add-one at, drop-cons t at 0 h, eq-eqb (get_or t at 0) 10 g, e)

pub seek_found : (l t : List ℕ) (at k i : ℕ) → at < length t → get_or t at 0 ≡ 10 → ends l i ≡ true → seek l (drop at t) k i ≡ record { place = k; end = i }
unfolding seek
seek_found l t at k i h g e = rw (drop-cons t at 0 h, eq-eqb (get_or t at 0) 10 g, e)

pub seek_end : (l t : List ℕ) (at k i : ℕ) → length t ≤ at → seek l (drop at t) k i ≡ record { place = k; end = length l }
unfolding seek
seek_end l t at k i h = rw (drop_of_length-le t h)

-- where the line is behind the bytes of a word
along : List ℕ → List ℕ → ℕ → ℕ
along l [] i = i
along l (c ∷ w) i = along l w (further l i c)

-- no byte of the word ends a line of the table
free : List ℕ → Bool
free w = all (λ c. not (eqb c 10)) w

module _ (l : List ℕ) where
  seek_word : (w t : List ℕ) (k i : ℕ) → free w ≡ true
      → seek l (w ++ (10 ∷ t)) k i ≡ cond (ends l (along l w i)) (record { place = k; end = along l w i }) (seek l t (k + 1) 0)
  unfolding seek along free
  seek_word [] t k i f = refl
  seek_word (c ∷ w) t k i f = by_test (eqb c 10) refl (seek_word w t k (further l i c))
    where
      by_test : (b : Bool) → eqb c 10 ≡ b
          → (free w ≡ true → seek l (w ++ (10 ∷ t)) k (further l i c) ≡ cond (ends l (along l (c ∷ w) i)) (record { place = k; end = along l (c ∷ w) i }) (seek l t (k + 1) 0))
          → seek l (c ∷ (w ++ (10 ∷ t))) k i ≡ cond (ends l (along l (c ∷ w) i)) (record { place = k; end = along l (c ∷ w) i }) (seek l t (k + 1) 0)
      by_test true e p = never (simp e at f)
      by_test false e p = rw e (p (simp e at f))

  past : (i : ℕ) (c : ℕ) → length l ≤ i → further l i c ≡ length l + 1
  unfolding further
  past i c h = simp (le-ltb i (length l) h)

  lost : (w : List ℕ) → along l w (length l + 1) ≡ length l + 1
  unfolding along
  lost [] = refl
  lost (c ∷ w) = rw (past (length l + 1) c (omega arith)) (lost w)

  lost_ends : (w : List ℕ) → ends l (along l w (length l + 1)) ≡ false
  unfolding ends
  lost_ends w = rw (lost w, le-ltb (length l + 1) (length l) (omega arith)) (ne_eqb (length l + 1) (length l) (λ e. absurd (omega arith)))

  ends_within : (i : ℕ) → ends l i ≡ true → i ≤ length l
  unfolding ends
  ends_within i e = go (dec_lt (length l) i)
    where
      go : Dec (length l < i) → i ≤ length l
      go (yes h) = never (simp (le-ltb i (length l) (omega arith), ne_eqb i (length l) (λ f. absurd (omega arith))) at e)
      go (no h) = omega arith

  -- the line has the word from place i on
  reaches : (w : List ℕ) (i : ℕ) → i ≤ length l → (ends l (along l w i) ≡ starts w (drop i l)) × (starts w (drop i l) ≡ true → along l w i ≡ i + length w)
  unfolding along starts ends further
  reaches [] i h = go (dec_lt i (length l))
    where
      go : Dec (i < length l) → (ends l i ≡ starts [] (drop i l)) × (starts [] (drop i l) ≡ true → i ≡ i + 0)
      go (yes g) = (rw (drop-cons l i 0 g, lt-ltb i (length l) g), λ e. omega arith)
      go (no g) = (rw (drop_of_length-le l {i = i} (omega arith), le-ltb i (length l) (omega arith)) (eq-eqb i (length l) (omega arith)), λ e. omega arith)
  reaches (c ∷ w) i h = go (dec_lt i (length l)) (reaches w (suc i))
    where
      Goal : ℕ → List ℕ → Type 0
      Goal j t = (ends l (along l w j) ≡ starts (c ∷ w) t) × (starts (c ∷ w) t ≡ true → along l w j ≡ i + suc (length w))

      here : (b : Bool) → eqb (get_or l i 0) c ≡ b → i < length l
          → (ends l (along l w (suc i)) ≡ starts w (drop (suc i) l)) × (starts w (drop (suc i) l) ≡ true → along l w (suc i) ≡ suc i + length w)
          → Goal (further l i c) (drop i l)
      here true e g p =
          let f : further l i c ≡ suc i = simp (lt-ltb i (length l) g, e) (omega arith) in
          rw (f, drop-cons l i 0 g, e) (p.0, λ s. let q = p.1 s in omega arith)
      here false e g p =
          let f : further l i c ≡ length l + 1 = simp (lt-ltb i (length l) g, e) in
          rw (f, drop-cons l i 0 g, e) (lost_ends w, never)

      go : Dec (i < length l)
          → (suc i ≤ length l → (ends l (along l w (suc i)) ≡ starts w (drop (suc i) l)) × (starts w (drop (suc i) l) ≡ true → along l w (suc i) ≡ suc i + length w))
          → Goal (further l i c) (drop i l)
      go (yes g) p = here (eqb (get_or l i 0) c) refl g (p (omega arith))
      go (no g) p = rw (past i c (omega arith), drop_of_length-le l {i = i} (omega arith)) (lost_ends w, never)

-- what seeking from word k on finds among words
Finds : List ℕ → List Word → ℕ → Found → Type 0
Finds l ws k r = (j : ℕ) × (r.place ≡ k + j) × (r.end ≤ length l) × ((room : ℕ) → called ws room l ≡ behind (alone_at ws j) room (drop r.end l))

frees : List Word → Bool
frees [] = true
frees (says w m ∷ ws) = free w && frees ws

-- in turn: the first word, or one of those behind it
finds : (l : List ℕ) (ws : List Word) (k : ℕ) → frees ws ≡ true → Finds l ws k (seek l (table ws) k 0)
unfolding Finds frees table called seek
finds l [] k f = (0, omega arith, omega arith, λ room. rw (drop_of_length-le l {i = length l} (omega arith)))
finds l (says w m ∷ ws) k f = by_test (starts w l) refl (reaches l w 0 (omega arith)) (finds l ws (k + 1))
  where
    by_test : (b : Bool) → starts w l ≡ b → (ends l (along l w 0) ≡ starts w l) × (starts w l ≡ true → along l w 0 ≡ 0 + length w)
        → (frees ws ≡ true → Finds l ws (k + 1) (seek l (table ws) (k + 1) 0)) → Finds l (says w m ∷ ws) k (seek l (w ++ (10 ∷ table ws)) k 0)
    by_test true e p q = rw (seek_word l w (table ws) k 0 (both (free w) (frees ws) f).0, p.0, e) (0, omega arith, ends_within l (along l w 0) (p.0 ∙ e), let q : along l w 0 ≡ length w = omega (arith, p.1 e) in λ room. rw q)
    by_test false e p q = let r = q (both (free w) (frees ws) f).1 in rw (seek_word l w (table ws) k 0 (both (free w) (frees ws) f).0, p.0, e) (suc r.0, omega arith, r.2, r.3)

pub tells : (l : List ℕ) (r : Found) → r ≡ seek l (table words) 0 0 → TellsWord l r
unfolding Finds frees free words
tells l r e =
    let p = finds l words 0 refl in
    let q : p.0 ≡ (seek l (table words) 0 0).place = omega (arith, p.1) in
    rw e (record { within = p.2; told = λ room. p.3 room ∙ ap (λ n. behind (alone_at words n) room (drop (seek l (table words) 0 0).end l)) q })

-- none of the numbers below n
unfoldable pub Past : ℕ → ℕ → Type 0
Past zero k = Unit {0}
Past (suc n) k = Past n k × (OneOf (n ∷ []) k → ⊥)

pub at_least : (n k : ℕ) → Past n k → n ≤ k
unfolding Past
at_least zero k p = omega arith
at_least (suc n) k p = let h = at_least n k p.0 in let g = p.1 in omega arith

-- a word that brings no batch, no length and no name takes no text
pub extends_other : (meant : Meaning) (room : ℕ) (text : List ℕ) (word : Result Call NoCall) → ((call : Change) (n : ℕ) → word ≡ Ok (Changes call n) → ⊥)
    → ((call : Report) (n : ℕ) → word ≡ Ok (Reports call n) → ⊥) → ((call : Naming) (n : ℕ) → word ≡ Ok (Names call n) → ⊥) → Asks meant word
    → with_text meant room text ≡ unknown
extends_other meant room text (Ok (Changes call n)) f g h a = absurd (f call n refl)
extends_other meant room text (Ok (Reports call n)) f g h a = absurd (g call n refl)
extends_other meant room text (Ok (Moves call)) f g h a = rw (a [])
extends_other meant room text (Ok (Names call n)) f g h a = absurd (h call n refl)
extends_other meant room text (Err Nothing) f g h a = rw (a [])
extends_other meant room text (Err BadHex) f g h a = rw (a [])
extends_other meant room text (Err TooLong) f g h a = rw (a [])
extends_other meant room text (Err Unknown) f g h a = rw (a [])

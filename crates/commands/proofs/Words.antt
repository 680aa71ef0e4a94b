-- What a line that starts with a word means: the word alone (`called_word`), and with a text behind a space (`called_text`); of the line no more is
-- looked at than where a word may end (`none_within`, `found_within`).
use Prim.Native.Nat.{ℕ, zero, suc, ◌+◌, ◌<◌, ◌≤◌, min}
use mathlib.Core.Path.{◌≡◌, refl, ap, sym, ◌∙◌, subst}
use mathlib.Core.Bool.{Bool, true, false, not, ◌&&◌, cond}
use mathlib.Core.List.{List, [], ◌∷◌, ◌++◌}
use lib.Dec.{eqb, leb, ltb}
use lib.ListN.{length, get_or, take, drop, length-take}
use lib.Pointwise.{pointwise}
use lib.Seq.{drop-cons, get_or-take}
use native.Mathlib.Numerals.{add-one}
use Rattle.std.proofs.lemmas.List.{take-append-drop, get_or_past}
use Rattle.std.proofs.lemmas.Slice.Eq.{bytes_eq-Decides}
use native.Mathlib.Decide.{dec_lt}
use native.Mathlib.Omega.{arith}
use borrow.Author.Tests.{eq-eqb, ne_eqb, leb-true, ltb-true}
use Rattle.std.specs.Prelude.{nat_eq, Some, None, Result, Ok, Err}
use Rattle.lists.specs.Tests.{all}
use Rattle.lists.proofs.Deciding.{test_decides, and_decides}
use Rattle.commands.specs.declared.Change.{Change}
use Rattle.commands.specs.declared.Report.{Report}
use Rattle.commands.specs.declared.Move.{Move}
use Rattle.commands.specs.declared.Naming.{Naming}
use Rattle.commands.specs.declared.Call.{Call}
use Rattle.commands.specs.declared.Call.TheVariants.{Changes, Reports, Moves, Names}
use Rattle.commands.specs.declared.NoCall.{NoCall}
use Rattle.commands.specs.Meaning.{Meaning, change, report, move, named, nothing, bad_hex, too_long, unknown, longest, Word, says, words, batch, lends, with_name, with_text, starts, called}
use Rattle.commands.specs.Table.{alone_as, command_of}
use Rattle.commands.specs.Promise.{Means, Asks, FindsSpace, Extends}
use Rattle.commands.proofs.Texts.{nothing_held}

pub never : {A : Type 0} → false ≡ true → A
never e = let y : ◌≡◌ {A = ℕ} 0 1 = cc in absurd (omega arith)

pub both : (a b : Bool) → a && b ≡ true → (a ≡ true) × (b ≡ true)
both a b = (and_decides (test_decides a) (test_decides b)).to

-- no space stands in the text
free : List ℕ → Bool
free w = all (λ c. not (eqb c 32)) w

-- a text up to a place before which there is none
free_below : (l : List ℕ) (i : ℕ) → ((k : ℕ) → k < i → ¬ (get_or l k 0 ≡ 32)) → free (take i l) ≡ true
unfolding free
free_below [] zero f = refl
free_below [] (suc i) f = refl
free_below (x ∷ l) zero f = refl
free_below (x ∷ l) (suc i) f = rw (ne_eqb x 32 (f 0 (omega arith))) (free_below l i (λ k h. f (suc k) (omega arith)))

-- no space stands in any of the words
frees : List Word → Bool
frees [] = true
frees (says w m ∷ ws) = free w && frees ws

other : (a b : ℕ) → not (eqb a b) ≡ true → eqb a b ≡ false
other a b e = by_test (eqb a b) refl
  where
    by_test : (x : Bool) → eqb a b ≡ x → eqb a b ≡ false
    by_test true f = never (simp f at e)
    by_test false f = f

-- the word that a line starts with, with no space behind it, and with a text
starts_alone : (v w : List ℕ) → ¬ (get_or w (length v) 0 ≡ 32) → (starts v w ≡ pointwise nat_eq w v) × (starts v w ≡ true → drop (length v) w ≡ [])
unfolding starts
starts_alone [] [] f = (refl, λ e. refl)
starts_alone [] (x ∷ w) f = let e = ne_eqb x 32 f in (e, λ s. never (sym e ∙ s))
starts_alone (c ∷ v) [] f = (refl, never)
starts_alone (c ∷ v) (x ∷ w) f = let p = starts_alone v w f in (ap (λ b. eqb x c && b) p.0, λ s. p.1 (both (eqb x c) (starts v w) s).1)

module _ (t : List ℕ) where
  starts_text : (v w : List ℕ) → free v ≡ true → free w ≡ true
      → (starts v (w ++ (32 ∷ t)) ≡ pointwise nat_eq w v) × (starts v (w ++ (32 ∷ t)) ≡ true → drop (length v) (w ++ (32 ∷ t)) ≡ 32 ∷ t)
  unfolding free starts
  starts_text [] [] g f = (refl, λ e. refl)
  starts_text [] (x ∷ w) g f = let e = other x 32 (both (not (eqb x 32)) (free w) f).0 in (e, λ s. never (sym e ∙ s))
  starts_text (c ∷ v) [] g f =
      let e = other c 32 (both (not (eqb c 32)) (free v) g).0 in
      let n : eqb 32 c ≡ false = ne_eqb 32 c (λ h. never (sym e ∙ eq-eqb c 32 (sym h))) in
      (rw n, λ s. never (simp n at s))
  starts_text (c ∷ v) (x ∷ w) g f =
      let p = starts_text v w (both (not (eqb c 32)) (free v) g).1 (both (not (eqb x 32)) (free w) f).1 in
      (ap (λ b. eqb x c && b) p.0, λ s. p.1 (both (eqb x c) (starts v (w ++ (32 ∷ t))) s).1)

  called_behind : (ws : List Word) (room : ℕ) (w : List ℕ) → frees ws ≡ true → free w ≡ true → called ws room (w ++ (32 ∷ t)) ≡ with_text (alone_as ws w) room t
  unfolding frees called alone_as
  called_behind [] room w g f = refl
  called_behind (says v m ∷ ws) room w g f = by_test (starts v (w ++ (32 ∷ t))) refl (starts_text v w (both (free v) (frees ws) g).0 f) (called_behind ws room w (both (free v) (frees ws) g).1 f)
    where
      by_test : (b : Bool) → starts v (w ++ (32 ∷ t)) ≡ b
          → (starts v (w ++ (32 ∷ t)) ≡ pointwise nat_eq w v) × (starts v (w ++ (32 ∷ t)) ≡ true → drop (length v) (w ++ (32 ∷ t)) ≡ 32 ∷ t)
          → called ws room (w ++ (32 ∷ t)) ≡ with_text (alone_as ws w) room t → called (says v m ∷ ws) room (w ++ (32 ∷ t)) ≡ with_text (alone_as (says v m ∷ ws) w) room t
      by_test true e p h = rw (← p.0, e, p.1 e)
      by_test false e p h = rw (← p.0, e) h

-- each of the words is shorter
shorter : ℕ → List Word → Bool
shorter n [] = true
shorter n (says v m ∷ ws) = ltb (length v) n && shorter n ws

-- no space stands where a word may end
called_all : (n : ℕ) (ws : List Word) (room : ℕ) (w : List ℕ) → shorter n ws ≡ true → ((k : ℕ) → k < n → ¬ (get_or w k 0 ≡ 32)) → called ws room w ≡ alone_as ws w
unfolding shorter called alone_as
called_all n [] room w s f = refl
called_all n (says v m ∷ ws) room w s f =
    let p = both (ltb (length v) n) (shorter n ws) s in
    by_test (starts v w) refl (starts_alone v w (f (length v) (ltb-true (length v) n p.0))) (called_all n ws room w p.1 f)
  where
    by_test : (b : Bool) → starts v w ≡ b → (starts v w ≡ pointwise nat_eq w v) × (starts v w ≡ true → drop (length v) w ≡ [])
        → called ws room w ≡ alone_as ws w → called (says v m ∷ ws) room w ≡ alone_as (says v m ∷ ws) w
    by_test true e p h = rw (← p.0, e, p.1 e)
    by_test false e p h = rw (← p.0, e) h

-- a word alone brings no bytes and no name, and no buffer longer than the call is lent; and each word has a call
sound : Meaning → Bool
sound (change call []) = true
sound (change call (x ∷ l)) = false
sound (report call n) = leb n (longest call)
sound (move call) = true
sound (named call []) = true
sound (named call (x ∷ l)) = false
sound nothing = false
sound bad_hex = false
sound too_long = false
sound unknown = true

asks_sound : (m : Meaning) → sound m ≡ true → Asks m (command_of m)
unfolding sound
asks_sound (change call []) e buffer = (nothing_held buffer, refl)
asks_sound (change call (x ∷ l)) e buffer = never e
asks_sound (report call n) e buffer = (leb-true n (longest call) e, refl)
asks_sound (move call) e buffer = refl
asks_sound (named call []) e buffer = (nothing_held buffer, refl)
asks_sound (named call (x ∷ l)) e buffer = never e
asks_sound nothing e buffer = never e
asks_sound bad_hex e buffer = never e
asks_sound too_long e buffer = never e
asks_sound unknown e buffer = refl

no_call : (m : Meaning) (r : NoCall) → sound m ≡ true → command_of m ≡ Err r → m ≡ unknown
unfolding sound
no_call (change call l) r e f = cc
no_call (report call n) r e f = cc
no_call (move call) r e f = cc
no_call (named call l) r e f = cc
no_call nothing r e f = never e
no_call bad_hex r e f = never e
no_call too_long r e f = never e
no_call unknown r e f = refl

sounds : List Word → Bool
sounds [] = true
sounds (says w m ∷ ws) = sound m && sounds ws

alone_sound : (ws : List Word) (w : List ℕ) → sounds ws ≡ true → sound (alone_as ws w) ≡ true
unfolding sounds sound alone_as
alone_sound [] w e = refl
alone_sound (says v m ∷ ws) w e = by_test (pointwise nat_eq w v) (both (sound m) (sounds ws) e).0 (alone_sound ws w (both (sound m) (sounds ws) e).1)
  where
    by_test : (b : Bool) → sound m ≡ true → sound (alone_as ws w) ≡ true → sound (cond b m (alone_as ws w)) ≡ true
    by_test true f g = f
    by_test false f g = g

is_sound : (w : List ℕ) → sound (alone_as words w) ≡ true
unfolding sounds sound words
is_sound w = alone_sound words w refl

asks : (w : List ℕ) (r : Result Call NoCall) → r ≡ command_of (alone_as words w) → Asks (alone_as words w) r
asks w r e = subst (λ x. Asks (alone_as words w) x) (sym e) (asks_sound (alone_as words w) (is_sound w))

-- one that is found the same as another asks for what that one does
pub alone_is : (w v u : List ℕ) (b : Bool) → u ≡ v → b ≡ pointwise nat_eq w u → b ≡ true → command_of (alone_as words v) ≡ command_of (alone_as words w)
alone_is w v u b f e t = ap (λ x. command_of (alone_as words x)) (sym ((bytes_eq-Decides w u).0 (sym e ∙ t) ∙ f))

-- where no space is among the first bytes, none stands in the line before that many
none_within : (l : List ℕ) (n m : ℕ) → min m (length l) ≤ n → FindsSpace (take n l) None → (k : ℕ) → k < m → ¬ (get_or l k 0 ≡ 32)
none_within l n m h f k g = go (dec_lt k (length l))
  where
    go : Dec (k < length l) → ¬ (get_or l k 0 ≡ 32)
    go (yes s) = let i : k < length (take n l) = omega (arith, length-take n l) in λ e. f k i (get_or-take n l k 0 (omega arith) ∙ e)
    go (no s) = λ e. let z = get_or_past l k 0 (omega arith) in omega arith

-- and a space that is found there is the first of the line
pub found_within : (l : List ℕ) (n i : ℕ) → FindsSpace (take n l) (Some i) → FindsSpace l (Some i)
found_within l n i f =
    let e = length-take n l in
    let h : i < length (take n l) = f.0 in
    (omega arith, sym (get_or-take n l i 0 (omega arith)) ∙ f.1, λ k g s. f.2 k g (get_or-take n l k 0 (omega arith) ∙ s))

-- the whole line is a word, or it starts with none
pub called_word : (l buffer : List ℕ) (room n : ℕ) (r : Result Call NoCall) → min 11 (length l) ≤ n → FindsSpace (take n l) None → r ≡ command_of (alone_as words l)
    → Means (called words room l) buffer r
unfolding shorter words
called_word l buffer room n r h f e = subst (λ m. Means m buffer r) (sym (called_all 11 words room l refl (none_within l n 11 h f))) (asks l r e buffer)

-- a line with a space after its word
parts : (l text : List ℕ) (i room : ℕ) → FindsSpace l (Some i) → text ≡ drop (i + 1) l → called words room l ≡ with_text (alone_as words (take i l)) room text
unfolding frees free words
parts l text i room f d =
    let h : i < length l = f.0 in
    let g : l ≡ take i l ++ (32 ∷ drop (i + 1) l) = sym (take-append-drop i l) ∙ rw (drop-cons l i 0 h, f.1, add-one i) in
    ap (λ x. called words room x) g ∙ rw (← d) (called_behind text words room (take i l) refl (free_below l i f.2))

pub called_text : (l text : List ℕ) (i room : ℕ) (word : Call) (buffer : List ℕ) (r : Result Call NoCall) → FindsSpace l (Some i) → text ≡ drop (i + 1) l
    → Ok word ≡ command_of (alone_as words (take i l)) → Extends word room text buffer r → Means (called words room l) buffer r
called_text l text i room word buffer r f d e x = subst (λ m. Means m buffer r) (sym (parts l text i room f d)) (x (alone_as words (take i l)) (asks (take i l) (Ok word) e))

pub called_none : (l : List ℕ) (i room : ℕ) (buffer : List ℕ) (r : NoCall) → FindsSpace l (Some i) → Err r ≡ command_of (alone_as words (take i l))
    → Means (called words room l) buffer (Err r)
called_none l i room buffer r f e =
    let m = alone_as words (take i l) in
    let u : m ≡ unknown = no_call m r (is_sound (take i l)) (sym e) in
    let p = parts l (drop (i + 1) l) i room f refl ∙ ap (λ n. with_text n room (drop (i + 1) l)) u ∙ sym u in
    subst (λ n. Means n buffer (Err r)) (sym p) (asks (take i l) (Err r) e buffer)

-- what a word takes tells what a text behind it means
module _ (meant : Meaning) (room : ℕ) (text : List ℕ) where
  pub extends_change : (word : Call) (call : Change) (n : ℕ) (buffer : List ℕ) (answer : Result Call NoCall) → word ≡ Changes call n → Asks meant (Ok word)
      → Means (batch call room text) buffer answer → Means (with_text meant room text) buffer answer
  extends_change word call n buffer answer e a p = rw (subst (λ x. Asks meant (Ok x)) e a []).1 p

  pub extends_report : (word : Call) (call : Report) (n : ℕ) (buffer : List ℕ) (answer : Result Call NoCall) → word ≡ Reports call n → Asks meant (Ok word)
      → Means (lends call text) buffer answer → Means (with_text meant room text) buffer answer
  extends_report word call n buffer answer e a p = rw (subst (λ x. Asks meant (Ok x)) e a []).1 p

  pub extends_name : (word : Call) (call : Naming) (n : ℕ) (buffer : List ℕ) (answer : Result Call NoCall) → word ≡ Names call n → Asks meant (Ok word)
      → Means (with_name call room text) buffer answer → Means (with_text meant room text) buffer answer
  extends_name word call n buffer answer e a p = rw (subst (λ x. Asks meant (Ok x)) e a []).1 p

  pub extends_move : (word : Call) (call : Move) → word ≡ Moves call → Asks meant (Ok word) → with_text meant room text ≡ unknown
  extends_move word call e a = rw (subst (λ x. Asks meant (Ok x)) e a [])

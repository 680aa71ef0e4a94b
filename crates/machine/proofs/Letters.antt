-- Request C-12, "with exactly the letters written": the numbers that stand in the bytes are the letters of the walk and of the walks that justify its claims
-- (`letters_written`); and the walk's depth in that derivation is the sheet's round number (`told_depth`).
use Prim.Native.Nat.{ℕ, zero, suc, ◌+◌, ◌*◌, ◌-◌, ◌≤◌, ◌<◌}
use mathlib.Core.Path.{◌≡◌, refl, ap, sym, ◌∙◌, subst}
use mathlib.Core.Bool.{Bool, true, false, ◌&&◌, cond}
use mathlib.Core.Logic.{◌⊎◌, inl, inr, ⊎_elim, ◌↔◌}
use mathlib.Core.Option.{Option, none, some}
use mathlib.Core.List.Memᴰ
use mathlib.Core.List.{List, [], ◌∷◌, ◌++◌, map, append_assoc, append-nil}
use lib.Dec.{leb}
use lib.ListN.{length}
use native.Mathlib.Omega.{arith}
use Rattle.lists.specs.Tests.{Decides, ◌among◌, Once}
use Rattle.lists.proofs.Deciding.{so, not_so, leb_decides, and_decides, map_in}
use Rattle.rows.specs.declared.Row.{Row}
use Rattle.orderings.specs.Steps.{Claim, loops, mixes, Label, letter, ω, back, mix, Step, needs, Walk}
use Rattle.orderings.specs.Systems.{System, Line, Derivation, Has, walk_depth, depth}
use Rattle.orderings.specs.Timelines.{timelines}
use Rattle.orderings.proofs.Walks.{allowed_use, depth_most}
use Rattle.machine.specs.declared.Verdict.TheVariants.{NonEmpty}
use Rattle.machine.specs.declared.Phase.TheVariants.{Settled}
use Rattle.machine.specs.Machine.{Opening, Machine}
use Rattle.machine.specs.Text.{text, number_text}
use Rattle.machine.specs.WellFormed.{WellFormed}
use Rattle.machine.specs.Word.{Each, joined, parts_text, WritesWalk, line, WritesTour, WritesPieces, Part, Spells, Occurs, outside, within, begun, ended, numbers_from, numbers, HasLetter, Uses, TellsWalk}
use Rattle.machine.proofs.Text.{read_number, number_reads, digits_only, number_some}
use Rattle.machine.proofs.Statements.{settled_number}
use Rattle.machine.proofs.Grounded.{round_most}

-- ---- two lists, one by one

module _ {A B : Type 0} (R : A → B → Type 0) where
  each_at : (l : List A) (m : List B) → Each R l m → (x : A) → x among l → (y : B) × y among m × R x y
  each_at [] m e x i = absurd (Memᴰ.not-nil i)
  each_at (z ∷ l) [] e x i = absurd e
  each_at (z ∷ l) (y ∷ m) e x i = ⊎_elim (λ j. (y, Memᴰ.head refl, subst (λ (w : A). R w y) (sym j) e.0))
      (λ j. let r = each_at l m e.1 x j in (r.0, Memᴰ.tail r.1, r.2)) (Memᴰ.cases_cons i)

  each_from : (l : List A) (m : List B) → Each R l m → (y : B) → y among m → (x : A) × x among l × R x y
  each_from l [] e y i = absurd (Memᴰ.not-nil i)
  each_from [] (z ∷ m) e y i = absurd e
  each_from (x ∷ l) (z ∷ m) e y i = ⊎_elim (λ j. (x, Memᴰ.head refl, subst (R x) (sym j) e.0))
      (λ j. let r = each_from l m e.1 y j in (r.0, Memᴰ.tail r.1, r.2)) (Memᴰ.cases_cons i)

-- ---- the numbers that stand in bytes

abbrev Digit : ℕ → Type 0
Digit b = (48 ≤ b) × (b ≤ 57)

digit_decides : (b : ℕ) → Decides (leb 48 b && leb b 57) (Digit b)
digit_decides b = and_decides (leb_decides 48 b) (leb_decides b 57)

-- any other byte parts them
numbers_cut : (c : ℕ) → ¬ Digit c → (o : Option ℕ) (x y : List ℕ) → numbers_from o (x ++ (c ∷ y)) ≡ numbers_from o x ++ numbers y
unfolding numbers_from
numbers_cut c n o [] y = rw (not_so (digit_decides c) n) refl
numbers_cut c n o (b ∷ x) y = go (leb 48 b && leb b 57) (λ p. numbers_cut c n p x y)
  where
    go : (t : Bool) → ((p : Option ℕ) → numbers_from p (x ++ (c ∷ y)) ≡ numbers_from p x ++ numbers y) → cond t (numbers_from (some (begun o * 10 + (b - 48))) (x ++ (c ∷ y))) (ended o ++ numbers_from none (x ++ (c ∷ y)))
        ≡ cond t (numbers_from (some (begun o * 10 + (b - 48))) x) (ended o ++ numbers_from none x) ++ numbers y
    go true h = h (some (begun o * 10 + (b - 48)))
    go false h = ap (λ (k : List ℕ). ended o ++ k) (h none) ∙ sym (append_assoc (ended o) (numbers_from none x) (numbers y))

digits_read : (v : ℕ) (l : List ℕ) → ((b : ℕ) → b among l → Digit b) → numbers_from (some v) l ≡ read_number l v ∷ []
unfolding numbers_from
digits_read v [] h = refl
digits_read v (b ∷ l) h = rw (so (digit_decides b) (h b (Memᴰ.head refl))) (digits_read (v * 10 + (b - 48)) l (λ d i. h d (Memᴰ.tail i)))

-- of a letter, one
number_numbers : (a : ℕ) → numbers (number_text a) ≡ a ∷ []
unfolding numbers_from
number_numbers a = go (number_text a) (digits_only a) (number_some a) ∙ ap (λ (n : ℕ). n ∷ []) (number_reads a)
  where
    go : (l : List ℕ) → ((b : ℕ) → b among l → Digit b) → 0 < length l → numbers l ≡ read_number l 0 ∷ []
    go [] h k = absurd (omega arith)
    go (b ∷ l) h k = rw (so (digit_decides b) (h b (Memᴰ.head refl))) (digits_read (0 * 10 + (b - 48)) l (λ d i. h d (Memᴰ.tail i)))

-- what closes a part has none
record Closes (close : List ℕ) : Type 0 where
  first : ℕ
  rest : List ℕ
  is : close ≡ first ∷ rest
  parts : ¬ Digit first
  none_in : numbers rest ≡ []

closes : (rest : List ℕ) → numbers rest ≡ [] → Closes (41 ∷ rest)
closes rest e = record { first = 41; rest = rest; is = refl; parts = λ d. omega (arith, d.0); none_in = e }

before_close : (i close : List ℕ) → Closes close → numbers (i ++ close) ≡ numbers i
before_close i close c = ap (λ (k : List ℕ). numbers (i ++ k)) c.is ∙ numbers_cut c.first c.parts none i c.rest ∙ ap (λ (k : List ℕ). numbers i ++ k) c.none_in ∙ append-nil (numbers i)

in_tour : (i close : List ℕ) → Closes close → numbers (text "(" ++ (i ++ close)) ≡ numbers i
unfolding numbers_from
in_tour i close c = before_close i close c

in_mix : (i : List ℕ) → numbers (text "sh(" ++ (i ++ text ")")) ≡ numbers i
unfolding numbers_from
in_mix i = before_close i (text ")") (closes [] refl)

closes_w : Closes (text ")w")
unfolding numbers_from
closes_w = closes (text "w") refl

closes_v : Closes (text ")v")
unfolding numbers_from
closes_v = closes (text "v") refl

module _ (a : ℕ) where
  joined_out : (c : ℕ) → ¬ Digit c → (parts : List (List ℕ)) → a among numbers (joined c parts) → (p : List ℕ) × p among parts × a among numbers p
  unfolding numbers_from
  joined_out c n [] m = absurd (Memᴰ.not-nil m)
  joined_out c n (t ∷ []) m = (t, Memᴰ.head refl, m)
  joined_out c n (t ∷ u ∷ l) m = ⊎_elim (λ i. (t, Memᴰ.head refl, i)) (λ i. let r = joined_out c n (u ∷ l) i in (r.0, Memᴰ.tail r.1, r.2))
      (Memᴰ.append_cases (numbers t) (subst (λ (k : List ℕ). a among k) (numbers_cut c n none t (joined c (u ∷ l))) m))

  joined_in : (c : ℕ) → ¬ Digit c → (parts : List (List ℕ)) (p : List ℕ) → p among parts → a among numbers p → a among numbers (joined c parts)
  joined_in c n [] p i m = absurd (Memᴰ.not-nil i)
  joined_in c n (t ∷ []) p i m = subst (λ (k : List ℕ). a among numbers k) (Memᴰ.eq_of_singleton i) m
  joined_in c n (t ∷ u ∷ l) p i m = subst (λ (k : List ℕ). a among k) (sym (numbers_cut c n none t (joined c (u ∷ l))))
      (⊎_elim (λ e. Memᴰ.append_left (numbers (joined c (u ∷ l))) (subst (λ (k : List ℕ). a among numbers k) e m)) (λ j. Memᴰ.append_right (numbers t) (joined_in c n (u ∷ l) p j m)) (Memᴰ.cases_cons i))

  dot : ¬ Digit 46
  dot d = omega (arith, d.0)

  comma : ¬ Digit 44
  comma d = omega (arith, d.0)

  parts_out : (parts : List (List ℕ)) → a among numbers (parts_text parts) → (p : List ℕ) × p among parts × a among numbers p
  unfolding numbers_from
  parts_out [] m = absurd (Memᴰ.not-nil m)
  parts_out (p ∷ l) m = joined_out 46 dot (p ∷ l) m

  parts_in : (parts : List (List ℕ)) (p : List ℕ) → p among parts → a among numbers p → a among numbers (parts_text parts)
  parts_in [] p i m = absurd (Memᴰ.not-nil i)
  parts_in (t ∷ l) p i m = joined_in 46 dot (t ∷ l) p i m

-- ---- the letters of an expression

module _ (rows : List Row) (l : List Opening) (D : Derivation (timelines rows)) (a : ℕ) where
  abbrev S : System
  S = timelines rows

  -- the letter is in a walk that justifies a claim
  abbrev Justifies : Type 0
  Justifies = (x : Line S) × x among D × ((v : Walk) × v among x.walks × HasLetter v a)

  -- ---- what is written is used

  module _ (R : Step → List ℕ → Type 0) (sound : (t : Step) (b : List ℕ) → R t b → a among numbers b → (t.label ≡ letter a) ⊎ Justifies) where
    walk_out : (w : Walk) (b : List ℕ) → WritesWalk R w b → a among numbers b → HasLetter w a ⊎ Justifies
    walk_out w b h m =
        let r = parts_out a h.0 (subst (λ (k : List ℕ). a among numbers k) h.2 m) in
        let x = each_from R w h.0 h.1 r.0 r.1 in
        ⊎_elim (λ e. inl (x.0, x.1, e)) inr (sound x.0 r.0 x.2 r.2)

    tour_out : (P q : ℕ) (close b : List ℕ) → Closes close → WritesTour rows l D R P q close b → a among numbers b → Justifies
    tour_out P q close b c h m =
        let T = h.0 in let t = h.2 in let i = h.3 in
        let k = subst (λ (k : List ℕ). a among k) (ap numbers i.2 ∙ in_tour i.0 close c) m in
        ⊎_elim (λ u. (line rows (loops P) t.0, t.1, (T, t.2, u))) (λ j. j) (walk_out T i.0 i.1 k)

    pieces_out : (P : ℕ) (b : List ℕ) → WritesPieces rows l D R P b → a among numbers b → Justifies
    pieces_out P b h m =
        let ps = h.0 in let t = h.2 in let i = h.3 in
        let r = joined_out a 44 (comma a) i.0 (subst (λ (k : List ℕ). a among k) (ap numbers i.2 ∙ in_mix (joined 44 i.0)) m) in
        let x = each_from (WritesWalk R) ps i.0 i.1 r.0 r.1 in
        ⊎_elim (λ u. (line rows (mixes P) t.0, t.1, (x.0, (t.2 x.0).1 (x.1, λ e. Memᴰ.not-nil (subst (λ (v : Walk). u.0 among v) e u.1)), u))) (λ j. j) (walk_out x.0 r.0 x.2 r.2)

    part_out : (p : ℕ) (x : Label) (q : ℕ) (b : List ℕ) → Part rows l D R p x q b → a among numbers b → (x ≡ letter a) ⊎ Justifies
    part_out p (letter c) q b h m = inl (ap letter (sym (Memᴰ.eq_of_singleton (subst (λ (k : List ℕ). a among k) (ap numbers h ∙ number_numbers c) m))))
    part_out p (ω P) q b h m = inr (tour_out P p (text ")w") b closes_w h m)
    part_out p (back P) q b h m = inr (tour_out P q (text ")v") b closes_v h m)
    part_out p (mix P) q b h m = inr (pieces_out P b h m)

  spells_out : (n : ℕ) (t : Step) (b : List ℕ) → Spells rows l D n t b → a among numbers b → (t.label ≡ letter a) ⊎ Justifies
  unfolding Spells
  spells_out zero t b h m = part_out (λ s c. ⊥) (λ s c x. absurd x) t.from t.label t.to b h m
  spells_out (suc n) t b h m = part_out (Spells rows l D n) (spells_out n) t.from t.label t.to b h m

  -- ---- what is used is written

  module _ (bytes : List ℕ) (once : Once (map (λ (x : Line S). x.claim) D)) where
    -- the step is written within the bytes
    abbrev Placed : Step → Type 0
    Placed t = (n : ℕ) × (b : List ℕ) × Spells rows l D n t b × (a among numbers b → a among numbers bytes)

    -- a claim has one line
    one_line : (D : Derivation S) → Once (map (λ (x : Line S). x.claim) D) → (c : Claim) (ws vs : List Walk) → line rows c ws among D → line rows c vs among D → ws ≡ vs
    one_line [] o c ws vs i j = absurd (Memᴰ.not-nil i)
    one_line (y ∷ D) o c ws vs i j = go (Memᴰ.cases_cons i) (Memᴰ.cases_cons j) (one_line D o.1 c ws vs)
      where
        twice : {A : Type 0} (us : List Walk) → c ≡ y.claim → line rows c us among D → A
        twice us e k = absurd (o.0 (subst (λ (d : Claim). d among map (λ (x : Line S). x.claim) D) e (map_in (λ (x : Line S). x.claim) k)))

        go : (line rows c ws ≡ y) ⊎ line rows c ws among D → (line rows c vs ≡ y) ⊎ line rows c vs among D → (line rows c ws among D → line rows c vs among D → ws ≡ vs) → ws ≡ vs
        go (inl e) (inl f) h = ap (λ (x : Line S). x.walks) (e ∙ sym f)
        go (inl e) (inr k) h = twice vs (ap (λ (x : Line S). x.claim) e) k
        go (inr k) (inl f) h = twice ws (ap (λ (x : Line S). x.claim) f) k
        go (inr i) (inr j) h = h i j

    module _ (R : Step → List ℕ → Type 0) (place : (t : Step) (b : List ℕ) → R t b → (a among numbers b → a among numbers bytes) → Placed t) where
      walk_in : (w : Walk) (b : List ℕ) → WritesWalk R w b → (a among numbers b → a among numbers bytes) → (t : Step) → t among w → Placed t
      walk_in w b h k t i = let r = each_at R w h.0 h.1 t i in
          place t r.0 r.2 (λ m. k (subst (λ (x : List ℕ). a among numbers x) (sym h.2) (parts_in a h.0 r.0 r.1 m)))

      -- the steps of the walks that justify the claim of a step
      tour_in : (P q : ℕ) (close b : List ℕ) → Closes close → WritesTour rows l D R P q close b → (a among numbers b → a among numbers bytes)
          → (ws : List Walk) → line rows (loops P) ws among D → (v : Walk) → v among ws → (t : Step) → t among v → Placed t
      tour_in P q close b c h k ws e v j t i =
          let T = h.0 in let g = h.2 in let x = h.3 in
          let s = g.3 v (subst (λ (us : List Walk). v among us) (one_line D once (loops P) ws g.0 e g.1) j) in
          let u : t among (T ++ T) = subst (λ (w : Walk). t among w) (sym s.2) (Memᴰ.append_right s.0 (Memᴰ.append_left s.1 i)) in
          walk_in T x.0 x.1 (λ m. k (subst (λ (y : List ℕ). a among y) (sym (ap numbers x.2 ∙ in_tour x.0 close c)) m)) t (⊎_elim (λ y. y) (λ y. y) (Memᴰ.append_cases T u))

      pieces_in : (P : ℕ) (b : List ℕ) → WritesPieces rows l D R P b → (a among numbers b → a among numbers bytes)
          → (ws : List Walk) → line rows (mixes P) ws among D → (v : Walk) → v among ws → (t : Step) → t among v → Placed t
      pieces_in P b h k ws e v j t i =
          let ps = h.0 in let g = h.2 in let x = h.3 in
          let s = (g.2 v).0 (subst (λ (us : List Walk). v among us) (one_line D once (mixes P) ws g.0 e g.1) j) in
          let r = each_at (WritesWalk R) ps x.0 x.1 v s.0 in
          walk_in v r.0 r.2 (λ m. k (subst (λ (y : List ℕ). a among y) (sym (ap numbers x.2 ∙ in_mix (joined 44 x.0))) (joined_in a 44 (comma a) x.0 r.0 r.1 m))) t i

      part_in : (p : ℕ) (x : Label) (q : ℕ) (b : List ℕ) → Part rows l D R p x q b → (a among numbers b → a among numbers bytes) → (d : Claim) → needs x ≡ some d
          → (ws : List Walk) → line rows d ws among D → (v : Walk) → v among ws → (t : Step) → t among v → Placed t
      part_in p (letter c) q b h k d e ws i = let z : ◌≡◌ {A = ℕ} 0 1 = cc in absurd (omega arith)
      part_in p (ω P) q b h k d e ws i = let f : d ≡ loops P = cc in tour_in P p (text ")w") b closes_w h k ws (subst (λ (x : Claim). line rows x ws among D) f i)
      part_in p (back P) q b h k d e ws i = let f : d ≡ loops P = cc in tour_in P q (text ")v") b closes_v h k ws (subst (λ (x : Claim). line rows x ws among D) f i)
      part_in p (mix P) q b h k d e ws i = let f : d ≡ mixes P = cc in pieces_in P b h k ws (subst (λ (x : Claim). line rows x ws among D) f i)

    inner : (s : Step) → Placed s → (d : Claim) → needs s.label ≡ some d → (ws : List Walk) → line rows d ws among D → (v : Walk) → v among ws → (t : Step) → t among v → Placed t
    unfolding Spells
    inner s (zero, b, h, k) d e = part_in (λ t c. ⊥) (λ t c x y. absurd x) s.from s.label s.to b h k d e
    inner s (suc n, b, h, k) d e = part_in (Spells rows l D n) (λ t c x y. (n, c, x, y)) s.from s.label s.to b h k d e

    -- a letter that is placed is written
    letter_in : (t : Step) → Placed t → t.label ≡ letter a → a among numbers bytes
    unfolding Spells
    letter_in t (n, b, h, k) e = k (subst (λ (x : List ℕ). a among x) (sym (ap numbers (is n h) ∙ number_numbers a)) (Memᴰ.head refl))
      where
        is : (n : ℕ) → Spells rows l D n t b → b ≡ number_text a
        is zero h = rw e at h
        is (suc n) h = rw e at h

    -- a claim that occurs is the claim of a step that is placed
    occurs_in : (w : Walk) → ((t : Step) → t among w → Placed t) → {c : Claim} → Occurs rows D w c → (t : Step) × Placed t × (needs t.label ≡ some c)
    occurs_in w h (outside c q) = (q.0, h q.0 q.1, q.2)
    occurs_in w h (within c d ws v o i j q) = let r = occurs_in w h o in (q.0, inner r.0 r.1 d r.2 ws i v j q.0 q.1, q.2)

module _ (m : Machine) (bytes : List ℕ) (t : TellsWalk m bytes) where
  abbrev rows : List Row
  rows = m.rows

  abbrev S' : System
  S' = timelines rows

  pub letters_written : (a : ℕ) → a among numbers bytes ↔ Uses rows t.derivation t.told.walk a
  letters_written a = (
    walk_out rows l D a (Spells rows l D m.rounds) (spells_out rows l D a m.rounds) w bytes t.spelled,
    ⊎_elim (λ h. letter_in rows l D a bytes t.once h.0 (outer h.0 h.1) h.2) (λ h. let x = h.0 in let v = h.2 in let s = v.2 in
        let r = occurs_in rows l D a bytes t.once w outer ((t.exactly x.claim).0 (map_in (λ (y : Line S'). y.claim) h.1)) in
        letter_in rows l D a bytes t.once s.0 (inner rows l D a bytes t.once r.0 r.1 x.claim r.2 x.walks h.1 v.0 v.1 s.0 s.1) s.2),
  )
    where
      l : List Opening
      l = m.openings

      D : Derivation S'
      D = t.derivation

      w : Walk
      w = t.told.walk

      outer : (s : Step) → s among w → Placed rows l D a bytes t.once s
      outer s i = walk_in rows l D a bytes t.once (Spells rows l D m.rounds) (λ x b h k. (m.rounds, b, h, k)) w bytes t.spelled (λ k. k) s i

  -- the walk's depth is the sheet's round number
  pub told_depth : WellFormed m → m.phase ≡ Settled NonEmpty → walk_depth S' (depth S' t.derivation) t.told.walk ≡ m.rounds
  told_depth f e = omega (
    arith,
    (settled_number m f NonEmpty e).0.1.1 t.derivation t.valid t.told.walk t.accepts,
    depth_most S' (depth S' t.derivation) t.told.walk m.rounds
        (λ c i. round_most m f (record { round = depth S' t.derivation c; claim = c }) (t.depths c (allowed_use S' (Has S' t.derivation) t.told.walk t.accepts.1 c i))),
  )

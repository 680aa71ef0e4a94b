-- Request C-12: what tells a machine's walk is one list of bytes.
use Prim.Native.Nat.{ℕ, zero, suc}
use mathlib.Core.Path.{◌≡◌, refl, ap, sym, ◌∙◌, subst}
use mathlib.Core.Logic.{inl, inr}
use mathlib.Core.List.{List, [], ◌∷◌, ◌++◌}
use Rattle.rows.specs.declared.Row.{Row}
use Rattle.orderings.specs.Steps.{Label, letter, ω, back, mix, Step, members, Walk}
use Rattle.orderings.specs.Systems.{Derivation}
use Rattle.orderings.specs.Timelines.{timelines}
use Rattle.machine.specs.Machine.{Opening, Machine, open_claims}
use Rattle.machine.specs.Order.{Found}
use Rattle.machine.specs.Text.{text}
use Rattle.machine.specs.Word.{round_trip, joined, found, Between, Nearest, Along, PieceBy, PieceFor, Each, parts_text, WritesWalk, WritesTour, WritesPieces, Part, Spells, TellsWalk}
use Rattle.machine.proofs.Walks.{foremost_unique, best_unique}

-- what two relations give of one thing is the same
abbrev Agree : {A B : Type 0} → (A → B → Type 0) → (A → B → Type 0) → Type 0
Agree {A} {B} R R' = (x : A) (y y' : B) → R x y → R' x y' → y ≡ y'

each_agree : {A B : Type 0} (R R' : A → B → Type 0) → Agree R R' → (l : List A) (m m' : List B) → Each R l m → Each R' l m' → m ≡ m'
each_agree R R' f [] [] [] h k = refl
each_agree R R' f [] [] (y ∷ m) h k = absurd k
each_agree R R' f [] (y ∷ m) m' h k = absurd h
each_agree R R' f (x ∷ l) [] m' h k = absurd h
each_agree R R' f (x ∷ l) (y ∷ m) [] h k = absurd k
each_agree R R' f (x ∷ l) (y ∷ m) (z ∷ n) h k = let e = f x y z h.0 k.0 in let g = each_agree R R' f l m n h.1 k.1 in cc

along_agree : (N : ℕ → ℕ → Walk → Type 0) → ((a b : ℕ) (v w : Walk) → N a b v → N a b w → v ≡ w) → (l : List ℕ) (T U : Walk) → Along N l T → Along N l U → T ≡ U
along_agree N f [] T U h k = h ∙ sym k
along_agree N f (a ∷ []) T U h k = h ∙ sym k
along_agree N f (a ∷ b ∷ l) T U h k = let e = f a b h.0 k.0 h.2 k.2 in let g = along_agree N f (b ∷ l) h.1 k.1 h.3 k.3 in
    h.4 ∙ (ap (λ (v : Walk). v ++ h.1) e ∙ (ap (λ (v : Walk). k.0 ++ v) g ∙ sym k.4))

writes_agree : (R R' : Step → List ℕ → Type 0) → Agree R R' → Agree (WritesWalk R) (WritesWalk R')
writes_agree R R' f w b b' h k = h.2 ∙ (ap parts_text (each_agree R R' f w h.0 k.0 h.1 k.1) ∙ sym k.2)

module _ (rows : List Row) (l : List Opening) where
  nearest_one : (P a b : ℕ) (v w : Walk) → Nearest rows l P a b v → Nearest rows l P a b w → v ≡ w
  nearest_one P a b v w h k = ap (λ (f : Found). f.walk) (foremost_unique (Between rows l P a b) (λ f c. (b, c.1)) (found a v) (found a w) h k)

  piece_one : (P : ℕ) → Agree (PieceFor rows l P) (PieceFor rows l P)
  piece_one P s v w (inl h) (inl k) = ap (λ (f : Found). f.walk) (foremost_unique (PieceBy rows l P s) (λ f c. (c.1.0, c.1.2)) (found h.0 v) (found k.0 w) h.1 k.1)
  piece_one P s v w (inl h) (inr k) = absurd (k.0 (found h.0 v) h.1.is)
  piece_one P s v w (inr h) (inl k) = absurd (h.0 (found k.0 w) k.1.is)
  piece_one P s v w (inr h) (inr k) = h.2 ∙ sym k.2

  module _ (D D' : Derivation (timelines rows)) where
    module _ (R R' : Step → List ℕ → Type 0) (f : Agree R R') where
      tour_agree : (P q : ℕ) (close b b' : List ℕ) → WritesTour rows l D R P q close b → WritesTour rows l D' R' P q close b' → b ≡ b'
      tour_agree P q close b b' h k = let e = along_agree (Nearest rows l P) (nearest_one P) (round_trip P q) h.0 k.0 h.1 k.1 in
          let x = h.3 in let y = k.3 in
          x.2 ∙ (ap (λ (i : List ℕ). text "(" ++ (i ++ close)) (writes_agree R R' f h.0 x.0 y.0 x.1 (subst (λ (T : Walk). WritesWalk R' T y.0) (sym e) y.1)) ∙ sym y.2)

      pieces_agree : (P : ℕ) (b b' : List ℕ) → WritesPieces rows l D R P b → WritesPieces rows l D' R' P b' → b ≡ b'
      pieces_agree P b b' h k = let e = each_agree (PieceFor rows l P) (PieceFor rows l P) (piece_one P) (members P) h.0 k.0 h.1 k.1 in
          let x = h.3 in let y = k.3 in
          x.2 ∙ (ap (λ (i : List (List ℕ)). text "sh(" ++ (joined 44 i ++ text ")"))
          (each_agree (WritesWalk R) (WritesWalk R') (writes_agree R R' f) h.0 x.0 y.0 x.1 (subst (λ (ps : List Walk). Each (WritesWalk R') ps y.0) (sym e) y.1)) ∙ sym y.2)

      part_agree : (p : ℕ) (x : Label) (q : ℕ) (b b' : List ℕ) → Part rows l D R p x q b → Part rows l D' R' p x q b' → b ≡ b'
      part_agree p (letter a) q b b' h k = h ∙ sym k
      part_agree p (ω P) q b b' h k = tour_agree P p (text ")w") b b' h k
      part_agree p (back P) q b b' h k = tour_agree P q (text ")v") b b' h k
      part_agree p (mix P) q b b' h k = pieces_agree P b b' h k

    spells_agree : (n : ℕ) → Agree (Spells rows l D n) (Spells rows l D' n)
    unfolding Spells
    spells_agree zero t b b' h k = part_agree (λ s c. ⊥) (λ s c. ⊥) (λ s c c' x y. absurd x) t.from t.label t.to b b' h k
    spells_agree (suc n) t b b' h k = part_agree (Spells rows l D n) (Spells rows l D' n) (spells_agree n) t.from t.label t.to b b' h k

-- two that tell the walk are one
pub tells_one : (m : Machine) (b b' : List ℕ) → TellsWalk m b → TellsWalk m b' → b ≡ b'
tells_one m b b' h k = let e = best_unique m.rows (open_claims m) h.told k.told h.best k.best in
    writes_agree (Spells m.rows m.openings h.derivation m.rounds) (Spells m.rows m.openings k.derivation m.rounds)
    (spells_agree m.rows m.openings h.derivation k.derivation m.rounds) h.told.walk b b' h.spelled
    (subst (λ (f : Found). WritesWalk (Spells m.rows m.openings k.derivation m.rounds) f.walk b') (sym e) k.spelled)

-- The walks between any two states of a set, by way of the states between, are stretches of the tour from any state, gone round (`stretch`).
use Prim.Native.Nat.{ℕ}
use mathlib.Core.Path.{◌≡◌, ap, sym, ◌∙◌}
use mathlib.Core.Logic.{⊎_elim}
use mathlib.Core.List.Memᴰ
use mathlib.Core.List.{List, [], ◌∷◌, ◌++◌, append_assoc, append-nil}
use Rattle.lists.specs.Tests.{◌among◌}
use Rattle.lists.proofs.Deciding.{map_in, map_out, gather_out}
use Rattle.masks.specs.Mask.{◌∈◌}
use Rattle.orderings.specs.Steps.{members, Walk}
use Rattle.orderings.proofs.Timelines.{members_iff}
use Rattle.machine.specs.Word.{round_trip}
use Rattle.machine.specs.Expression.{along}
use Rattle.machine.proofs.Tours.{legs, stretches}
use Rattle.machine.proofs.Turning.{Turned, tour_turned}

-- a walk that is turned stands within the walk, gone twice
turned_twice : (T U w x : Walk) → Turned T U → U ≡ w ++ x → (u : Walk) × (v : Walk) × (T ++ T ≡ u ++ (w ++ v))
turned_twice T U w x t e = let a = t.0 in let b = t.1 in (
  a,
  x ++ b,
  rw t.2 (append_assoc a b (a ++ b) ∙ ap (λ (y : Walk). a ++ y) (sym (append_assoc b a b) ∙ (ap (λ (y : Walk). y ++ b) (sym t.3 ∙ e) ∙ append_assoc w x b))),
)

module _ (f : ℕ → ℕ → Walk) where
  -- each leg is a beginning of the whole way
  legs_begin : (k : List ℕ) (w : Walk) → w among legs f k → (x : Walk) × (along f k ≡ w ++ x)
  legs_begin [] w m = absurd (Memᴰ.not-nil m)
  legs_begin (a ∷ []) w m = absurd (Memᴰ.not-nil m)
  legs_begin (a ∷ b ∷ k) w m = ⊎_elim (λ e. (along f (b ∷ k), ap (λ (v : Walk). v ++ along f (b ∷ k)) (sym e)))
      (λ i. let r = map_out (λ (v : Walk). f a b ++ v) w (legs f (b ∷ k)) i in let x = legs_begin (b ∷ k) r.0 r.1 in
      (x.0, ap (λ (v : Walk). f a b ++ v) x.1 ∙ (sym (append_assoc (f a b) r.0 x.0) ∙ ap (λ (v : Walk). v ++ x.0) (sym r.2)))) (Memᴰ.cases_cons m)

  -- the whole way is one of them
  pub legs_whole : (a b : ℕ) (k : List ℕ) → along f (a ∷ b ∷ k) among legs f (a ∷ b ∷ k)
  legs_whole a b [] = Memᴰ.head (append-nil (f a b))
  legs_whole a b (c ∷ k) = Memᴰ.tail (map_in (λ (v : Walk). f a b ++ v) (legs_whole b c k))

  -- each is a stretch of the tour from q, gone round
  pub stretch : (P q : ℕ) → q ∈ P → (w : Walk) → w among stretches f P → let T = along f (round_trip P q) in (u : Walk) × (v : Walk) × (T ++ T ≡ u ++ (w ++ v))
  stretch P q h w m =
      let g = gather_out (λ a. legs f (round_trip P a)) w (members P) m in
      let x = legs_begin (round_trip P g.0) w g.2 in
      turned_twice (along f (round_trip P q)) (along f (round_trip P g.0)) w x.0 (tour_turned f P q g.0 h ((members_iff P g.0).0 g.1)) x.1

-- The claims of document 01: more walks inside its set show more (`says_inside`), and finitely many walks are enough (`lawful`).
use Prim.Native.Nat.{ℕ}
use mathlib.Core.Path.{refl}
use mathlib.Core.Logic.{◌⊎◌, inl, inr, ⊎_elim, ◌↔◌}
use mathlib.Core.List.Memᴰ
use mathlib.Core.List.{List, [], ◌∷◌, ◌++◌}
use native.Mathlib.Omega.{arith}
use Rattle.lists.specs.Tests.{◌among◌, ◌part_of◌, range}
use Rattle.lists.proofs.Deciding.{test_decides, keep_decides, range_in}
use Rattle.masks.specs.Mask.{member, ◌∈◌}
use Rattle.masks.proofs.Member.{member_lt}
use Rattle.rows.specs.declared.Row.{Row}
use Rattle.orderings.specs.Steps.{Claim, loops, mixes, set_of, Walk, Inside, members}
use Rattle.orderings.specs.Claims.{Through, Piece, OnPiece, Gap, Says}
use Rattle.orderings.specs.Timelines.{timelines}
use Rattle.orderings.proofs.Depths.{Lawful}

pub members_iff : (P s : ℕ) → s among members P ↔ (s ∈ P)
unfolding members
members_iff P s = let k = keep_decides (λ s. test_decides (member s P)) (range 0 64) s in ((λ m. (k.0 m).1), λ h. k.1 (range_in 0 64 s (omega arith) (omega (arith, member_lt s P h)), h))

module _ {W W' : Walk → Type 0} (P : ℕ) (f : (w : Walk) → W w → Inside P w → W' w) where
  abbrev through_inside : (a b : ℕ) → Through W P a b → Through W' P a b
  through_inside a b t = (t.0, f _ t.1 t.3, t.2, t.3, t.4)

  abbrev piece_inside : (rows : List Row) → Piece rows W P → Piece rows W' P
  piece_inside rows k = (k.0, k.1, k.2, k.3, through_inside k.0 k.1 k.4)

  covered_inside : (rows : List Row) (s : ℕ) → OnPiece rows W P s ⊎ Gap rows P s → OnPiece rows W' P s ⊎ Gap rows P s
  covered_inside rows s = ⊎_elim (λ o. inl (piece_inside rows o.0, o.1)) inr

-- what a claim says is said of the walks inside its set
pub says_inside : {W W' : Walk → Type 0} (rows : List Row) (c : Claim) → ((w : Walk) → W w → Inside (set_of c) w → W' w) → Says rows W c → Says rows W' c
says_inside rows (loops P) f h = λ a b p q. through_inside P f a b (h a b p q)
says_inside rows (mixes P) f h = record { covered = λ s p. covered_inside P f rows s (h.covered s p); stepped = piece_inside P f rows h.stepped }

-- finitely many of the walks at hand, of which T holds
module _ (W : Walk → Type 0) where
  abbrev Few : (List Walk → Type 0) → Type 0
  Few T = (ws : List Walk) × ((w : Walk) → w among ws → W w) × T ws

  few_all : (l : List ℕ) (T : ℕ → List Walk → Type 0) → ((a : ℕ) (ws ws' : List Walk) → ws part_of ws' → T a ws → T a ws') → ((a : ℕ) → a among l → Few (T a))
      → Few (λ ws. (a : ℕ) → a among l → T a ws)
  few_all [] T up f = ([], (λ w m. absurd (Memᴰ.not-nil m)), λ a m. absurd (Memᴰ.not-nil m))
  few_all (x ∷ l) T up f = let r = few_all l T up (λ a m. f a (Memᴰ.tail m)) in let s = f x (Memᴰ.head refl) in (
    s.0 ++ r.0,
    (λ w m. ⊎_elim (s.1 w) (r.1 w) (Memᴰ.append_cases s.0 m)),
    λ a m. ⊎_elim (λ e. rw e (up x _ _ (λ w i. Memᴰ.append_left r.0 i) s.2)) (λ i. up a _ _ (λ w j. Memᴰ.append_right s.0 j) (r.2 a i)) (Memᴰ.cases_cons m),
  )

  few_of : (P : ℕ) (T : ℕ → List Walk → Type 0) → ((a : ℕ) (ws ws' : List Walk) → ws part_of ws' → T a ws → T a ws') → ((a : ℕ) → a ∈ P → Few (T a))
      → Few (λ ws. (a : ℕ) → a ∈ P → T a ws)
  few_of P T up f = let r = few_all (members P) T up (λ a m. f a ((members_iff P a).0 m)) in (r.0, r.1, λ a p. r.2 a ((members_iff P a).1 p))

  alone : (w : Walk) → W w → (v : Walk) → v among (w ∷ []) → W v
  alone w h v m = rw (Memᴰ.eq_of_singleton m) h

  -- one walk is enough for a walk through P, for a piece, for a state on a piece; none for a gap
  abbrev one_through : (P a b : ℕ) → Through W P a b → Few (λ ws. Through (λ w. w among ws) P a b)
  one_through P a b t = (t.0 ∷ [], alone t.0 t.1, (t.0, Memᴰ.head refl, t.2, t.3, t.4))

  abbrev one_piece : (rows : List Row) (P : ℕ) → Piece rows W P → Few (λ ws. Piece rows (λ w. w among ws) P)
  one_piece rows P k = let r = one_through P k.0 k.1 k.4 in (r.0, r.1, (k.0, k.1, k.2, k.3, r.2))

  one_covered : (rows : List Row) (P s : ℕ) → OnPiece rows W P s ⊎ Gap rows P s → Few (λ ws. OnPiece rows (λ w. w among ws) P s ⊎ Gap rows P s)
  one_covered rows P s = ⊎_elim
      (λ o. let r = one_piece rows P o.0 in (r.0, r.1, inl (r.2, o.1)))
      (λ g. ([], (λ w m. absurd (Memᴰ.not-nil m)), inr g))

  says_finite : (rows : List Row) (c : Claim) → Says rows W c → Few (λ ws. Says rows (λ w. w among ws) c)
  says_finite rows (loops P) h =
      let r = few_of P (λ a ws. (b : ℕ) → b ∈ P → Through (λ w. w among ws) P a b) (λ a ws ws' up g b q. through_inside P (λ w m i. up w m) a b (g b q))
      (λ a p. few_of P (λ b ws. Through (λ w. w among ws) P a b) (λ b ws ws' up. through_inside P (λ w m i. up w m) a b) (λ b q. one_through P a b (h a b p q))) in
      (r.0, r.1, λ a b p q. r.2 a p b q)
  says_finite rows (mixes P) h =
      let r = few_of P (λ s ws. OnPiece rows (λ w. w among ws) P s ⊎ Gap rows P s) (λ s ws ws' up. covered_inside P (λ w m i. up w m) rows s) (λ s p. one_covered rows P s (h.covered s p)) in
      let k = one_piece rows P h.stepped in (
        k.0 ++ r.0,
        (λ w m. ⊎_elim (k.1 w) (r.1 w) (Memᴰ.append_cases k.0 m)),
        record {
          covered = λ s p. covered_inside P (λ w m i. Memᴰ.append_right k.0 m) rows s (r.2 s p);
          stepped = piece_inside P (λ w m i. Memᴰ.append_left r.0 m) rows k.2;
        },
      )

pub lawful : (rows : List Row) → Lawful (timelines rows)
lawful rows = record { more = λ f c. says_inside rows c (λ w m i. f w m); finite = λ {W} c. says_finite W rows c }

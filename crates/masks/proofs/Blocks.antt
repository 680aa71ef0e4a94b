-- Blocks of places exchanged in a square of masks: between two masks (`low_mask`, `high_mask`), what each is then (`low_row`, `high_row`), the rows of two blocks
-- one after another (`exchanging_more`), all blocks (`blocked_more`), and all widths, which turns the square round (`halved_more`, `turned_by_blocks`).
use Prim.Native.Nat.{ℕ, ◌+◌, ◌-◌, ◌*◌, ◌/◌, ◌%◌, ◌^◌, ◌≤◌, ◌<◌}
use mathlib.Core.Path.{◌≡◌, refl, sym, ap, ap₂, subst, ◌∙◌}
use mathlib.Core.Bool.{Bool, true, false, not, ◌&&◌, ◌||◌, or-false, and-false, and-true}
use mathlib.Core.Logic.{inl, inr, ⊎_elim, ◌≢◌}
use mathlib.Core.List.{List}
use native.Mathlib.Omega.{arith}
use lib.Bits.{bit_and, bit_or}
use lib.ListN.{get_or, length, set, length-set}
use lib.Seq.{get_or-set_same, get_or-set_other}
use borrow.Author.Count.{below_more}
use borrow.Author.Tests.{eq-eqb, ne_eqb}
use Rattle.masks.specs.Mask.{member}
use Rattle.masks.specs.Blocks.{Width, one, two, four, eight, sixteen, thirty_two, LowerPlaces, LowMask, HighMask, moved, Exchanged, RowsExchanged, BlocksExchanged, FirstMasks}
use Rattle.masks.specs.Graph.{Turned}
use Rattle.masks.proofs.Member.{lt_or_le, member_and, member_or, member_difference}
use Rattle.masks.proofs.Shifting.{member_shr, member_shl, member_shl_low}
use Rattle.masks.proofs.Widths.{lower_or_upper, lower_next, upper_back, lower_back, in_lower, moved_low, moved_up, moved_down, moved_high, moved_from, moved_small, moved_split}

-- ---- two masks

module _ (low high lower b : ℕ) (w : Width b) (is : LowerPlaces b lower) where
  has_lower : (t : ℕ) → t < 64 → t / b % 2 ≡ 0 → member t lower ≡ true
  has_lower t h e = is t h ∙ eq-eqb (t / b % 2) 0 e

  no_upper : (t : ℕ) → t < 64 → t / b % 2 ≡ 1 → member t lower ≡ false
  no_upper t h e = is t h ∙ ne_eqb (t / b % 2) 0 (λ q. omega arith)

  -- `(low & lower) | ((high & lower) << b)`
  pub low_mask : LowMask b low high (bit_or (bit_and low lower) ((bit_and high lower * 2 ^ b) % 2 ^ 64))
  low_mask = record {
    lower = λ t h e. all t ∙ ap₂ (λ (x y : Bool). (member t low && x) || y) (has_lower t h e) (shifted t h e) ∙ or-false (member t low && true) ∙ and-true (member t low);
    upper = λ t h e. let q = upper_back w t e in let s : t - b < 64 = omega arith in
        all t ∙ ap₂ (λ (x y : Bool). (member t low && x) || y) (no_upper t h e)
        (member_shl t b (bit_and high lower) q.0 h ∙ member_and (t - b) high lower ∙ ap (λ (x : Bool). member (t - b) high && x) (has_lower (t - b) s q.1) ∙ and-true (member (t - b) high))
        ∙ ap (λ (x : Bool). x || member (t - b) high) (and-false (member t low));
  }
    where
      all : (t : ℕ) → member t (bit_or (bit_and low lower) ((bit_and high lower * 2 ^ b) % 2 ^ 64))
          ≡ ((member t low && member t lower) || member t ((bit_and high lower * 2 ^ b) % 2 ^ 64))
      all t = member_or t (bit_and low lower) ((bit_and high lower * 2 ^ b) % 2 ^ 64)
          ∙ ap (λ (x : Bool). x || member t ((bit_and high lower * 2 ^ b) % 2 ^ 64)) (member_and t low lower)

      -- what comes from below a lower block is none
      shifted : (t : ℕ) → t < 64 → t / b % 2 ≡ 0 → member t ((bit_and high lower * 2 ^ b) % 2 ^ 64) ≡ false
      shifted t h e = ⊎_elim (λ l. member_shl_low t b (bit_and high lower) l h)
          (λ (l : b ≤ t). let s : t - b < 64 = omega arith in member_shl t b (bit_and high lower) l h ∙ member_and (t - b) high lower
          ∙ ap (λ (x : Bool). member (t - b) high && x) (no_upper (t - b) s (lower_back w t l e)) ∙ and-false (member (t - b) high))
          (lt_or_le t b)

  -- `((low >> b) & lower) | (high & !lower)`
  pub high_mask : lower < 2 ^ 64 → HighMask b low high (bit_or (bit_and (low / 2 ^ b) lower) (bit_and high (2 ^ 64 - 1 - lower)))
  high_mask fits = record {
    lower = λ t h e. all t ∙ ap (λ (x : Bool). (member t (low / 2 ^ b) && x) || (member t high && not x)) (has_lower t h e)
        ∙ ap₂ (λ (x y : Bool). x || y) (and-true (member t (low / 2 ^ b))) (and-false (member t high)) ∙ or-false (member t (low / 2 ^ b))
        ∙ member_shr t b low (lower_next w t h e).0;
    upper = λ t h e. all t ∙ ap (λ (x : Bool). (member t (low / 2 ^ b) && x) || (member t high && not x)) (no_upper t h e)
        ∙ ap₂ (λ (x y : Bool). x || y) (and-false (member t (low / 2 ^ b))) (and-true (member t high));
  }
    where
      all : (t : ℕ) → member t (bit_or (bit_and (low / 2 ^ b) lower) (bit_and high (2 ^ 64 - 1 - lower)))
          ≡ ((member t (low / 2 ^ b) && member t lower) || (member t high && not (member t lower)))
      all t = member_or t (bit_and (low / 2 ^ b) lower) (bit_and high (2 ^ 64 - 1 - lower))
          ∙ ap₂ (λ (x y : Bool). x || y) (member_and t (low / 2 ^ b) lower) (member_difference t high lower fits)

-- ---- what a mask of the square is then

module _ (b : ℕ) (w : Width b) (old : List ℕ) (k : ℕ) (small : k < 64) (e : k / b % 2 ≡ 0) where
  abbrev at : (i j : ℕ) → Bool
  at i j = member j (get_or old i 0)

  pub low_row : (r : ℕ) → LowMask b (get_or old k 0) (get_or old (k + b) 0) r → Exchanged b old k r
  low_row r is j h = ⊎_elim
      (λ f. is.lower j h f ∙ ap₂ at (sym (moved_low b k j e f)) (sym (moved_low b j k f e)))
      (λ f. is.upper j h f ∙ ap₂ at (sym (moved_up b k j e f)) (sym (moved_down b j k f e))) (lower_or_upper b j)

  pub high_row : (r : ℕ) → HighMask b (get_or old k 0) (get_or old (k + b) 0) r → Exchanged b old (k + b) r
  high_row r is j h = let g = (lower_next w k small e).1 in let back : k ≡ k + b - b = omega arith in ⊎_elim
      (λ f. is.lower j h f ∙ ap₂ at (back ∙ sym (moved_down b (k + b) j g f)) (sym (moved_up b j (k + b) f g)))
      (λ f. is.upper j h f ∙ ap₂ at (sym (moved_high b (k + b) j (omega arith) g f)) (sym (moved_high b j (k + b) (upper_back w j f).0 f g))) (lower_or_upper b j)

-- ---- the rows of two blocks, one after another

-- the first i rows of both are done
pub record Exchanging (b g : ℕ) (old : List ℕ) (i : ℕ) (new : List ℕ) : Type 0 where
  pub length_is : length new ≡ length old
  pub lows : length old ≡ 64 → (k : ℕ) → k < i → Exchanged b old (g + k) (get_or new (g + k) 0)
  pub highs : length old ≡ 64 → (k : ℕ) → k < i → Exchanged b old (g + b + k) (get_or new (g + b + k) 0)
  pub others : (k : ℕ) → (g ≤ k → k < g + i → ⊥) → (g + b ≤ k → k < g + b + i → ⊥) → get_or new k 0 ≡ get_or old k 0

module _ (b g : ℕ) (old : List ℕ) where
  pub exchanging_start : Exchanging b g old 0 old
  exchanging_start = record { length_is = refl; lows = λ e k h. absurd (omega arith); highs = λ e k h. absurd (omega arith); others = λ k f h. refl }

  pub exchanging_more : (i : ℕ) (new : List ℕ) (v u : ℕ) → Width b → g % (2 * b) ≡ 0 → g + 2 * b ≤ 64 → i < b → Exchanging b g old i new
      → LowMask b (get_or new (g + i) 0) (get_or new (g + b + i) 0) v → HighMask b (get_or new (g + i) 0) (get_or new (g + b + i) 0) u
      → Exchanging b g old (i + 1) (set (set new (g + i) v) (g + b + i) u)
  exchanging_more i new v u w even fits l now is_v is_u = record {
    length_is = length-set (set new (g + i) v) (g + b + i) u ∙ length-set new (g + i) v ∙ now.length_is;
    lows = λ e. below_more _ i (λ k h. subst (Exchanged b old (g + k)) (sym (same (g + k) (λ q. omega arith) (λ q. omega arith))) (now.lows e k h))
        (subst (Exchanged b old (g + i)) (sym (get_or-set_other (set new (g + i) v) (g + b + i) (g + i) u 0 (λ q. omega arith)
        ∙ get_or-set_same new (g + i) v 0 (omega (arith, now.length_is, e)))) (low_row b w old (g + i) (omega arith) lower v low));
    highs = λ e. below_more _ i (λ k h. subst (Exchanged b old (g + b + k)) (sym (same (g + b + k) (λ q. omega arith) (λ q. omega arith))) (now.highs e k h))
        (subst (Exchanged b old (g + b + i)) (sym (get_or-set_same (set new (g + i) v) (g + b + i) u 0 (omega (arith, length-set new (g + i) v, now.length_is, e))))
        (subst (λ (x : ℕ). Exchanged b old x u) turn (high_row b w old (g + i) (omega arith) lower u high)));
    others = λ k f h. same k (λ q. f (omega arith) (omega arith)) (λ q. h (omega arith) (omega arith)) ∙ now.others k (λ a c. f a (omega arith)) (λ a c. h a (omega arith));
  }
    where
      same : (k : ℕ) → k ≢ g + i → k ≢ g + b + i → get_or (set (set new (g + i) v) (g + b + i) u) k 0 ≡ get_or new k 0
      same k f h = get_or-set_other (set new (g + i) v) (g + b + i) k u 0 h ∙ get_or-set_other new (g + i) k v 0 f

      turn : g + i + b ≡ g + b + i
      turn = omega arith

      lower : (g + i) / b % 2 ≡ 0
      lower = in_lower w g i even l

      here : get_or new (g + i) 0 ≡ get_or old (g + i) 0
      here = now.others (g + i) (λ a c. omega arith) (λ a c. omega arith)

      there : get_or new (g + b + i) 0 ≡ get_or old (g + i + b) 0
      there = now.others (g + b + i) (λ a c. omega arith) (λ a c. omega arith) ∙ ap (λ (x : ℕ). get_or old x 0) (sym turn)

      low : LowMask b (get_or old (g + i) 0) (get_or old (g + i + b) 0) v
      low = rw (here, there) at is_v

      high : HighMask b (get_or old (g + i) 0) (get_or old (g + i + b) 0) u
      high = rw (here, there) at is_u

  pub exchanging_end : (new : List ℕ) → Exchanging b g old b new → RowsExchanged b g old new
  exchanging_end new now = record {
    length_is = now.length_is;
    rows = λ e i h l. ⊎_elim
        (λ (s : i < g + b). let q : g + (i - g) ≡ i = omega arith in subst (λ (x : ℕ). Exchanged b old x (get_or new x 0)) q (now.lows e (i - g) (omega arith)))
        (λ (s : g + b ≤ i). let q : g + b + (i - (g + b)) ≡ i = omega arith in subst (λ (x : ℕ). Exchanged b old x (get_or new x 0)) q (now.highs e (i - (g + b)) (omega arith)))
        (lt_or_le i (g + b));
    others = λ i s. now.others i (λ a c. ⊎_elim (λ x. omega arith) (λ x. omega arith) s) (λ a c. ⊎_elim (λ x. omega arith) (λ x. omega arith) s);
  }

-- ---- the blocks, one after another

-- the masks below g are done
pub record Blocked (b : ℕ) (old : List ℕ) (g : ℕ) (new : List ℕ) : Type 0 where
  pub length_is : length new ≡ length old
  pub rows : length old ≡ 64 → (i : ℕ) → i < g → Exchanged b old i (get_or new i 0)
  pub others : (i : ℕ) → g ≤ i → get_or new i 0 ≡ get_or old i 0

module _ (b : ℕ) (old : List ℕ) where
  pub blocked_start : Blocked b old 0 old
  blocked_start = record { length_is = refl; rows = λ e i h. absurd (omega arith); others = λ i h. refl }

  pub blocked_more : (g : ℕ) (new next : List ℕ) → Width b → g % (2 * b) ≡ 0 → Blocked b old g new → RowsExchanged b g new next → Blocked b old (g + 2 * b) next
  blocked_more g new next w even now is = record {
    length_is = is.length_is ∙ now.length_is;
    rows = λ e i l. ⊎_elim (λ h. subst (Exchanged b old i) (sym (is.others i (inl h))) (now.rows e i h))
        (λ h j s. is.rows (now.length_is ∙ e) i h l j s ∙ ap (member (moved b j i)) (now.others (moved b i j) (moved_from w g i j even h))) (lt_or_le i g);
    others = λ i h. is.others i (inr h) ∙ now.others i (omega arith);
  }

  pub blocked_end : (g : ℕ) (new : List ℕ) → 64 ≤ g → Blocked b old g new → BlocksExchanged b old new
  blocked_end g new h now = record { length_is = now.length_is; rows = λ e i l. now.rows e i (omega arith) }

-- ---- all widths, one after another

-- the square in which places and masks have exchanged their multiples of n
abbrev pub Halved : ℕ → List ℕ → List ℕ → Type 0
Halved n old new = (i j : ℕ) → i < 64 → j < 64 → member j (get_or new i 0) ≡ member (i / n * n + j % n) (get_or old (j / n * n + i % n) 0)

pub halved_start : (old new : List ℕ) → FirstMasks old new → Halved 64 old new
halved_start old new is i j hi hj =
    let e : i ≡ j / 64 * 64 + i % 64 = omega arith in
    let f : j ≡ i / 64 * 64 + j % 64 = omega arith in
    ap (member j) (is.masks_are i hi) ∙ ap₂ (λ (x y : ℕ). member y (get_or old x 0)) e f

pub halved_more : (b : ℕ) (old new next : List ℕ) → Width b → length new ≡ 64 → Halved (2 * b) old new → BlocksExchanged b new next → Halved b old next
halved_more b old new next w e now is i j hi hj =
    is.rows e i hi j hj ∙ now (moved b i j) (moved b j i) (moved_small w i j hi) (moved_small w j i hj)
    ∙ ap₂ (λ (x y : ℕ). member y (get_or old x 0)) (moved_split w j i) (moved_split w i j)

pub halved_end : (old new : List ℕ) → Halved 1 old new → Turned old new
halved_end old new is i j hi hj =
    let e : i / 1 * 1 + j % 1 ≡ i = omega arith in
    let f : j / 1 * 1 + i % 1 ≡ j = omega arith in
    is j i hj hi ∙ ap₂ (λ (x y : ℕ). member y (get_or old x 0)) e f

module _ (old m₀ m₁ m₂ m₃ m₄ m₅ m₆ : List ℕ) (first : FirstMasks old m₀) (x₁ : BlocksExchanged 32 m₀ m₁) (x₂ : BlocksExchanged 16 m₁ m₂)
    (x₃ : BlocksExchanged 8 m₂ m₃) (x₄ : BlocksExchanged 4 m₃ m₄) (x₅ : BlocksExchanged 2 m₄ m₅) (x₆ : BlocksExchanged 1 m₅ m₆) where
  pub turned_by_blocks : Turned old m₆
  turned_by_blocks =
      let e₁ = x₁.length_is ∙ first.length_is in
      let e₂ = x₂.length_is ∙ e₁ in
      let e₃ = x₃.length_is ∙ e₂ in
      let e₄ = x₄.length_is ∙ e₃ in
      let h₁ = halved_more 32 old m₀ m₁ thirty_two first.length_is (halved_start old m₀ first) x₁ in
      let h₂ = halved_more 16 old m₁ m₂ sixteen e₁ h₁ x₂ in
      let h₃ = halved_more 8 old m₂ m₃ eight e₂ h₂ x₃ in
      let h₄ = halved_more 4 old m₃ m₄ four e₃ h₃ x₄ in
      let h₅ = halved_more 2 old m₄ m₅ two e₄ h₄ x₅ in
      halved_end old m₆ (halved_more 1 old m₅ m₆ one (x₅.length_is ∙ e₄) h₅ x₆)

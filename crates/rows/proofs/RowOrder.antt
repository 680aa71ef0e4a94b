-- The order of rows by their bytes: rows of a lower kind come first (`kind_order`), and of two rows the first words of their keys decide, then the second
-- (`row_before`).
use Prim.Native.Nat.{ℕ, ◌<◌}
use mathlib.Core.Path.{◌≡◌, refl, sym, ◌∙◌}
use mathlib.Core.Bool.{false≢true}
use mathlib.Core.Logic.{◌⊎◌, inl, inr, ⊎_elim}
use mathlib.Core.List.{List, [], ◌∷◌}
use native.Mathlib.Omega.{arith}
use Rattle.lists.specs.Order.{◌≺◌}
use Rattle.lists.proofs.Sorting.{before_decides}
use Rattle.sorted_keys.proofs.Keys.{key_before}
use Rattle.rows.specs.declared.Row.{Row}
use Rattle.rows.specs.declared.Row.TheVariants.{Initial, Final, Successor, LeftLimit, RightLimit, Strike}
use Rattle.rows.specs.Rows.{row_bytes, Fits}
use Rattle.rows.specs.Keys.{high, low}
use Rattle.rows.proofs.Keys.{key_order}

abbrev pub row_kind : Row → ℕ
row_kind (Initial s) = 1
row_kind (Final s) = 2
row_kind (Successor p a q) = 3
row_kind (LeftLimit P q) = 4
row_kind (RightLimit q P) = 5
row_kind (Strike s) = 6

-- the first byte is the kind
kind_first : (r : Row) → (l : List ℕ) × (row_bytes r ≡ row_kind r ∷ l)
unfolding row_bytes
kind_first (Initial s) = (_, refl)
kind_first (Final s) = (_, refl)
kind_first (Successor p a q) = (_, refl)
kind_first (LeftLimit P q) = (_, refl)
kind_first (RightLimit q P) = (_, refl)
kind_first (Strike s) = (_, refl)

-- no row comes before one of a lower kind
pub kind_order : (r s : Row) → row_kind r < row_kind s → ¬ (row_bytes s ≺ row_bytes r)
kind_order r s h b =
    let x = kind_first r in
    let y = kind_first s in
    ⊎_elim (λ l. omega arith) (λ p. omega (arith, p.0)) ((before_decides (row_kind s) (row_kind r) y.0 x.0).to (rw (x.1, y.1) at b))

-- the first words decide, then the second
pub row_before : (r s : Row) → Fits r → Fits s → row_bytes r ≺ row_bytes s → (high r < high s) ⊎ ((high r ≡ high s) × (low r < low s))
row_before r s f g b =
    ⊎_elim inl (λ p. inr (p.0, ⊎_elim (λ l. l) (λ q. absurd (false≢true q.1)) ((before_decides (low r) (low s) [] []).to p.1)))
    ((before_decides (high r) (high s) (low r ∷ []) (low s ∷ [])).to (sym (key_before (high r) (low r) (high s) (low s)) ∙ sym (key_order r s f g) ∙ b))

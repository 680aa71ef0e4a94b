-- The test of two rows, and of a row that stands.
use Prim.Native.Nat.{ℕ}
use mathlib.Core.Path.{◌≡◌, refl, ap, sym, ◌∙◌}
use mathlib.Core.Bool.{cond, false≢true}
use mathlib.Core.List.{List, [], ◌∷◌}
use lib.Dec.{eqb}
use lib.ListN.{get_or}
use Rattle.lists.specs.Tests.{Decides, ◌among◌}
use Rattle.lists.proofs.Deciding.{iff_decides, and_decides, eqb_decides, has_decides}
use Rattle.rows.specs.declared.Row.{Row}
use Rattle.rows.specs.declared.Row.TheVariants.{Initial, Final, Successor, LeftLimit, RightLimit, Strike}
use Rattle.rows.specs.Rows.{numbers, same_numbers, same_row, stands?}

pub same_numbers_decides : (l m : List ℕ) → Decides (same_numbers l m) (l ≡ m)
same_numbers_decides [] [] = record { to = λ t. refl; of = λ e. refl }
same_numbers_decides [] (y ∷ m) = record { to = λ t. absurd (false≢true t); of = λ e. cc }
same_numbers_decides (x ∷ l) [] = record { to = λ t. absurd (false≢true t); of = λ e. cc }
same_numbers_decides (x ∷ l) (y ∷ m) = iff_decides (λ p. let a = p.0 in let b = p.1 in cc) (λ e. (cc, cc)) (and_decides (eqb_decides x y) (same_numbers_decides l m))

-- the row of its numbers
abbrev row_of : ℕ → List ℕ → Row
row_of k l = cond (eqb k 1) (Initial (get_or l 1 0))
    (cond (eqb k 2) (Final (get_or l 1 0))
    (cond (eqb k 3) (Successor (get_or l 1 0) (get_or l 2 0) (get_or l 3 0))
    (cond (eqb k 4) (LeftLimit (get_or l 1 0) (get_or l 2 0))
    (cond (eqb k 5) (RightLimit (get_or l 1 0) (get_or l 2 0))
    (Strike (get_or l 1 0))))))

abbrev back : List ℕ → Row
back l = row_of (get_or l 0 0) l

numbers_back : (r : Row) → back (numbers r) ≡ r
numbers_back (Initial s) = refl
numbers_back (Final s) = refl
numbers_back (Successor p a q) = refl
numbers_back (LeftLimit P q) = refl
numbers_back (RightLimit q P) = refl
numbers_back (Strike s) = refl

pub same_row_decides : (r s : Row) → Decides (same_row r s) (r ≡ s)
unfolding same_row
same_row_decides r s = iff_decides (λ e. sym (numbers_back r) ∙ (ap back e ∙ numbers_back s)) (ap numbers) (same_numbers_decides (numbers r) (numbers s))

pub stands_decides : (r : Row) (rows : List Row) → Decides (stands? r rows) (r among rows)
stands_decides r rows = has_decides same_row_decides r rows

-- Lines and texts: lines passed over (`passed_empty`, `passed_first`), and what a text after a word means (`batch_bytes`, `lent_number`, `name_held`).
use Prim.Native.Nat.{ℕ, ◌+◌, ◌/◌, ◌%◌, ◌-◌, ◌<◌, ◌≤◌}
use mathlib.Core.Path.{◌≡◌, refl, ap, sym, ◌∙◌}
use mathlib.Core.Bool.{true, false}
use mathlib.Core.List.{List, [], ◌∷◌}
use lib.Dec.{eqb}
use lib.ListN.{length, get_or, take, drop, length-append, length-drop}
use lib.Seq.{take_all, take_at, length-take-le}
use native.Mathlib.Omega.{arith}
use borrow.Author.Tests.{eq-eqb, ne_eqb, le-leb, lt-leb}
use Rattle.lists.specs.Writing.{Wrote}
use Rattle.commands.specs.declared.Change.{Change}
use Rattle.commands.specs.declared.Report.{Report}
use Rattle.commands.specs.declared.Report.TheVariants.{Print, Save, Expression}
use Rattle.commands.specs.declared.Naming.{Naming}
use Rattle.commands.specs.Digits.{digits, pairs, bytes, number_from, at_most}
use Rattle.commands.specs.Meaning.{change, report, named, unknown, bad_hex, too_long, longest, passed_over, batch, lends, with_name}
use Rattle.commands.specs.Promise.{FitsIn}

pub passed_empty : (l : List ℕ) → length l ≡ 0 → passed_over l ≡ true
unfolding passed_over
passed_empty [] h = refl
passed_empty (c ∷ l) h = absurd (omega arith)

pub passed_first : (l : List ℕ) → 0 < length l → passed_over l ≡ eqb (get_or l 0 0) 35
unfolding passed_over
passed_first [] h = absurd (omega arith)
passed_first (c ∷ l) h = refl

-- what is lent from a place on
pub rest : (k : ℕ) (l : List ℕ) → take (length l - k) (drop k l) ≡ drop k l
rest k l = take_all (length l - k) (drop k l) (omega (arith, length-drop k l))

pub batch_odd : (call : Change) (room : ℕ) (l : List ℕ) → (length l % 2 ≡ 0 → ⊥) → batch call room l ≡ bad_hex
unfolding batch pairs
batch_odd call room l h = simp (ne_eqb (length l % 2) 0 h)

pub batch_other : (call : Change) (room : ℕ) (l : List ℕ) → length l % 2 ≡ 0 → digits 16 l ≡ false → batch call room l ≡ bad_hex
unfolding batch pairs
batch_other call room l h e = simp (eq-eqb (length l % 2) 0 h, e)

pub batch_long : (call : Change) (room : ℕ) (l : List ℕ) → length l % 2 ≡ 0 → digits 16 l ≡ true → room < length l / 2 → batch call room l ≡ too_long
unfolding batch pairs
batch_long call room l h e g = simp (eq-eqb (length l % 2) 0 h, e, lt-leb (length l) (room + room) (omega arith))

pub batch_bytes : (call : Change) (room : ℕ) (l : List ℕ) → length l % 2 ≡ 0 → digits 16 l ≡ true → length l / 2 ≤ room → batch call room l ≡ change call (bytes l)
unfolding batch pairs
batch_bytes call room l h e g = simp (eq-eqb (length l % 2) 0 h, e, le-leb (length l) (room + room) (omega arith))

-- no call is lent more than 1 MB
pub longest_most : (call : Report) → longest call ≤ 1048576
longest_most Print = omega arith
longest_most Save = omega arith
longest_most Expression = omega arith

pub lent_empty : (call : Report) (l : List ℕ) → length l ≡ 0 → lends call l ≡ unknown
unfolding lends
lent_empty call [] h = refl
lent_empty call (c ∷ l) h = absurd (omega arith)

pub lent_other : (call : Report) (l : List ℕ) → digits 10 l ≡ false → lends call l ≡ unknown
unfolding lends
lent_other call [] e = refl
lent_other call (c ∷ l) e = simp e

pub lent_number : (call : Report) (l : List ℕ) → 0 < length l → digits 10 l ≡ true → lends call l ≡ report call (at_most (longest call) (number_from 0 l))
unfolding lends
lent_number call [] h e = absurd (omega arith)
lent_number call (c ∷ l) h e = simp e

pub name_long : (call : Naming) (room : ℕ) (l : List ℕ) → room < length l → with_name call room l ≡ too_long
unfolding with_name
name_long call room l h = simp (lt-leb (length l) room h)

pub nothing_held : (buffer : List ℕ) → FitsIn 0 buffer
nothing_held buffer = record { fits = omega arith; counted = refl }

pub held : (n : ℕ) (buffer : List ℕ) → n ≤ length buffer → FitsIn n buffer
held n buffer h = record { fits = h; counted = sym (length-take-le n buffer h) }

-- a name that was put at the start of the buffer
pub name_held : (call : Naming) (l old new : List ℕ) (n : ℕ) → length l ≤ length old → Wrote l old new n → FitsIn n new × (with_name call (length old) l ≡ named call (take n new))
unfolding with_name
name_held call l old new n h w =
    let e : take n new ≡ l = ap (take n) w.bytes_are ∙ take_at l (drop (length l) old) n (sym w.length_is) in
    (held n new (omega (arith, simp length-append at (ap length w.bytes_are))), rw (le-leb (length l) (length old) h, e))

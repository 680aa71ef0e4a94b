-- A sheet is at most 6,400 bytes (`sheet_short`). The text of a line has no line end in it (`verdict_visible`, `opening_visible`), and a sheet is
-- bytes (`sheet_bytes`). Where bytes begin with one such line and with another, the two are one (`line_split`).
use Prim.Native.Nat.{ℕ, ◌≤◌, ◌<◌}
use mathlib.Core.Path.{◌≡◌, refl, sym, ◌∙◌}
use mathlib.Core.Bool.{true, ◌&&◌}
use mathlib.Core.Logic.{⊎_elim}
use mathlib.Core.Option.{Option, none, some}
use mathlib.Core.List.Memᴰ
use mathlib.Core.List.{List, [], ◌∷◌, ◌++◌, append_assoc}
use lib.Dec.{ltb, leb}
use lib.ListN.{length, length-append}
use native.Mathlib.Omega.{arith}
use Rattle.lists.specs.Tests.{◌among◌, all, gather}
use Rattle.lists.proofs.Deciding.{ltb_decides, leb_decides, and_decides, all_decides, gather_out}
use Rattle.lists.proofs.Counting.{gather_length}
use Rattle.lists.proofs.Places.{split_once}
use Rattle.rows.specs.declared.Row.{Row}
use Rattle.rows.specs.Rows.{AllFit, Bytes}
use Rattle.rows.proofs.Reading.{bytes_append}
use Rattle.orderings.specs.Steps.{Claim, loops, mixes, Label, letter, ω, back, mix, Step}
use Rattle.machine.specs.declared.Verdict.{Verdict}
use Rattle.machine.specs.declared.Verdict.TheVariants.{NonEmpty, Empty}
use Rattle.machine.specs.Machine.{Opening, Machine, open_claims}
use Rattle.machine.specs.Order.{Found}
use Rattle.machine.specs.Search.{shortest}
use Rattle.machine.specs.Text.{text, set_text, number_text}
use Rattle.machine.specs.Sheet.{line, verdict_text, claim_text, label_text, verdict_line, opening_line, start_line, step_line, walk_lines, last_lines, sheet}
use Rattle.machine.proofs.Search.{shortest_some}
use Rattle.machine.proofs.Walks.{ValueFits, walk_states, walk_values, best_short}
use Rattle.machine.proofs.Text.{number_length, digits_only, hex_length, hex_digits}

-- equal lines with no line end in them, and what follows them
pub line_split : (l m r s : List ℕ) → ¬ (10 among l) → ¬ (10 among m) → line l ++ r ≡ line m ++ s → (l ≡ m) × (r ≡ s)
line_split l m r s h k e = split_once 10 l m r s h k (sym (append_assoc l (10 ∷ []) r) ∙ e ∙ append_assoc m (10 ∷ []) s)

verdict_length : (v : Verdict) (k : ℕ) → k ≤ 999 → length (verdict_line v k) ≤ 28
verdict_length NonEmpty k h = simp length-append (omega (arith, number_length 3 k (omega arith) (omega arith)))
verdict_length Empty k h = simp length-append (omega (arith, number_length 3 k (omega arith) (omega arith)))

pub claim_length : (c : Claim) → length (claim_text c) ≤ 21
claim_length (loops P) = omega (arith, hex_length 16 P)
claim_length (mixes P) = omega (arith, hex_length 16 P)

pub opening_length : (o : Opening) → o.round ≤ 999 → length (opening_line o) ≤ 31
opening_length o h = simp length-append (omega (arith, number_length 3 o.round (omega arith) (omega arith), claim_length o.claim))

start_length : (s : ℕ) → s < 64 → length (start_line s) ≤ 9
start_length s h = simp length-append (omega (arith, number_length 2 s (omega arith) (omega arith)))

label_length : (x : Label) → ValueFits x → length (label_text x) ≤ 22
label_length (letter a) h = omega (arith, number_length 3 a (omega arith) (omega arith))
label_length (ω P) h = omega (arith, hex_length 16 P)
label_length (back P) h = omega (arith, hex_length 16 P)
label_length (mix P) h = omega (arith, hex_length 16 P)

step_length : (t : Step) → ValueFits t.label → t.to < 64 → length (step_line t) ≤ 34
step_length t h k = simp length-append (omega (arith, number_length 2 t.to (omega arith) (omega arith), label_length t.label h))

module _ (rows : List Row) (l : List Claim) (fit : AllFit rows) where
  walk_length : (o : Option Found) → shortest rows l ≡ o → length (walk_lines o) ≤ 2151
  walk_length none e = omega arith
  walk_length (some f) e = let b = shortest_some rows l f e in rw length-append (omega (
    arith,
    start_length f.start (fit _ b.is.0.0),
    best_short rows l f fit b,
    gather_length step_line 34 f.walk (λ t m. step_length t (walk_values rows l f.walk fit b.is.2 t m) (walk_states rows l f.walk fit b.is.2 t m).1),
  ))

last_length : (v : Verdict) (m : Machine) → AllFit m.rows → length (last_lines v m) ≤ 2151
last_length NonEmpty m f = walk_length m.rows (open_claims m) f _ refl
last_length Empty m f = omega arith

pub sheet_short : (v : Verdict) (m : Machine) → AllFit m.rows → m.rounds ≤ 999 → length m.openings ≤ 128 → ((o : Opening) → o among m.openings → o.round ≤ 999) → length (sheet v m) ≤ 6400
unfolding sheet
sheet_short v m f k n h = omega (
  arith,
  length-append (verdict_line v m.rounds) (gather opening_line m.openings ++ last_lines v m),
  length-append (gather opening_line m.openings) (last_lines v m),
  verdict_length v m.rounds k,
  gather_length opening_line 31 m.openings (λ o i. opening_length o (h o i)),
  last_length v m f,
)

-- ---- the text of a line: bytes, none below that of a blank, so no line end

abbrev pub Visible : List ℕ → Type 0
Visible l = (b : ℕ) → b among l → (32 ≤ b) × (b < 256)

visible_append : (l m : List ℕ) → Visible l → Visible m → Visible (l ++ m)
visible_append l m h k b i = ⊎_elim (h b) (k b) (Memᴰ.append_cases l i)

-- after a text that is computed
after_text : (l m : List ℕ) → all (λ b. leb 32 b && ltb b 256) l ≡ true → Visible m → Visible (l ++ m)
after_text l m e h = visible_append l m ((all_decides (λ b. and_decides (leb_decides 32 b) (ltb_decides b 256)) l).to e) h

number_visible : (x : ℕ) → Visible (number_text x)
number_visible x b i = let d = digits_only x b i in (omega (arith, d.0), omega (arith, d.1))

set_visible : (P : ℕ) → Visible (set_text P)
set_visible P b i = let d = hex_digits 16 P b i in (omega (arith, d.0), d.1)

pub verdict_visible : (v : Verdict) (k : ℕ) → Visible (text "verdict " ++ (verdict_text v ++ (text " rounds " ++ number_text k)))
verdict_visible NonEmpty k = after_text (text "verdict nonempty rounds ") (number_text k) refl (number_visible k)
verdict_visible Empty k = after_text (text "verdict empty rounds ") (number_text k) refl (number_visible k)

claim_visible : (c : Claim) → Visible (claim_text c)
claim_visible (loops P) = after_text (text "loop ") (set_text P) refl (set_visible P)
claim_visible (mixes P) = after_text (text "mix ") (set_text P) refl (set_visible P)

pub opening_visible : (o : Opening) → Visible (text "open " ++ (number_text o.round ++ (text " " ++ claim_text o.claim)))
opening_visible o = after_text (text "open ") _ refl (visible_append (number_text o.round) _ (number_visible o.round) (after_text (text " ") (claim_text o.claim) refl (claim_visible o.claim)))

label_visible : (x : Label) → Visible (label_text x)
label_visible (letter a) = after_text (text "letter ") (number_text a) refl (number_visible a)
label_visible (ω P) = after_text (text "omega ") (set_text P) refl (set_visible P)
label_visible (back P) = after_text (text "back ") (set_text P) refl (set_visible P)
label_visible (mix P) = after_text (text "mix ") (set_text P) refl (set_visible P)

step_visible : (t : Step) → Visible (text "step " ++ (label_text t.label ++ (text " to " ++ number_text t.to)))
step_visible t = after_text (text "step ") _ refl (visible_append (label_text t.label) _ (label_visible t.label) (after_text (text " to ") (number_text t.to) refl (number_visible t.to)))

-- ---- a sheet is bytes

gather_bytes : {A : Type 0} (f : A → List ℕ) (l : List A) → ((x : A) → Bytes (f x)) → Bytes (gather f l)
gather_bytes f l h b m = let r = gather_out f b l m in h r.0 b r.2

line_bytes : (l : List ℕ) → Visible l → Bytes (line l)
line_bytes l h = bytes_append l (10 ∷ []) (λ b m. (h b m).1) (λ b m. omega (arith, Memᴰ.eq_of_singleton m))

walk_bytes : (o : Option Found) → Bytes (walk_lines o)
walk_bytes none = λ b m. absurd (Memᴰ.not-nil m)
walk_bytes (some f) = bytes_append (start_line f.start) (gather step_line f.walk)
    (line_bytes _ (after_text (text "start ") (number_text f.start) refl (number_visible f.start))) (gather_bytes step_line f.walk (λ t. line_bytes _ (step_visible t)))

last_bytes : (v : Verdict) (m : Machine) → Bytes (last_lines v m)
last_bytes NonEmpty m = walk_bytes (shortest m.rows (open_claims m))
last_bytes Empty m = λ b i. absurd (Memᴰ.not-nil i)

pub sheet_bytes : (v : Verdict) (m : Machine) → Bytes (sheet v m)
unfolding sheet
sheet_bytes v m = bytes_append (verdict_line v m.rounds) _ (line_bytes _ (verdict_visible v m.rounds))
    (bytes_append (gather opening_line m.openings) (last_lines v m) (gather_bytes opening_line m.openings (λ o. line_bytes _ (opening_visible o))) (last_bytes v m))

-- What a sheet says: a settled machine's sheet says what the machine came to (`sheet_says`), and no bytes say two things (`says_one`).
use Prim.Native.Nat.{ℕ, ◌^◌, ◌<◌}
use mathlib.Core.Path.{◌≡◌, refl, ap, sym, ◌∙◌}
use mathlib.Core.Option.{Option, none, some}
use mathlib.Core.List.Memᴰ
use mathlib.Core.List.{List, [], ◌∷◌, ◌++◌, append_assoc, append_cancel_left}
use lib.ListN.{length}
use native.Mathlib.Omega.{arith}
use Rattle.lists.specs.Tests.{◌among◌, gather}
use Rattle.lists.proofs.Places.{split_once}
use Rattle.rows.proofs.Sets.{set_fits}
use Rattle.orderings.specs.Steps.{Claim, loops, mixes, set_of}
use Rattle.orderings.specs.Timelines.{timelines}
use Rattle.orderings.proofs.Depths.{has_subject}
use Rattle.machine.specs.declared.Verdict.{Verdict}
use Rattle.machine.specs.declared.Verdict.TheVariants.{NonEmpty, Empty}
use Rattle.machine.specs.declared.Phase.TheVariants.{Settled}
use Rattle.machine.specs.Machine.{Opening, Machine, open_claims}
use Rattle.machine.specs.Order.{Found}
use Rattle.machine.specs.Search.{shortest}
use Rattle.machine.specs.Text.{text, set_text, number_text}
use Rattle.machine.specs.Sheet.{line, verdict_text, claim_text, verdict_line, opening_line, walk_lines, sheet}
use Rattle.machine.specs.WellFormed.{WellFormed}
use Rattle.machine.specs.Statements.{Said, said, SheetSays}
use Rattle.machine.proofs.Text.{number_once, digits_only, read_hex, set_reads}
use Rattle.machine.proofs.Sheet.{line_split, Visible, verdict_visible, opening_visible}
use Rattle.machine.proofs.Statements.{settled_listed}

-- equal lines, and what follows them
visible_split : (l m r s : List ℕ) → Visible l → Visible m → line l ++ r ≡ line m ++ s → (l ≡ m) × (r ≡ s)
visible_split l m r s h k = line_split l m r s (λ i. omega (arith, (h 10 i).0)) (λ i. omega (arith, (k 10 i).0))

set_once : (P Q : ℕ) → P < 256 ^ 8 → Q < 256 ^ 8 → set_text P ≡ set_text Q → P ≡ Q
set_once P Q h k e = sym (set_reads P h) ∙ ap (λ (l : List ℕ). read_hex l 0) e ∙ set_reads Q k

claim_once : (c d : Claim) → set_of c < 256 ^ 8 → set_of d < 256 ^ 8 → claim_text c ≡ claim_text d → c ≡ d
claim_once (loops P) (loops Q) h k e = ap loops (set_once P Q h k (append_cancel_left (text "loop ") (set_text P) (set_text Q) e))
claim_once (loops P) (mixes Q) h k e = let z : ◌≡◌ {A = ℕ} 108 109 = cc in absurd (omega arith)
claim_once (mixes P) (loops Q) h k e = let z : ◌≡◌ {A = ℕ} 109 108 = cc in absurd (omega arith)
claim_once (mixes P) (mixes Q) h k e = ap mixes (set_once P Q h k (append_cancel_left (text "mix ") (set_text P) (set_text Q) e))

-- ---- the lines

verdict_once : (v v' : Verdict) (k k' : ℕ) (r s : List ℕ) → verdict_line v k ++ r ≡ verdict_line v' k' ++ s → (v ≡ v') × (k ≡ k') × (r ≡ s)
verdict_once v v' k k' r s e = let p = visible_split _ _ r s (verdict_visible v k) (verdict_visible v' k') e in let q = by v v' p.0 in (q.0, q.1, p.1)
  where
    by : (v v' : Verdict) → text "verdict " ++ (verdict_text v ++ (text " rounds " ++ number_text k)) ≡ text "verdict " ++ (verdict_text v' ++ (text " rounds " ++ number_text k'))
        → (v ≡ v') × (k ≡ k')
    by NonEmpty NonEmpty e = (refl, number_once k k' (append_cancel_left (text "verdict nonempty rounds ") (number_text k) (number_text k') e))
    by NonEmpty Empty e = let z : ◌≡◌ {A = ℕ} 110 101 = cc in absurd (omega arith)
    by Empty NonEmpty e = let z : ◌≡◌ {A = ℕ} 101 110 = cc in absurd (omega arith)
    by Empty Empty e = (refl, number_once k k' (append_cancel_left (text "verdict empty rounds ") (number_text k) (number_text k') e))

-- a set is a number of eight bytes
abbrev Sets : List Opening → Type 0
Sets l = (o : Opening) → o among l → set_of o.claim < 256 ^ 8

opening_once : (o p : Opening) (r s : List ℕ) → set_of o.claim < 256 ^ 8 → set_of p.claim < 256 ^ 8 → opening_line o ++ r ≡ opening_line p ++ s → (o ≡ p) × (r ≡ s)
opening_once o p r s h k e =
    let i = visible_split _ _ r s (opening_visible o) (opening_visible p) e in
    let j = split_once 32 (number_text o.round) (number_text p.round) (claim_text o.claim) (claim_text p.claim) (λ m. omega (arith, (digits_only o.round 32 m).0)) (λ m. omega (arith, (digits_only p.round 32 m).0))
    (append_cancel_left (text "open ") _ _ i.0) in
    let a = number_once o.round p.round j.0 in
    let b = claim_once o.claim p.claim h k j.1 in
    ((λ x. record { round = a x; claim = b x }), i.1)

-- no line of a walk is one of an opening
walk_apart : (w : Option Found) (o : Opening) (r : List ℕ) → walk_lines w ≡ opening_line o ++ r → ⊥
walk_apart none o r e = omega (arith, ap length e)
walk_apart (some f) o r e = let z : ◌≡◌ {A = ℕ} 115 111 = cc in omega arith

openings_once : (l m : List Opening) (w x : Option Found) → Sets l → Sets m → gather opening_line l ++ walk_lines w ≡ gather opening_line m ++ walk_lines x → l ≡ m
openings_once [] [] w x h k e = refl
openings_once [] (p ∷ m) w x h k e = absurd (walk_apart w p _ (e ∙ append_assoc (opening_line p) (gather opening_line m) (walk_lines x)))
openings_once (o ∷ l) [] w x h k e = absurd (walk_apart x o _ (sym e ∙ append_assoc (opening_line o) (gather opening_line l) (walk_lines w)))
openings_once (o ∷ l) (p ∷ m) w x h k e =
    let i = opening_once o p _ _ (h o (Memᴰ.head refl)) (k p (Memᴰ.head refl))
    (sym (append_assoc (opening_line o) (gather opening_line l) (walk_lines w)) ∙ e ∙ append_assoc (opening_line p) (gather opening_line m) (walk_lines x)) in
    let a = i.0 in
    let b = openings_once l m w x (λ y j. h y (Memᴰ.tail j)) (λ y j. k y (Memᴰ.tail j)) i.1 in
    cc

-- ---- the sheet

-- no bytes say two things
pub says_one : {l : List ℕ} {s t : Said} → SheetSays l s → SheetSays l t → s ≡ t
says_one {l} {s} {t} h k =
    let p = verdict_once s.verdict t.verdict s.number t.number _ _ (sym h.lines ∙ k.lines) in
    let q = openings_once s.openings t.openings h.walk k.walk h.sets k.sets p.2 in
    λ x. record { verdict = p.0 x; number = p.1 x; openings = q x }

-- the walk of a sheet, if it has one
walk_of : Verdict → Machine → Option Found
walk_of NonEmpty m = shortest m.rows (open_claims m)
walk_of Empty m = none

-- a settled machine's sheet says what it came to
pub sheet_says : (m : Machine) (v : Verdict) → WellFormed m → m.phase ≡ Settled v → SheetSays (sheet v m) (said v m)
unfolding sheet walk_of
sheet_says m v w e = record {
  walk = walk_of v m;
  lines = by v;
  sets = λ o i. let d = (((settled_listed m w v e).depths o).0 i).1.0 in
      (set_fits m.rows w.table.fit (set_of o.claim) (has_subject (timelines m.rows) d.0 o.claim d.1 d.2)).1;
}
  where
    by : (v : Verdict) → sheet v m ≡ verdict_line v m.rounds ++ (gather opening_line m.openings ++ walk_lines (walk_of v m))
    by NonEmpty = refl
    by Empty = refl

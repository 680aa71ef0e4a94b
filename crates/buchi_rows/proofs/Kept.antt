-- The rows of the numbers that pass a test, from a number on (`kept_row`, `kept_past`), and how long they are; the parts of a batch, and its length.
use Prim.Native.Nat.{ℕ, suc, ◌+◌, ◌-◌, ◌*◌, ◌/◌, ◌%◌, ◌^◌, ◌≤◌, ◌<◌}
use mathlib.Core.Path.{◌≡◌, refl, ap}
use mathlib.Core.Bool.{Bool, true, false}
use mathlib.Core.List.{List, [], ◌∷◌, ◌++◌, map}
use lib.ListN.{length, length-append, length-map}
use native.Mathlib.Numerals.{add-one}
use lib.Pow.{pow_mono}
use native.Mathlib.Nat.{mul-le-mul_right}
use native.Mathlib.Omega.{arith}
use Rattle.lists.specs.Tests.{Decides, put, keep, range}
use Rattle.lists.proofs.Deciding.{iff_decides, any_decides, and_decides, test_decides, range_in, map_out}
use Rattle.lists.proofs.Places.{gather_append}
use Rattle.lists.proofs.Counting.{gather_length, keep_length, range_length}
use Rattle.masks.specs.Mask.{member, ◌∈◌}
use Rattle.masks.proofs.Member.{member_lt}
use Rattle.rows.specs.declared.Row.{Row}
use Rattle.rows.specs.declared.Row.TheVariants.{Initial, Final}
use Rattle.rows.specs.Rows.{row_bytes, batch_of}
use Rattle.buchi_rows.specs.Writing.{meet?, edge_row, edge_rows, limit_row, limit_rows, masked_rows}

-- six states have few sets
pub few_subsets : (n : ℕ) → n ≤ 6 → 2 ^ n ≤ 64
few_subsets n h = pow_mono {i = n} {j = 6} h

-- two sets have a state in common
pub meet_decides : (P Q : ℕ) → Decides (meet? P Q) ((t : ℕ) × (t ∈ P) × (t ∈ Q))
unfolding meet?
meet_decides P Q =
    iff_decides (λ r. (r.0, r.2.0, r.2.1)) (λ r. (r.0, range_in 0 64 r.0 (omega arith) (member_lt r.0 P r.1), (r.1, r.2)))
    (any_decides (λ s. and_decides (test_decides (member s P)) (test_decides (member s Q))) (range 0 64))

-- a row of an edge has four bytes, one of a set has ten
pub edge_length : (k : ℕ) → length (row_bytes (edge_row k)) ≤ 4
unfolding row_bytes
edge_length k = omega arith

pub limit_length : (P : ℕ) → length (row_bytes (limit_row P)) ≤ 10
unfolding row_bytes
limit_length P = omega arith

-- of a set of states below 6 seven bytes are 0
pub limit_bytes : (P : ℕ) → P < 64 → row_bytes (limit_row P) ≡ 4 ∷ 0 ∷ 0 ∷ 0 ∷ 0 ∷ 0 ∷ 0 ∷ 0 ∷ P ∷ 6 ∷ []
unfolding row_bytes
limit_bytes P h =
    let a : P / 256 ^ 7 % 256 ≡ 0 = omega arith in
    let b : P / 256 ^ 6 % 256 ≡ 0 = omega arith in
    let c : P / 256 ^ 5 % 256 ≡ 0 = omega arith in
    let d : P / 256 ^ 4 % 256 ≡ 0 = omega arith in
    let e : P / 256 ^ 3 % 256 ≡ 0 = omega arith in
    let f : P / 256 ^ 2 % 256 ≡ 0 = omega arith in
    let g : P / 256 ^ 1 % 256 ≡ 0 = omega arith in
    let i : P / 256 ^ 0 % 256 ≡ P = omega arith in
    rw (a, b, c, d, e, f, g, i) refl

-- the rows of those of n numbers from a on that pass
abbrev pub kept_text : (ℕ → Row) → (ℕ → Bool) → ℕ → ℕ → List ℕ
kept_text f t a n = batch_of (map f (keep t (range a n)))

abbrev piece : (ℕ → Row) → Bool → ℕ → List ℕ
piece f true k = row_bytes (f k)
piece f false k = []

kept_first : (f : ℕ → Row) (b : Bool) (k : ℕ) (l : List ℕ) → batch_of (map f (put b k l)) ≡ piece f b k ++ batch_of (map f l)
kept_first f true k l = refl
kept_first f false k l = refl

-- from a number on, up to another
kept_next : (f : ℕ → Row) (t : ℕ → Bool) (i e : ℕ) → i < e → kept_text f t i (e - i) ≡ piece f (t i) i ++ kept_text f t (i + 1) (e - (i + 1))
kept_next f t i e h =
    let n : e - i ≡ suc (e - (i + 1)) = omega arith in
    rw (n, add-one) (kept_first f (t i) i (keep t (range (suc i) (e - suc i))))

-- the number passes, or it does not
pub kept_row : (f : ℕ → Row) (t : ℕ → Bool) (i e : ℕ) → i < e → t i ≡ true → kept_text f t i (e - i) ≡ row_bytes (f i) ++ kept_text f t (i + 1) (e - (i + 1))
kept_row f t i e h p = rw p at (kept_next f t i e h)

pub kept_past : (f : ℕ → Row) (t : ℕ → Bool) (i e : ℕ) → i < e → t i ≡ false → kept_text f t i (e - i) ≡ kept_text f t (i + 1) (e - (i + 1))
kept_past f t i e h p = rw p at (kept_next f t i e h)

-- rows with at most n bytes each
pub kept_length : (f : ℕ → Row) (t : ℕ → Bool) (a k n : ℕ) → ((i : ℕ) → length (row_bytes (f i)) ≤ n) → length (kept_text f t a k) ≤ k * n
kept_length f t a k n h =
    let l : List ℕ = keep t (range a k) in
    let few : length (map f l) ≤ k = rw length-map (omega (arith, keep_length t (range a k), range_length a k)) in
    let short : length (batch_of (map f l)) ≤ length (map f l) * n = gather_length row_bytes n (map f l) (λ x m. let r = map_out f x l m in rw r.2 (h r.0)) in
    omega (arith, mul-le-mul_right n few)

-- the parts of a batch, which has at most 778 bytes
pub masked_parts : (n s m e : ℕ) → batch_of (masked_rows n s m e) ≡ row_bytes (Initial s) ++ (row_bytes (Final 6) ++ (batch_of (edge_rows e) ++ batch_of (limit_rows n m)))
unfolding masked_rows
masked_parts n s m e = ap (λ (l : List ℕ). row_bytes (Initial s) ++ (row_bytes (Final 6) ++ l)) (gather_append row_bytes (edge_rows e) (limit_rows n m))

pub masked_short : (n s m e : ℕ) → n ≤ 6 → length (batch_of (masked_rows n s m e)) ≤ 778
unfolding row_bytes edge_rows limit_rows
masked_short n s m e h =
    let edges = kept_length edge_row (λ k. member k e) 0 36 4 edge_length in
    let limits = kept_length limit_row (λ P. meet? P m) 1 (2 ^ n - 1) 10 limit_length in
    omega (arith, edges, limits, few_subsets n h, ap length (masked_parts n s m e), length-append (batch_of (edge_rows e)) (batch_of (limit_rows n m)))

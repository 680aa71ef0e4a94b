-- The openings that arrays have are those of the machine, in the order of the sheet: main law `openings_are`, from `all_ordered`, `all_open`
-- and `open_all`.
use Prim.Native.Nat.{ℕ, zero, suc, ◌+◌, ◌-◌, ◌<◌}
use mathlib.Core.Path.{◌≡◌, refl, ap, sym, ◌∙◌, subst}
use mathlib.Core.Bool.{Bool, true, false, cond}
use mathlib.Core.Logic.{◌⊎◌, inl, inr, ⊎_elim}
use mathlib.Core.List.Memᴰ
use mathlib.Core.List.{List, [], ◌∷◌, ◌++◌}
use native.Mathlib.Omega.{arith}
use native.Mathlib.Decide.{dec_lt}
use lib.Dec.{eqb}
use lib.ListN.{get_or, take}
use Rattle.lists.specs.Tests.{Decides, ◌among◌, ◌part_of◌, Once}
use Rattle.lists.specs.Order.{◌≺◌, Sorted}
use Rattle.lists.proofs.Deciding.{eqb_decides, yes_decides, no_decides}
use Rattle.lists.proofs.Places.{held_place}
use Rattle.lists.proofs.Counting.{once_append}
use Rattle.lists.proofs.Sorting.{before_decides, ≺_irreflexive, ≺_trans, sorted_append, sorted_same}
use Rattle.sorted_keys.specs.Keys.{Rising}
use Rattle.rows.specs.Rows as Rows
use Rattle.rows.proofs.Sets.{sets_iff, sets_rise}
use Rattle.orderings.specs.Steps.{Claim, loops, mixes, set_of}
use Rattle.orderings.specs.Timelines.{timelines}
use Rattle.orderings.proofs.Depths.{opens_iff_least}
use Rattle.orderings.proofs.Timelines.{lawful}
use Rattle.machine.specs.Machine.{Opening, Machine}
use Rattle.machine.specs.Expression.{round_of}
use Rattle.machine.specs.WellFormed.{Worked, WellFormed}
use Rattle.machine.specs.Statements.{loop_first, opening_key, Listed}
use Rattle.machine.proofs.Statements.{worked_listed}
use Rattle.machine.proofs.Tours.{round_found, round_is}
use Rattle.machine.proofs.Second.{opening_apart, openings_once}
use Rattle.row_table.specs.Arrays.{SetsIn}
use Rattle.row_table.proofs.Sets.{sets_in_held}
use Rattle.rounds.specs.Arrays.{rounds_of}
use Rattle.rounds.proofs.OpenClaims.{subject, round_there}
use Rattle.sheet_parts.specs.Openings.{upto, opened, opening_in, openings_at, openings_below, openings_in}

-- ---- lists one after another

upto_out : {A : Type 0} (f : ℕ → List A) (x : A) (n : ℕ) → x among upto f n → (i : ℕ) × (i < n) × x among f i
unfolding upto
upto_out f x zero m = absurd (Memᴰ.not-nil m)
upto_out f x (suc n) m = ⊎_elim (λ i. let r = upto_out f x n i in (r.0, omega (arith, r.1), r.2)) (λ i. (n, omega arith, i)) (Memᴰ.append_cases (upto f n) m)

upto_in : {A : Type 0} (f : ℕ → List A) (x : A) (i n : ℕ) → i < n → x among f i → x among upto f n
unfolding upto
upto_in f x i zero h m = absurd (omega arith)
upto_in f x i (suc n) h m = go (dec_lt i n) (λ l. upto_in f x i n l m)
  where
    go : Dec (i < n) → (i < n → x among upto f n) → x among (upto f n ++ f n)
    go (yes l) r = Memᴰ.append_left _ (r l)
    go (no l) r = let e : i ≡ n = omega arith in Memᴰ.append_right (upto f n) (subst (λ (j : ℕ). x among f j) e m)

-- in order, and none twice
abbrev Ordered : {A : Type 0} → (A → List ℕ) → List A → Type 0
Ordered key l = Sorted key l × Once l

module _ {A : Type 0} (key : A → List ℕ) where
  ordered_append : (l m : List A) → Ordered key l → Ordered key m → ((x y : A) → x among l → y among m → key x ≺ key y) → Ordered key (l ++ m)
  ordered_append l m p q f = (
    sorted_append key l m p.0 q.0 (λ x y i j h. ≺_irreflexive (key x) (≺_trans (key x) (key y) (key x) (f x y i j) h)),
    once_append l m p.1 q.1 (λ x i j. ≺_irreflexive (key x) (f x x i j)),
  )

  upto_ordered : (f : ℕ → List A) (n : ℕ) → ((i : ℕ) → i < n → Ordered key (f i)) → ((i j : ℕ) (x y : A) → i < j → j < n → x among f i → y among f j → key x ≺ key y) → Ordered key (upto f n)
  unfolding upto
  upto_ordered f zero o b = (tt, tt)
  upto_ordered f (suc n) o b = ordered_append (upto f n) (f n) (upto_ordered f n (λ i h. o i (omega arith)) (λ i j x y h l. b i j x y h (omega arith))) (o n (omega arith))
      (λ x y i j. let r = upto_out f x n i in b r.0 n x y r.1 (omega arith) r.2 j)

first_less : {x y : ℕ} (l m : List ℕ) → x < y → (x ∷ l) ≺ (y ∷ m)
first_less {x} {y} l m h = (before_decides x y l m).of (inl h)

next_less : {x y : ℕ} (l m : List ℕ) → x ≡ y → l ≺ m → (x ∷ l) ≺ (y ∷ m)
next_less {x} {y} l m e h = (before_decides x y l m).of (inr (e, h))

-- by round, then by set
round_less : (x y : Opening) → x.round < y.round → opening_key x ≺ opening_key y
round_less x y h = first_less (set_of x.claim ∷ loop_first x.claim ∷ []) (set_of y.claim ∷ loop_first y.claim ∷ []) h

set_less : (x y : Opening) → x.round ≡ y.round → set_of x.claim < set_of y.claim → opening_key x ≺ opening_key y
set_less x y e h = next_less (set_of x.claim ∷ loop_first x.claim ∷ []) (set_of y.claim ∷ loop_first y.claim ∷ []) e (first_less (loop_first x.claim ∷ []) (loop_first y.claim ∷ []) h)

-- ---- openings

in_out : (k round : ℕ) (c : Claim) (o : Opening) → o among opening_in k round c → (round ≡ k) × (o ≡ opened k c)
unfolding opening_in
in_out k round c o m = go (eqb round k) (eqb_decides round k) m
  where
    go : (b : Bool) → Decides b (round ≡ k) → o among cond b (opened k c ∷ []) [] → (round ≡ k) × (o ≡ opened k c)
    go true d i = (yes_decides d, Memᴰ.eq_of_singleton i)
    go false d i = absurd (Memᴰ.not-nil i)

in_in : (k round : ℕ) (c : Claim) → round ≡ k → opened k c among opening_in k round c
unfolding opening_in
in_in k round c e = go (eqb round k) (eqb_decides round k)
  where
    go : (b : Bool) → Decides b (round ≡ k) → opened k c among cond b (opened k c ∷ []) []
    go true d = Memᴰ.head refl
    go false d = absurd (no_decides d e)

in_ordered : (k round : ℕ) (c : Claim) → Ordered opening_key (opening_in k round c)
unfolding opening_in
in_ordered k round c = go (eqb round k)
  where
    go : (b : Bool) → Ordered opening_key (cond b (opened k c ∷ []) [])
    go true = (((λ y m. absurd (Memᴰ.not-nil m)), tt), ((λ m. Memᴰ.not-nil m), tt))
    go false = (tt, tt)

-- ---- at the places of arrays

module _ (loop-rounds mix-rounds sets : List ℕ) where
  abbrev at : ℕ → ℕ → List Opening
  at k i = openings_at loop-rounds mix-rounds sets k i

  at_out : (k i : ℕ) (o : Opening) → o among at k i
      → ((get_or loop-rounds i 0 ≡ k) × (o ≡ opened k (loops (get_or sets i 0)))) ⊎ ((get_or mix-rounds i 0 ≡ k) × (o ≡ opened k (mixes (get_or sets i 0))))
  at_out k i o m = ⊎_elim (λ j. inl (in_out k (get_or loop-rounds i 0) (loops (get_or sets i 0)) o j)) (λ j. inr (in_out k (get_or mix-rounds i 0) (mixes (get_or sets i 0)) o j))
      (Memᴰ.append_cases (opening_in k (get_or loop-rounds i 0) (loops (get_or sets i 0))) m)

  at_round : (k i : ℕ) (o : Opening) → o among at k i → o.round ≡ k
  at_round k i o m = ⊎_elim (λ p. ap (λ (q : Opening). q.round) p.1) (λ p. ap (λ (q : Opening). q.round) p.1) (at_out k i o m)

  at_set : (k i : ℕ) (o : Opening) → o among at k i → set_of o.claim ≡ get_or sets i 0
  at_set k i o m = ⊎_elim (λ p. ap (λ (q : Opening). set_of q.claim) p.1) (λ p. ap (λ (q : Opening). set_of q.claim) p.1) (at_out k i o m)

  at_ordered : (k i : ℕ) → Ordered opening_key (at k i)
  at_ordered k i = ordered_append opening_key _ _ (in_ordered k (get_or loop-rounds i 0) (loops (get_or sets i 0))) (in_ordered k (get_or mix-rounds i 0) (mixes (get_or sets i 0)))
      (λ x y p q. let P = get_or sets i 0 in
      rw ((in_out k (get_or loop-rounds i 0) (loops P) x p).1, (in_out k (get_or mix-rounds i 0) (mixes P) y q).1) (next_less {x = k} (P ∷ 0 ∷ []) (P ∷ 1 ∷ []) refl (next_less {x = P} (0 ∷ []) (1 ∷ []) refl (first_less {x = 0} {y = 1} [] [] (omega arith)))))

  module _ (n : ℕ) (rise : Rising sets n) where
    below_ordered : (k : ℕ) → Ordered opening_key (openings_below loop-rounds mix-rounds sets n k)
    below_ordered k = upto_ordered opening_key (at k) n (λ i h. at_ordered k i) (λ i j x y h l p q.
        set_less x y (at_round k i x p ∙ sym (at_round k j y q)) (omega (arith, at_set k i x p, at_set k j y q, rise i j h l)))

    in_round : (k : ℕ) (o : Opening) → o among openings_below loop-rounds mix-rounds sets n k → o.round ≡ k
    in_round k o m = let r = upto_out (at k) o n m in at_round k r.0 o r.2

    all_ordered : (rounds : ℕ) → Ordered opening_key (openings_in loop-rounds mix-rounds sets n rounds)
    all_ordered rounds = upto_ordered opening_key _ rounds (λ k h. below_ordered (k + 1)) (λ i j x y h l p q.
        round_less x y (omega (arith, in_round (i + 1) x p, in_round (j + 1) y q)))

-- ---- the arrays of a machine

module _ (m : Machine) (sets : List ℕ) (n : ℕ) (w : SetsIn m.rows sets n) where
  abbrev there : ℕ → ℕ → List Opening
  there = at (rounds_of m loops) (rounds_of m mixes) sets

  abbrev all : ℕ → List Opening
  all = openings_in (rounds_of m loops) (rounds_of m mixes) sets n

  held : take n sets ≡ Rows.standing_sets m.rows
  held = sets_in_held m.rows sets n w

  -- at a place stands the round of the claim about its set
  round_here : (claim : ℕ → Claim) (i : ℕ) → i < n → get_or (rounds_of m claim) i 0 ≡ round_of m.openings (claim (get_or sets i 0))
  round_here = round_there m sets n held w.count

  -- where it is not 0 it is that of an opening
  open_there : (claim : ℕ → Claim) (i k : ℕ) (o : Opening) → i < n → get_or (rounds_of m claim) i 0 ≡ k + 1 → o ≡ opened (k + 1) (claim (get_or sets i 0)) → o among m.openings
  open_there claim i k o h e f = let c = claim (get_or sets i 0) in let r = round_here claim i h in
      ⊎_elim (λ p. absurd (omega (arith, p.1, r, e))) (λ j. subst (λ (x : Opening). x among m.openings) (ap (λ (q : ℕ). opened q c) (sym r ∙ e) ∙ sym f) j) (round_found c m.openings)

  all_open : (rounds : ℕ) → all rounds part_of m.openings
  all_open rounds o i =
      let r = upto_out (λ k. openings_below (rounds_of m loops) (rounds_of m mixes) sets n (k + 1)) o rounds i in
      let q = upto_out (there (r.0 + 1)) o n r.2 in
      ⊎_elim
      (λ p. open_there loops q.0 r.0 o q.1 p.0 p.1)
      (λ p. open_there mixes q.0 r.0 o q.1 p.0 p.1)
      (at_out (rounds_of m loops) (rounds_of m mixes) sets (r.0 + 1) q.0 o q.2)

  module _ (d : Listed m) where
    -- the round of an opening stands at the place of its set
    place_round : (claim : ℕ → Claim) (o : Opening) (i : ℕ) → o among m.openings → i < n → o.claim ≡ claim (get_or sets i 0) → get_or (rounds_of m claim) i 0 ≡ o.round
    place_round claim o i j h e = round_here claim i h ∙ ap (round_of m.openings) (sym e) ∙ round_is m.openings d.once o j

    at_place_in : (o : Opening) (c : Claim) (i : ℕ) → o among m.openings → i < n → set_of c ≡ get_or sets i 0 → o.claim ≡ c → o among there o.round i
    at_place_in o (loops P) i j h e f = let g = f ∙ ap loops e in
        subst (λ (x : Opening). x among there o.round i) (ap (opened o.round) (sym g))
        (Memᴰ.append_left _ (in_in o.round (get_or (rounds_of m loops) i 0) (loops (get_or sets i 0)) (place_round loops o i j h g)))
    at_place_in o (mixes P) i j h e f = let g = f ∙ ap mixes e in
        subst (λ (x : Opening). x among there o.round i) (ap (opened o.round) (sym g))
        (Memᴰ.append_right (opening_in o.round (get_or (rounds_of m loops) i 0) (loops (get_or sets i 0))) (in_in o.round (get_or (rounds_of m mixes) i 0) (mixes (get_or sets i 0)) (place_round mixes o i j h g)))

    open_all : m.openings part_of all m.rounds
    open_all o i =
        let t = (d.depths o).0 i in
        let s = subject m.rows o.round o.claim ((opens_iff_least (timelines m.rows) (lawful m.rows) o.round o.claim).1 t.1) in
        let p = held_place n sets (set_of o.claim) (subst (λ (l : List ℕ). set_of o.claim among l) (sym held) ((sets_iff m.rows (set_of o.claim)).1 s.1)) in
        let k : o.round ≡ o.round - 1 + 1 = omega (arith, s.0) in
        let j = at_place_in o o.claim p.0 i p.1 p.2 refl in
        upto_in (λ k. openings_below (rounds_of m loops) (rounds_of m mixes) sets n (k + 1)) o (o.round - 1) m.rounds (omega (arith, s.0, t.0))
        (upto_in (there (o.round - 1 + 1)) o p.0 n p.1 (subst (λ (x : ℕ). o among there x p.0) k j))

    listed_are : all m.rounds ≡ m.openings
    listed_are = let a = all_ordered (rounds_of m loops) (rounds_of m mixes) sets n (sets_rise m.rows sets n held w.count) m.rounds in
        sorted_same opening_key _ _ (λ x y i j. opening_apart x y) a.0 d.order a.1 (openings_once m.openings d.once) (all_open m.rounds) open_all

-- the arrays of a machine have its openings, as its sheet lists them
pub openings_are : (m : Machine) → WellFormed m → Worked m → (sets : List ℕ) (n : ℕ) → SetsIn m.rows sets n → openings_in (rounds_of m loops) (rounds_of m mixes) sets n m.rounds ≡ m.openings
openings_are m w k sets n is = listed_are m sets n is (worked_listed m w k)

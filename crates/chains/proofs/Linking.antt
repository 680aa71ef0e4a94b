-- Chains that grow by a place (`none_chained`, `chains_more`), and what a search along one says of all places (`sought_none`, `sought_place`).
use Prim.Native.Nat.{ℕ, zero, suc, ◌+◌, ◌≤◌, ◌<◌}
use mathlib.Core.Path.{◌≡◌, refl, ap, sym, ◌∙◌, subst}
use mathlib.Core.Logic.{◌⊎◌, inl, inr, ◌≢◌}
use mathlib.Core.List.{List}
use native.Mathlib.Omega.{arith}
use native.Mathlib.Numerals.{add-one}
use lib.ListN.{length, get_or, set, replicate}
use lib.Seq.{get_or-set_same, get_or-set_other}
use Rattle.std.specs.Prelude.{None, Some}
use Rattle.lists.proofs.Deciding.{eqb_decides, ltb_decides, dec_decides}
use Rattle.chains.specs.Chains.{Chained, here, on, Falls, Sought, Chains}

-- ---- one chain

-- no place stands in the chain that has none
pub chained_none : {next : List ℕ} {i : ℕ} → ¬ (Chained next 0 i)
chained_none {next} {i} c = go c refl
  where
    go : {l : ℕ} → Chained next l i → l ≡ 0 → ⊥
    go here e = omega arith
    go (on c) e = omega arith

-- the place that a link leads to, or a place further on
pub chained_cases : {next : List ℕ} {j i : ℕ} → Chained next (suc j) i → (i ≡ j) ⊎ Chained next (get_or next j 0) i
chained_cases {next} {j} {i} c = go c refl
  where
    go : {l : ℕ} → Chained next l i → l ≡ suc j → (i ≡ j) ⊎ Chained next (get_or next j 0) i
    go here e = inl (omega arith)
    go (on {j = k} c) e = let f : k ≡ j = omega arith in inr (subst (λ x. Chained next (get_or next x 0) i) f c)

-- another array with the same links below n
chained_as : {next new : List ℕ} (n : ℕ) → ((j : ℕ) → j < n → get_or new j 0 ≡ get_or next j 0) → Falls next n → {l i : ℕ} → l ≤ n → Chained next l i → Chained new l i
chained_as n same falls h here = here
chained_as {next} {new} n same falls h (on {i} {j} c) =
    on (subst (λ x. Chained new x i) (sym (same j (omega arith))) (chained_as n same falls (omega (arith, falls j (omega arith))) c))

-- ---- all chains

zeros : (n i : ℕ) → ◌≡◌ {A = ℕ} (get_or (replicate n 0) i 0) 0
zeros zero i = refl
zeros (suc n) zero = refl
zeros (suc n) (suc i) = zeros n i

pub none_chained : (key : ℕ → ℕ) (size : ℕ) (next words : List ℕ) → Chains key (replicate size 0) next words 0
none_chained key size next words = record { falls = λ i h. absurd (omega arith); heads_few = λ h. omega (arith, zeros size h); stands = λ i h. absurd (omega arith) }

module _ {key : ℕ → ℕ} {heads next words : List ℕ} {n : ℕ} (c : Chains key heads next words n) where
  -- other words with the same beginning
  pub chains_words : (new : List ℕ) → ((i : ℕ) → i < n → get_or new i 0 ≡ get_or words i 0) → Chains key heads next new n
  chains_words new same = record { falls = c.falls; heads_few = c.heads_few; stands = λ i h. rw (same i h) (c.stands i h) }

  -- the place n is put into the chain h, which is that of its word
  pub chains_more : (h : ℕ) → h < length heads → n < length next → key (get_or words n 0) ≡ h → {heads' next' : List ℕ} → next' ≡ set next n (get_or heads h 0) → heads' ≡ set heads h (n + 1)
      → Chains key heads' next' words (n + 1)
  chains_more h room long is e f = rw (e, f) (record { falls = falls; heads_few = few; stands = λ i l. by i (dec_decides (ltb_decides i n)) l (dec_decides (eqb_decides (key (get_or words i 0)) h)) })
    where
      then : List ℕ
      then = set next n (get_or heads h 0)

      linked : get_or then n 0 ≡ get_or heads h 0
      linked = get_or-set_same next n (get_or heads h 0) 0 long

      kept : (j : ℕ) → j < n → get_or then j 0 ≡ get_or next j 0
      kept j l = get_or-set_other next n j (get_or heads h 0) 0 (λ q. omega arith)

      newest : get_or (set heads h (n + 1)) h 0 ≡ suc n
      newest = get_or-set_same heads h (n + 1) 0 room ∙ add-one n

      other : (g : ℕ) → g ≢ h → get_or (set heads h (n + 1)) g 0 ≡ get_or heads g 0
      other g m = get_or-set_other heads h g (n + 1) 0 m

      falls : Falls then (n + 1)
      falls j l = at (dec_decides (ltb_decides j n))
        where
          at : Dec (j < n) → get_or then j 0 ≤ j
          at (yes m) = omega (arith, kept j m, c.falls j m)
          at (no m) = let q : j ≡ n = omega arith in rw q (omega (arith, linked, c.heads_few h))

      few : (g : ℕ) → get_or (set heads h (n + 1)) g 0 ≤ n + 1
      few g = at (dec_decides (eqb_decides g h))
        where
          at : Dec (g ≡ h) → get_or (set heads h (n + 1)) g 0 ≤ n + 1
          at (yes q) = rw q (omega (arith, newest))
          at (no m) = omega (arith, other g m, c.heads_few g)

      before : (g i : ℕ) → Chained next (get_or heads g 0) i → Chained then (get_or heads g 0) i
      before g i s = chained_as n kept c.falls (c.heads_few g) s

      by : (i : ℕ) → Dec (i < n) → i < n + 1 → Dec (key (get_or words i 0) ≡ h) → Chained then (get_or (set heads h (n + 1)) (key (get_or words i 0)) 0) i
      by i (yes l) m (no q) = rw (other (key (get_or words i 0)) q) (before (key (get_or words i 0)) i (c.stands i l))
      by i (yes l) m (yes q) = rw (q, newest) (on (subst (λ (y : ℕ). Chained then y i) (sym linked) (before h i (rw q at (c.stands i l)))))
      by i (no l) m d = let q : i ≡ n = omega arith in rw (q, is, newest) here

  -- what a search along the chain of x says of all places
  module _ {x : ℕ} where
    pub sought_none : Sought words next (get_or heads (key x) 0) x None → (i : ℕ) → i < n → get_or words i 0 ≢ x
    sought_none s i l q = s i (rw (ap key q) at (c.stands i l)) q

    pub sought_place : {i : ℕ} → Sought words next (get_or heads (key x) 0) x (Some i) → (i < n) × (get_or words i 0 ≡ x)
    sought_place s = (omega (arith, s.0, c.heads_few (key x)), s.1)

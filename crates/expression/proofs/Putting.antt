-- Texts written from a place on where they fit: nothing (`puts_none`), one (`puts_wrote`, `puts_over`), one after another (`puts_more`).
use Prim.Native.Nat.{ℕ, ◌+◌, ◌≤◌}
use mathlib.Core.Path.{◌≡◌, refl}
use mathlib.Core.List.{List, [], ◌++◌}
use lib.ListN.{length, length-append}
use native.Mathlib.Omega.{arith}
use Rattle.lists.specs.Writing.{WroteAt}
use Rattle.lists.proofs.Writing.{wrote_at_none, wrote_at_more}
use Rattle.expression.specs.Promise.{PutsAt}

pub puts_none : (old : List ℕ) (at : ℕ) → PutsAt [] old old at at
puts_none old at = record { length_is = refl; within = λ h. h; written = λ h. wrote_at_none old at }

-- there was room
pub puts_wrote : (text old new : List ℕ) (at next : ℕ) → length new ≡ length old → at + length text ≤ length old → WroteAt text old new at next → PutsAt text old new at next
puts_wrote text old new at next e h w = record { length_is = e; within = λ i. omega (arith, w.place_is); written = λ i. w }

-- there was none
pub puts_over : (text old : List ℕ) (at : ℕ) → ¬ (at + length text ≤ length old) → PutsAt text old old at at
puts_over text old at n = record { length_is = refl; within = λ h. h; written = λ h. absurd (n h) }

pub puts_more : (t u old mid new : List ℕ) (a b c : ℕ) → PutsAt t old mid a b → PutsAt u mid new b c → PutsAt (t ++ u) old new a c
puts_more t u old mid new a b c p q = record {
  length_is = omega (arith, p.length_is, q.length_is);
  within = λ h. q.within (p.within h);
  written = λ h. let n = length-append t u in let v = p.written (omega arith) in
      wrote_at_more t u old mid new v (q.written (omega (arith, v.place_is, p.length_is)));
}

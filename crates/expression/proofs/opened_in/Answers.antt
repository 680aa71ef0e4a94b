-- `opened_in` meets its contract: the two lists are copied into the halves of one.
use Prim.Native.Nat.{ℕ}
use mathlib.Core.Path.{◌≡◌}
use mathlib.Core.List.{List, [], ◌++◌, append-nil}
use lib.ListN.{length, take, drop, length-append, length-drop, length-replicate, replicate, drop_of_length-le}
use lib.Seq.{take_at}
use native.Mathlib.Omega.{arith}
use borrow.Rule.Slice.PartMut.{put_mid}
use Rattle.expression.proofs.opened_in.Goals as goal

-- the halves of a list of 128 numbers
joined : (z first second xs ys : List ℕ) → length z ≡ 128 → length xs ≡ 64 → xs ≡ first → ys ≡ second → put_mid 64 64 (xs ++ drop 64 z) ys ≡ first ++ second
joined z first second xs ys l e p q =
    let front : take 64 (xs ++ drop 64 z) ≡ xs = take_at xs (drop 64 z) 64 e in
    let none : drop 64 (drop 64 (xs ++ drop 64 z)) ≡ [] = drop_of_length-le (drop 64 (xs ++ drop 64 z)) {i = 64} (simp (length-drop, length-append) (omega (arith, l, e))) in
    rw (front, none, append-nil, p, q)

pub returns : goal.returns
returns c e f = let g = c.write_over.ensures in joined (replicate 128 0) _ _ _ _ (length-replicate {A = ℕ} 128 0) g.len g.after c.write_over-2.ensures.after

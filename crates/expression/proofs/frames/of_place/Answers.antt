-- `expression::frames::of_place` meets its contract.
use Prim.Native.Nat.{ℕ, ◌<◌}
use mathlib.Core.Path.{◌≡◌, sym, subst, ◌∙◌}
use native.Mathlib.Omega.{arith}
use Rattle.masks.proofs.Member.{member_lt}
use Rattle.expression.proofs.Framing.{tour_place, none_place, pieces_place}
use Rattle.expression.proofs.frames.of_place.Goals as goal

pub returns-then-slot-ge-PLACES : goal.returns-then-slot-ge-PLACES
returns-then-slot-ge-PLACES c = let a = c.args in pieces_place a.back.now a.set_count a.opened.now a.slot c.of_set.result c.if-slot-ge-PLACES.true c.requires.1 c.of_set.ensures

pub returns-then-p-eq0 : goal.returns-then-p-eq0
returns-then-p-eq0 c = let a = c.args in none_place a.back.now a.set_count a.opened.now a.slot c.if-slot-ge-PLACES.false (sym c.set_at-p.ensures ∙ c.if-p-eq0.true)

pub of_set-requires-2 : goal.of_set-requires-2
of_set-requires-2 c = (c.requires.0, omega arith, λ q e. let same : c.lowest.result ≡ q = cc in subst (λ (x : ℕ). x < 64) same (member_lt c.lowest.result c.set_at-p.result c.lowest.ensures.is))

pub returns : goal.returns
returns c = let a = c.args in tour_place a.back.now a.set_count a.opened.now a.slot c.of_set-2.result c.lowest.result c.if-slot-ge-PLACES.false (rw c.set_at-p.ensures at c.lowest.ensures.is) c.of_set-2.ensures

-- `found_at` meets its contract: with an entrance and an exit the mix is tested first, else the loop alone, from a part that loops.
use mathlib.Core.Path.{sym, ◌∙◌}
use Rattle.std.proofs.lemmas.Bool.{not_from_false}
use Rattle.lists.proofs.Deciding.{denied}
use Rattle.masks.proofs.Member.{not_both}
use Rattle.candidates.proofs.Finding.{finds_neither, finds_mix, finds_loop, joined_parts}
use Rattle.candidates.proofs.Trial.found_at.Goals as goal

pub returns-then-not-covered : goal.returns-then-not-covered
returns-then-not-covered c d =
    let f = c.forth-forth.ensures in
    let here = rw f at c.set_at-p.ensures in
    finds_neither c.args.i (rw (f, here) at c.inner-parts.ensures) c.intersection-m.result c.intersection-n.result
    (rw (c.lefts_at.ensures, f, here) at c.intersection-m.ensures) (rw (c.rights_at.ensures, f, here) at c.intersection-n.ensures)
    (d.to (sym c.has.ensures ∙ c.if-has.true)) (rw here at (denied c.covered.ensures (not_from_false _ c.if-not-covered.true)))

pub returns-then-has : goal.returns-then-has
returns-then-has c d =
    let f = c.forth-forth.ensures in
    let here = rw f at c.set_at-p.ensures in
    finds_mix c.args.i (rw (f, here) at c.inner-parts.ensures) c.intersection-m.result c.intersection-n.result
    (rw (c.lefts_at.ensures, f, here) at c.intersection-m.ensures) (rw (c.rights_at.ensures, f, here) at c.intersection-n.ensures)
    c.marked.result c.with.result (rw here at (c.covered.ensures.to c.if-not-covered.false)) (rw here at c.joined.ensures)
    c.marked.ensures c.with.ensures

pub loops-requires : goal.loops-requires
loops-requires c =
    let f = c.forth-forth.ensures in
    joined_parts c.args.self.now.fresh c.requires.1 c.set_at-p.result (rw f at c.inner-parts.ensures) c.part_among-part.result (rw (c.parts.ensures, f) at c.part_among-part.ensures)

pub returns : goal.returns
returns c d =
    let f = c.forth-forth.ensures in
    let here = rw f at c.set_at-p.ensures in
    finds_loop c.args.i (rw (f, here) at c.inner-parts.ensures) c.marked-2.result (λ h. not_both (c.has.ensures ∙ d.of h) c.if-has.false)
    (rw here at c.loops.ensures) c.marked-2.ensures
